-- Key records, after turns each of which may come after those before it.
use Rattle.std.proofs.Common.{◌≡◌, ℕ, suc, ◌+◌, ◌<◌, ◌≤◌, ◌==◌, ◌&&◌, nat_le, if◌then◌else◌, Bool, true, false, List, [], ◌∷◌, ◌++◌, length, Option, Some, None, refl, sym, ap, ◌∙◌, arith}
use Rattle.std.proofs.lemmas.Bool.{lt-leb}
use Rattle.std.proofs.lemmas.Bool.Decides.{nat_tests}
use Rattle.ph_base.specs.declared.acquirer.Ruling.{Ruling}
use Rattle.ph_items.specs.declared.intents.CaptureMethod.{CaptureMethod}
use Rattle.ph_items.specs.declared.orders.Order.{Order}
use Rattle.ph_attempts.specs.declared.flights.Flight.{Flight}
use Rattle.ph_doings.specs.Confirmations.{begun_by}
use Rattle.ph_facts.specs.Touches.{Cause}
use Rattle.ph_doings.specs.Doings.{Doing, Leaves, Puts, Edits, Begins, Resumes, Parks, Settles}
use Rattle.ph_doings.specs.Lawful.{MayDo}
use Rattle.ph_doings.specs.RecordLaws.{KeyAddsNone, OpensRecord, RepeatFinds, SavedStays}
use Rattle.ph_doings.specs.Records.{AreLawful, DoesByFound, Found, Fresh, Differs, Live, Parked, Saved, Opened, Opens, Said, Replies, Silence, Waits, Turn, a_day, doings_of, found_in, last_opened, opened_by, record_of, result_of, result_of_attempt, result_said, said_at, settled_at, time_of}
use Rattle.ph_doings.specs.Standings.{Standing, NotBegun, Stands, standing_of}
use Rattle.ph_doings.specs.Standings as attempt

-- ---- times and places

time_grows : {A : Type 0} (same like : A → A → Bool) (opened : ℕ) (past later : List (Turn A)) → AreLawful same like opened (later ++ past)
    → time_of opened past ≤ time_of opened (later ++ past)
time_grows same like opened past [] lawful = omega arith
time_grows same like opened past (turn ∷ later) lawful =
    let before : time_of opened past ≤ time_of opened (later ++ past) = time_grows same like opened past later lawful.1 in
    let next : time_of opened (later ++ past) ≤ turn.time = lawful.0.time in
    omega (arith, before, next)

length_grows : {A : Type 0} (past later : List (Turn A)) → length past ≤ length (later ++ past)
length_grows past [] = omega arith
length_grows past (turn ∷ later) = let more = length_grows past later in omega (arith, more)

-- what was said to an entry stays
said_stays : {A : Type 0} (past later : List (Turn A)) (place : ℕ) → place ≤ length past → said_at (later ++ past) place ≡ said_at past place
said_stays past [] place le = refl
said_stays past (turn ∷ later) place le =
    let within : length past ≤ length (later ++ past) = length_grows past later in
    let apart : (place == suc (length (later ++ past))) ≡ false = grind (arith, nat_tests) in
    rw apart (said_stays past later place le)

-- nothing was said to an entry that isn't there
pub said_within : {A : Type 0} (past : List (Turn A)) (place : ℕ) → length past < place → said_at past place ≡ Silence
said_within [] place lt = refl
said_within (turn ∷ past) place lt =
    let apart : (place == suc (length past)) ≡ false = grind (arith, nat_tests) in
    rw apart (said_within past place (omega (arith, lt)))

-- ---- the last record

one_stays : {A : Type 0} (of like : A → Bool) (asked : Option A) (place now p m : ℕ) (s : Bool) (old : Opened) → old ≡ Opens p s m
    → now < m + a_day → opened_by of like asked place now old ≡ Opens p s m
one_stays of like None place now p m s old is lt = is
one_stays of like (Some asked) place now p m s old is lt = rw is (at (of asked) (nat_le (m + a_day) now) (lt-leb (m + a_day) now lt))
  where
    at : (mine over : Bool) → over ≡ false → (if mine && over then Opens place (like asked) now else Opens p s m) ≡ Opens p s m
    at true over e = rw e refl
    at false over e = refl

-- within its day the last record stays the last
opener_stays : {A : Type 0} (same like : A → A → Bool) (of shape : A → Bool) (opened : ℕ) (past later : List (Turn A)) (p m : ℕ) (s : Bool)
    → AreLawful same like opened (later ++ past) → last_opened of shape opened past ≡ Opens p s m → time_of opened (later ++ past) < m + a_day
    → last_opened of shape opened (later ++ past) ≡ Opens p s m
opener_stays same like of shape opened past [] p m s lawful is lt = is
opener_stays same like of shape opened past (turn ∷ later) p m s lawful is lt =
    let next : time_of opened (later ++ past) ≤ turn.time = lawful.0.time in
    let soon : time_of opened (later ++ past) < m + a_day = omega (arith, next, lt) in
    one_stays of shape turn.asked (suc (length (later ++ past))) (time_of opened (later ++ past)) p m s (last_opened of shape opened (later ++ past))
    (opener_stays same like of shape opened past later p m s lawful.1 is soon) soon

-- the record that a turn opens
opens_it : {A : Type 0} (of like : A → Bool) (opened : ℕ) (past : List (Turn A)) (turn : Turn A) (asked : A) → OpensRecord of like opened past turn asked
    → last_opened of like opened (turn ∷ past) ≡ Opens (suc (length past)) (like asked) (time_of opened past)
opens_it of like opened past turn asked opens = rw (opens.asked_is, opens.key, opens.fresh) refl

-- what is found of a record within its day
found_soon : {A : Type 0} (past : List (Turn A)) (now place m : ℕ) (s : Bool) → now < m + a_day
    → found_in past now (Opens place s m) ≡ (if s then result_of past place else Differs)
found_soon past now place m s lt = rw (lt-leb (m + a_day) now lt) refl

found_of : {A : Type 0} (same like : A → A → Bool) (of shape : A → Bool) (opened : ℕ) (older later : List (Turn A)) (opener : Turn A) (first : A)
    → AreLawful same like opened (later ++ opener ∷ older) → OpensRecord of shape opened older opener first
    → time_of opened (later ++ opener ∷ older) < time_of opened older + a_day
    → record_of of shape opened (later ++ opener ∷ older) ≡ (if shape first then result_of (later ++ opener ∷ older) (suc (length older)) else Differs)
found_of same like of shape opened older later opener first lawful opens soon =
    let stays : last_opened of shape opened (later ++ opener ∷ older) ≡ Opens (suc (length older)) (shape first) (time_of opened older) =
    opener_stays same like of shape opened (opener ∷ older) later (suc (length older)) (time_of opened older) (shape first) lawful
    (opens_it of shape opened older opener first opens) soon in
    ap (found_in (later ++ opener ∷ older) (time_of opened (later ++ opener ∷ older))) stays
    ∙ found_soon (later ++ opener ∷ older) (time_of opened (later ++ opener ∷ older)) (suc (length older)) (time_of opened older) (shape first) soon

pub repeat_finds : {A : Type 0} → RepeatFinds A
repeat_finds same like opened older later opener first asked lawful opens alike soon =
    found_of same like (same asked) (like asked) opened older later opener first lawful opens soon ∙ rw alike refl

-- ---- saved results

-- an attempt that is settled stays so, and by the same doing
abbrev SettledStays : List Doing → Doing → ℕ → Type 0
SettledStays past doing reference = (intent : ℕ) (order : Order) (ruling : Ruling)
    → standing_of past reference ≡ Stands intent order (attempt.Settled ruling)
    → (standing_of (doing ∷ past) reference ≡ Stands intent order (attempt.Settled ruling))
    × (settled_at (doing ∷ past) reference ≡ settled_at past reference)

begins_settled : (past : List Doing) (cause : Cause) (intent : ℕ) (flight : Flight) (reference : ℕ)
    → standing_of past flight.order.reference ≡ NotBegun → SettledStays past (Begins cause intent flight) reference
begins_settled past cause intent flight reference new i o x is = (grind (arith, nat_tests, new), refl)

resumes_settled : (past : List Doing) (intent : ℕ) (flight : Flight) (reference : ℕ)
    → standing_of past flight.order.reference ≡ Stands intent flight.order attempt.Parked → SettledStays past (Resumes intent flight) reference
resumes_settled past intent flight reference parked i o x is = (grind (arith, nat_tests, parked), refl)

parks_settled : (past : List Doing) (intent : ℕ) (flight : Flight) (reference : ℕ)
    → standing_of past flight.order.reference ≡ Stands intent flight.order attempt.Live → SettledStays past (Parks intent flight) reference
parks_settled past intent flight reference live i o x is = (grind (arith, nat_tests, live), refl)

settles_settled : (past : List Doing) (intent : ℕ) (flight : Flight) (capture : CaptureMethod) (ruling : Ruling) (reference : ℕ)
    → standing_of past flight.order.reference ≡ Stands intent flight.order attempt.Live → SettledStays past (Settles intent flight capture ruling) reference
settles_settled past intent flight capture ruling reference live i o x is =
    (grind (arith, nat_tests, live), grind (arith, nat_tests, live))

settled_stays : (past : List Doing) (doing : Doing) (reference : ℕ) → MayDo past doing → SettledStays past doing reference
settled_stays past Leaves reference may = λ i o x is. (is, refl)
settled_stays past (Puts intent put) reference may = λ i o x is. (is, refl)
settled_stays past (Edits intent put) reference may = λ i o x is. (is, refl)
settled_stays past (Begins cause intent flight) reference may = begins_settled past cause intent flight reference may.1
settled_stays past (Resumes intent flight) reference may = resumes_settled past intent flight reference may.1
settled_stays past (Parks intent flight) reference may = parks_settled past intent flight reference may.1
settled_stays past (Settles intent flight capture ruling) reference may = settles_settled past intent flight capture ruling reference may.1

-- a saved result of an attempt stays
attempt_stays : (past : List Doing) (doing : Doing) (reference saved : ℕ) → MayDo past doing → (standing : Standing)
    → standing_of past reference ≡ standing → result_of_attempt past reference standing ≡ Saved saved
    → result_of_attempt (doing ∷ past) reference (standing_of (doing ∷ past) reference) ≡ Saved saved
attempt_stays past doing reference saved may NotBegun is h = absurd (cc)
attempt_stays past doing reference saved may (Stands intent order attempt.Live) is h = absurd (cc)
attempt_stays past doing reference saved may (Stands intent order attempt.Parked) is h = absurd (cc)
attempt_stays past doing reference saved may (Stands intent order (attempt.Settled ruling)) is h =
    let kept = settled_stays past doing reference may intent order ruling is in
    ap (result_of_attempt (doing ∷ past) reference) kept.0 ∙ ap Saved kept.1 ∙ h

result_stays : (past : List Doing) (doing : Doing) (place saved : ℕ) (said : Said) → MayDo past doing → result_said past place said ≡ Saved saved
    → result_said (doing ∷ past) place said ≡ Saved saved
result_stays past doing place saved Replies may h = h
result_stays past doing place saved Silence may h = absurd (cc)
result_stays past doing place saved (Waits reference) may h = attempt_stays past doing reference saved may (standing_of past reference) refl h

results_stay : {A : Type 0} (same like : A → A → Bool) (opened : ℕ) (past later : List (Turn A)) (place saved : ℕ) (said : Said)
    → AreLawful same like opened (later ++ past) → result_said (doings_of past) place said ≡ Saved saved
    → result_said (doings_of (later ++ past)) place said ≡ Saved saved
results_stay same like opened past [] place saved said lawful h = h
results_stay same like opened past (turn ∷ later) place saved said lawful h =
    result_stays (doings_of (later ++ past)) turn.doing place saved said lawful.0.doing
    (results_stay same like opened past later place saved said lawful.1 h)

pub saved_stays : {A : Type 0} → SavedStays A
saved_stays same like opened older later place saved lawful h = at (nat_le place (length older)) refl
  where
    at : (there : Bool) → nat_le place (length older) ≡ there → result_of (later ++ older) place ≡ Saved saved
    at true e =
        let said : said_at (later ++ older) place ≡ said_at older place = said_stays older later place (grind (arith, nat_tests)) in
        ap (result_said (doings_of (later ++ older)) place) said
        ∙ results_stay same like opened older later place saved (said_at older place) lawful h
    at false e =
        let none : said_at older place ≡ Silence = said_within older place (grind (arith, nat_tests)) in
        let wrong : Live ≡ Saved saved = ap (result_said (doings_of older) place) (sym none) ∙ h in
        absurd (cc)

-- ---- what a key adds

-- a call that finds a record begins no attempt
adds_none : (found : Found) (doing : Doing) → (found ≡ Fresh → ⊥) → DoesByFound found doing → begun_by doing ≡ None
adds_none Fresh doing known does = absurd (known refl)
adds_none Differs doing known does = rw does refl
adds_none Live doing known does = rw does refl
adds_none (Parked reference) doing known does = rw does.doing_is refl
adds_none (Saved place) doing known does = rw does refl

not_fresh_attempt : (past : List Doing) (reference : ℕ) (standing : Standing) → result_of_attempt past reference standing ≡ Fresh → ⊥
not_fresh_attempt past reference NotBegun is = cc
not_fresh_attempt past reference (Stands intent order attempt.Live) is = cc
not_fresh_attempt past reference (Stands intent order attempt.Parked) is = cc
not_fresh_attempt past reference (Stands intent order (attempt.Settled ruling)) is = cc

pub not_fresh : (past : List Doing) (place : ℕ) (said : Said) → result_said past place said ≡ Fresh → ⊥
not_fresh past place Replies is = cc
not_fresh past place Silence is = cc
not_fresh past place (Waits reference) is = not_fresh_attempt past reference (standing_of past reference) is

not_fresh_found : (past : List Doing) (place : ℕ) (said : Said) (same : Bool) → (if same then result_said past place said else Differs) ≡ Fresh → ⊥
not_fresh_found past place said true is = not_fresh past place said is
not_fresh_found past place said false is = cc

pub key_adds_none : {A : Type 0} → KeyAddsNone A
key_adds_none same like opened older later opener turn first asked lawful opens asks soon =
    let found : record_of (same asked) (like asked) opened (later ++ opener ∷ older)
    ≡ (if like asked first then result_of (later ++ opener ∷ older) (suc (length older)) else Differs) =
    found_of same like (same asked) (like asked) opened older later opener first lawful.1 opens soon in
    adds_none (record_of (same asked) (like asked) opened (later ++ opener ∷ older)) turn.doing
    (λ fresh. not_fresh_found (doings_of (later ++ opener ∷ older)) (suc (length older)) (said_at (later ++ opener ∷ older) (suc (length older)))
    (like asked first) (sym found ∙ fresh))
    (lawful.0.keyed asked asks)
