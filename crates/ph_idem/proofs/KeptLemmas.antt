-- The records that are kept after one turn more.
use Rattle.std.proofs.Common.{◌≡◌, ℕ, suc, ◌<◌, ◌≤◌, ◌==◌, Bool, true, false, if◌then◌else◌, List, [], ◌∷◌, ◌++◌, length, map, Option, Some, None, refl, sym, ap, ◌∙◌, arith, subst}
use Rattle.std.specs.List.{find}
use Rattle.std.proofs.lemmas.Bool.Decides.{nat_tests}
use Rattle.ph_base.specs.declared.acquirer.Ruling.{Ruling}
use Rattle.ph_attempts.specs.declared.flights.Flight.{Flight}
use Rattle.ph_facts.specs.Touches.{Cause}
use Rattle.ph_items.specs.declared.intents.CaptureMethod.{CaptureMethod}
use Rattle.ph_doings.specs.Confirmations.{begun_at, begun_by}
use Rattle.ph_doings.specs.Doings.{Doing, Leaves, Puts, Edits, Begins, Resumes, Parks, Settles}
use Rattle.ph_doings.specs.Lawful.{MayDo}
use Rattle.ph_doings.specs.Records.{Saved, Said, Replies, Silence, Waits, Turn, doings_of, is_over, last_opened, result_of_attempt, result_said, said_at, settled_at, time_of}
use Rattle.ph_doings.specs.Standings.{Live, Parked, Settled, Standing, NotBegun, Stands, standing_of}
use Rattle.ph_doings.proofs.Newest.{has_begun}
use Rattle.ph_doings.proofs.Kept.{sound}
use Rattle.ph_doings.proofs.Sound.{HasOwnReferences}
use Rattle.ph_idem.specs.declared.key_record.KeyRecord.{KeyRecord}
use Rattle.ph_idem.specs.declared.key_record.Saved.{Saved as Reply}
use Rattle.ph_idem.specs.declared.asked.Asked.{Asked}
use Rattle.ph_idem.specs.Kept.{Opening, has_key, is_like, kept_of, opening_of, openings, records_after, reference_said, reply_found}
use Rattle.ph_idem.specs.Laws.{RecordsAreKept, Tells, TellsIf, opened_as, saved_under, with_opened, with_settled}
use Rattle.ph_idem.specs.Records.{is_attached, with_result}
use Rattle.ph_idem.proofs.OpenLemmas.{AreOpened, IsOpened, are_opened, lawful_doings, length_doings}

-- ---- what was saved for a call, after one doing more

-- what is saved for a call to which this was said, after a doing of the last place that settles it or another
abbrev pub result_after : Reply → Doing → Said → Option Reply → Option Reply
result_after reply (Settles intent flight capture ruling) (Waits reference) old = if reference == flight.order.reference then Some reply else old
result_after reply (Settles intent flight capture ruling) Replies old = old
result_after reply (Settles intent flight capture ruling) Silence old = old
result_after reply Leaves said old = old
result_after reply (Puts intent status) said old = old
result_after reply (Edits intent status) said old = old
result_after reply (Begins cause intent flight) said old = old
result_after reply (Resumes intent flight) said old = old
result_after reply (Parks intent flight) said old = old

-- the attempt of a reference stands so, and was settled where it was
same_attempt : (one other : List Doing) (reference : ℕ) (standing : Standing) → settled_at one reference ≡ settled_at other reference
    → result_of_attempt one reference standing ≡ result_of_attempt other reference standing
same_attempt one other reference NotBegun same = refl
same_attempt one other reference (Stands intent order Live) same = refl
same_attempt one other reference (Stands intent order Parked) same = refl
same_attempt one other reference (Stands intent order (Settled ruling)) same = ap Saved same

abbrev pub ResultAfter : (ℕ → Reply) → List Doing → Doing → ℕ → Type 0
ResultAfter reply past doing reference =
    reply_found reply (result_of_attempt (doing ∷ past) reference (standing_of (doing ∷ past) reference))
    ≡ result_after (reply (suc (length past))) doing (Waits reference) (reply_found reply (result_of_attempt past reference (standing_of past reference)))

after_quiet : (reply : ℕ → Reply) (past : List Doing) (doing : Doing) (reference : ℕ)
    → standing_of (doing ∷ past) reference ≡ standing_of past reference → settled_at (doing ∷ past) reference ≡ settled_at past reference
    → reply_found reply (result_of_attempt (doing ∷ past) reference (standing_of (doing ∷ past) reference))
    ≡ reply_found reply (result_of_attempt past reference (standing_of past reference))
after_quiet reply past doing reference stands settled =
    ap (λ standing. reply_found reply (result_of_attempt (doing ∷ past) reference standing)) stands
    ∙ ap (reply_found reply) (same_attempt (doing ∷ past) past reference (standing_of past reference) settled)

after_begins : (reply : ℕ → Reply) (past : List Doing) (cause : Cause) (intent : ℕ) (flight : Flight) (reference : ℕ)
    → standing_of past flight.order.reference ≡ NotBegun → has_begun (standing_of past reference) ≡ true
    → ResultAfter reply past (Begins cause intent flight) reference
after_begins reply past cause intent flight reference new begun = at (reference == flight.order.reference) refl
  where
    at : (same : Bool) → (reference == flight.order.reference) ≡ same → ResultAfter reply past (Begins cause intent flight) reference
    at true e =
        let is : reference ≡ flight.order.reference = grind (arith, nat_tests, e) in
        let wrong : has_begun NotBegun ≡ true = sym (ap has_begun (ap (standing_of past) is ∙ new)) ∙ begun in
        absurd (cc)
    at false e = after_quiet reply past (Begins cause intent flight) reference (rw e refl) refl

after_resumes : (reply : ℕ → Reply) (past : List Doing) (intent : ℕ) (flight : Flight) (reference : ℕ)
    → standing_of past flight.order.reference ≡ Stands intent flight.order Parked → ResultAfter reply past (Resumes intent flight) reference
after_resumes reply past intent flight reference parked = at (reference == flight.order.reference) refl
  where
    at : (same : Bool) → (reference == flight.order.reference) ≡ same → ResultAfter reply past (Resumes intent flight) reference
    at true e =
        let is : reference ≡ flight.order.reference = grind (arith, nat_tests, e) in
        let old : standing_of past reference ≡ Stands intent flight.order Parked = ap (standing_of past) is ∙ parked in
        rw (e, old) refl
    at false e = after_quiet reply past (Resumes intent flight) reference (rw e refl) refl

after_parks : (reply : ℕ → Reply) (past : List Doing) (intent : ℕ) (flight : Flight) (reference : ℕ)
    → standing_of past flight.order.reference ≡ Stands intent flight.order Live → ResultAfter reply past (Parks intent flight) reference
after_parks reply past intent flight reference live = at (reference == flight.order.reference) refl
  where
    at : (same : Bool) → (reference == flight.order.reference) ≡ same → ResultAfter reply past (Parks intent flight) reference
    at true e =
        let is : reference ≡ flight.order.reference = grind (arith, nat_tests, e) in
        let old : standing_of past reference ≡ Stands intent flight.order Live = ap (standing_of past) is ∙ live in
        rw (e, old) refl
    at false e = after_quiet reply past (Parks intent flight) reference (rw e refl) refl

after_settles : (reply : ℕ → Reply) (past : List Doing) (intent : ℕ) (flight : Flight) (capture : CaptureMethod) (ruling : Ruling) (reference : ℕ)
    → ResultAfter reply past (Settles intent flight capture ruling) reference
after_settles reply past intent flight capture ruling reference = at (reference == flight.order.reference) refl
  where
    at : (same : Bool) → (reference == flight.order.reference) ≡ same → ResultAfter reply past (Settles intent flight capture ruling) reference
    at true e =
        let placed : (if reference == flight.order.reference then suc (length past) else settled_at past reference) ≡ suc (length past) = rw e refl in
        rw e (ap (λ n. Some (reply n)) placed)
    at false e = after_quiet reply past (Settles intent flight capture ruling) reference (rw e refl) (rw e refl) ∙ rw e refl

after_attempt : (reply : ℕ → Reply) (past : List Doing) (doing : Doing) (reference : ℕ) → MayDo past doing
    → has_begun (standing_of past reference) ≡ true → ResultAfter reply past doing reference
after_attempt reply past Leaves reference may begun = after_quiet reply past Leaves reference refl refl
after_attempt reply past (Puts intent status) reference may begun = after_quiet reply past (Puts intent status) reference refl refl
after_attempt reply past (Edits intent status) reference may begun = after_quiet reply past (Edits intent status) reference refl refl
after_attempt reply past (Begins cause intent flight) reference may begun = after_begins reply past cause intent flight reference may.1 begun
after_attempt reply past (Resumes intent flight) reference may begun = after_resumes reply past intent flight reference may.1
after_attempt reply past (Parks intent flight) reference may begun = after_parks reply past intent flight reference may.1
after_attempt reply past (Settles intent flight capture ruling) reference may begun = after_settles reply past intent flight capture ruling reference

after_none : (reply : Reply) (doing : Doing) (old : Option Reply) → (result_after reply doing Replies old ≡ old) × (result_after reply doing Silence old ≡ old)
after_none reply Leaves old = (refl, refl)
after_none reply (Puts intent status) old = (refl, refl)
after_none reply (Edits intent status) old = (refl, refl)
after_none reply (Begins cause intent flight) old = (refl, refl)
after_none reply (Resumes intent flight) old = (refl, refl)
after_none reply (Parks intent flight) old = (refl, refl)
after_none reply (Settles intent flight capture ruling) old = (refl, refl)

-- where what was said began, what is found is what was found, or is settled now
after_said : (reply : ℕ → Reply) (past : List Doing) (doing : Doing) (place : ℕ) (said : Said) → MayDo past doing
    → ((reference : ℕ) → said ≡ Waits reference → has_begun (standing_of past reference) ≡ true)
    → reply_found reply (result_said (doing ∷ past) place said)
    ≡ result_after (reply (suc (length past))) doing said (reply_found reply (result_said past place said))
after_said reply past doing place Replies may begun = sym (after_none (reply (suc (length past))) doing (Some (reply place))).0
after_said reply past doing place Silence may begun = sym (after_none (reply (suc (length past))) doing None).1
after_said reply past doing place (Waits reference) may begun = after_attempt reply past doing reference may (begun reference refl)

-- ---- one record, after one turn more

abbrev pub kept_with : Opening → Said → Option Reply → KeyRecord
kept_with opening said result = record {
  account = opening.asked.account;
  key = opening.asked.key;
  shape = opening.asked.shape;
  entry = opening.place;
  at = opening.moment;
  reference = reference_said said;
  result = result;
}

-- a record after a ruling on the attempt of a reference
abbrev pub marked_by : Reply → ℕ → KeyRecord → KeyRecord
marked_by reply reference kept = if is_attached reference kept then with_result reply kept else kept

abbrev pub marked : Reply → Doing → KeyRecord → KeyRecord
marked reply Leaves kept = kept
marked reply (Puts intent status) kept = kept
marked reply (Edits intent status) kept = kept
marked reply (Begins cause intent flight) kept = kept
marked reply (Resumes intent flight) kept = kept
marked reply (Parks intent flight) kept = kept
marked reply (Settles intent flight capture ruling) kept = marked_by reply flight.order.reference kept

marked_with : (reply : Reply) (doing : Doing) (opening : Opening) (said : Said) (old : Option Reply)
    → kept_with opening said (result_after reply doing said old) ≡ marked reply doing (kept_with opening said old)
marked_with reply Leaves opening said old = refl
marked_with reply (Puts intent status) opening said old = refl
marked_with reply (Edits intent status) opening said old = refl
marked_with reply (Begins cause intent flight) opening said old = refl
marked_with reply (Resumes intent flight) opening said old = refl
marked_with reply (Parks intent flight) opening said old = refl
marked_with reply (Settles intent flight capture ruling) opening Replies old = refl
marked_with reply (Settles intent flight capture ruling) opening Silence old = refl
marked_with reply (Settles intent flight capture ruling) opening (Waits reference) old = at (reference == flight.order.reference)
  where
    at : (same : Bool) → kept_with opening (Waits reference) (if same then Some reply else old)
        ≡ (if same then with_result reply (kept_with opening (Waits reference) old) else kept_with opening (Waits reference) old)
    at true = refl
    at false = refl

kept_one : (reply : ℕ → Reply) (past : List (Turn Asked)) (turn : Turn Asked) (opening : Opening) (bound : ℕ)
    → MayDo (doings_of past) turn.doing → HasOwnReferences (doings_of past) → IsOpened past opening bound
    → kept_of reply (turn ∷ past) opening ≡ marked (reply (suc (length past))) turn.doing (kept_of reply past opening)
kept_one reply past turn opening bound may own is =
    let within = is.within in
    let apart : (opening.place == suc (length past)) ≡ false = grind (arith, nat_tests, within) in
    let said : said_at (turn ∷ past) opening.place ≡ said_at past opening.place = rw apart refl in
    let after : reply_found reply (result_said (turn.doing ∷ doings_of past) opening.place (said_at past opening.place))
    ≡ result_after (reply (suc (length (doings_of past)))) turn.doing (said_at past opening.place)
    (reply_found reply (result_said (doings_of past) opening.place (said_at past opening.place))) =
    after_said reply (doings_of past) turn.doing opening.place (said_at past opening.place) may
    (λ reference waits. own.begun opening.place reference (is.begun reference waits)) in
    ap (λ (s : Said). kept_with opening s (reply_found reply (result_said (turn.doing ∷ doings_of past) opening.place s))) said
    ∙ ap (kept_with opening (said_at past opening.place)) after
    ∙ marked_with (reply (suc (length (doings_of past)))) turn.doing opening (said_at past opening.place)
    (reply_found reply (result_said (doings_of past) opening.place (said_at past opening.place)))
    ∙ ap (λ n. marked (reply (suc n)) turn.doing (kept_of reply past opening)) (length_doings past)

kept_all : (reply : ℕ → Reply) (past : List (Turn Asked)) (turn : Turn Asked) (all : List Opening) (bound : ℕ)
    → MayDo (doings_of past) turn.doing → HasOwnReferences (doings_of past) → AreOpened past bound all
    → map (kept_of reply (turn ∷ past)) all ≡ map (marked (reply (suc (length past))) turn.doing) (map (kept_of reply past) all)
kept_all reply past turn [] bound may own are = refl
kept_all reply past turn (opening ∷ all) bound may own are =
    ap (λ (first : KeyRecord). first ∷ map (kept_of reply (turn ∷ past)) all) (kept_one reply past turn opening bound may own are.0)
    ∙ ap (λ (rest : List KeyRecord). marked (reply (suc (length past))) turn.doing (kept_of reply past opening) ∷ rest)
    (kept_all reply past turn all opening.place may own are.1)

-- ---- all records, after a ruling

map_same : (change : KeyRecord → KeyRecord) (records : List KeyRecord) → ((kept : KeyRecord) → change kept ≡ kept) → map change records ≡ records
map_same change [] same = refl
map_same change (kept ∷ records) same =
    ap (λ (first : KeyRecord). first ∷ map change records) (same kept) ∙ ap (λ (rest : List KeyRecord). kept ∷ rest) (map_same change records same)

-- a record that an attempt is attached to is of a call that waits for it
attached_said : (reply : ℕ → Reply) (past : List (Turn Asked)) (opening : Opening) (reference : ℕ)
    → is_attached reference (kept_of reply past opening) ≡ true → said_at past opening.place ≡ Waits reference
attached_said reply past opening reference is = at (said_at past opening.place) refl
  where
    at : (said : Said) → said_at past opening.place ≡ said → said_at past opening.place ≡ Waits reference
    at Replies e = let wrong : false ≡ true = rw e at is in absurd (cc)
    at Silence e = let wrong : false ≡ true = rw e at is in absurd (cc)
    at (Waits other) e =
        let same : (other == reference) ≡ true = rw e at is in
        let waits : other ≡ reference = grind (arith, nat_tests, same) in
        e ∙ ap Waits waits

-- behind an opening that began an attempt no other waits for it
unmarked : (reply : ℕ → Reply) (past : List (Turn Asked)) (settled : Reply) (reference place : ℕ) (all : List Opening) (bound : ℕ)
    → HasOwnReferences (doings_of past) → begun_at (doings_of past) place ≡ Some reference → bound ≤ place → AreOpened past bound all
    → map (marked_by settled reference) (map (kept_of reply past) all) ≡ map (kept_of reply past) all
unmarked reply past settled reference place [] bound own begun le are = refl
unmarked reply past settled reference place (opening ∷ all) bound own begun le are =
    at (is_attached reference (kept_of reply past opening)) refl
    (unmarked reply past settled reference place all opening.place own begun (let below = are.0.below in omega (arith, below, le)) are.1)
  where
    at : (passes : Bool) → is_attached reference (kept_of reply past opening) ≡ passes
        → map (marked_by settled reference) (map (kept_of reply past) all) ≡ map (kept_of reply past) all
        → marked_by settled reference (kept_of reply past opening) ∷ map (marked_by settled reference) (map (kept_of reply past) all)
        ≡ kept_of reply past opening ∷ map (kept_of reply past) all
    at true e rest =
        let same : opening.place ≡ place =
        own.differ opening.place place reference (are.0.begun reference (attached_said reply past opening reference e)) begun in
        let below = are.0.below in
        absurd (omega (arith, same, below, le))
    at false e rest = rw e (ap (λ (more : List KeyRecord). kept_of reply past opening ∷ more) rest)

-- a record that is found is of an entry below the bound
kept_below : (reply : ℕ → Reply) (past : List (Turn Asked)) (test : KeyRecord → Bool) (all : List Opening) (bound : ℕ) (kept : KeyRecord)
    → AreOpened past bound all → find test (map (kept_of reply past) all) ≡ Some kept → kept.entry < bound
kept_below reply past test [] bound kept are is = absurd (cc)
kept_below reply past test (opening ∷ all) bound kept are is =
    at (test (kept_of reply past opening)) refl (kept_below reply past test all opening.place kept are.1)
  where
    at : (passes : Bool) → test (kept_of reply past opening) ≡ passes
        → (find test (map (kept_of reply past) all) ≡ Some kept → kept.entry < opening.place) → kept.entry < bound
    at true e rest =
        let same : Some (kept_of reply past opening) ≡ Some kept = rw e at is in
        let kept_is : kept_of reply past opening ≡ kept = cc in
        subst (λ (k : KeyRecord). k.entry < bound) kept_is are.0.below
    at false e rest =
        let behind : kept.entry < opening.place = rest (rw e at is) in
        let below = are.0.below in
        omega (arith, behind, below)

settled_all : (reply : ℕ → Reply) (past : List (Turn Asked)) (settled : Reply) (reference : ℕ) (all : List Opening) (bound : ℕ)
    → HasOwnReferences (doings_of past) → AreOpened past bound all
    → saved_under settled (find (is_attached reference) (map (kept_of reply past) all)) (map (kept_of reply past) all)
    ≡ map (marked_by settled reference) (map (kept_of reply past) all)
settled_all reply past settled reference [] bound own are = refl
settled_all reply past settled reference (opening ∷ all) bound own are =
    at (is_attached reference (kept_of reply past opening)) refl (settled_all reply past settled reference all opening.place own are.1)
  where
    behind : (found : Option KeyRecord) → find (is_attached reference) (map (kept_of reply past) all) ≡ found
        → saved_under settled found (kept_of reply past opening ∷ map (kept_of reply past) all)
        ≡ kept_of reply past opening ∷ saved_under settled found (map (kept_of reply past) all)
    behind None is = refl
    behind (Some kept) is =
        let below : kept.entry < opening.place = kept_below reply past (is_attached reference) all opening.place kept are.1 is in
        let apart : (opening.place == kept.entry) ≡ false = grind (arith, nat_tests, below) in
        rw apart refl

    at : (passes : Bool) → is_attached reference (kept_of reply past opening) ≡ passes
        → saved_under settled (find (is_attached reference) (map (kept_of reply past) all)) (map (kept_of reply past) all)
        ≡ map (marked_by settled reference) (map (kept_of reply past) all)
        → saved_under settled (find (is_attached reference) (kept_of reply past opening ∷ map (kept_of reply past) all))
        (kept_of reply past opening ∷ map (kept_of reply past) all)
        ≡ marked_by settled reference (kept_of reply past opening) ∷ map (marked_by settled reference) (map (kept_of reply past) all)
    at true e rest =
        let same : (opening.place == opening.place) ≡ true = grind (arith, nat_tests) in
        let begun : begun_at (doings_of past) opening.place ≡ Some reference = are.0.begun reference (attached_said reply past opening reference e) in
        let others : map (marked_by settled reference) (map (kept_of reply past) all) ≡ map (kept_of reply past) all =
        unmarked reply past settled reference opening.place all opening.place own begun (omega arith) are.1 in
        rw (e, same) (ap (λ (more : List KeyRecord). with_result settled (kept_of reply past opening) ∷ more) (sym others))
    at false e rest =
        rw e (behind (find (is_attached reference) (map (kept_of reply past) all)) refl
        ∙ ap (λ (more : List KeyRecord). kept_of reply past opening ∷ more) rest)

with_settled_all : (reply : ℕ → Reply) (past : List (Turn Asked)) (settled : Reply) (doing : Doing) (all : List Opening) (bound : ℕ)
    → HasOwnReferences (doings_of past) → AreOpened past bound all
    → with_settled settled doing (map (kept_of reply past) all) ≡ map (marked settled doing) (map (kept_of reply past) all)
with_settled_all reply past settled Leaves all bound own are = sym (map_same (marked settled Leaves) (map (kept_of reply past) all) (λ kept. refl))
with_settled_all reply past settled (Puts intent status) all bound own are = sym (map_same (marked settled (Puts intent status)) (map (kept_of reply past) all) (λ kept. refl))
with_settled_all reply past settled (Edits intent status) all bound own are = sym (map_same (marked settled (Edits intent status)) (map (kept_of reply past) all) (λ kept. refl))
with_settled_all reply past settled (Begins cause intent flight) all bound own are = sym (map_same (marked settled (Begins cause intent flight)) (map (kept_of reply past) all) (λ kept. refl))
with_settled_all reply past settled (Resumes intent flight) all bound own are = sym (map_same (marked settled (Resumes intent flight)) (map (kept_of reply past) all) (λ kept. refl))
with_settled_all reply past settled (Parks intent flight) all bound own are = sym (map_same (marked settled (Parks intent flight)) (map (kept_of reply past) all) (λ kept. refl))
with_settled_all reply past settled (Settles intent flight capture ruling) all bound own are = settled_all reply past settled flight.order.reference all bound own are

-- ---- a record that is opened

result_now : (reply : ℕ → Reply) (past : List Doing) (doing : Doing) (place reference : ℕ) → begun_by doing ≡ Some reference
    → reply_found reply (result_of_attempt (doing ∷ past) reference (standing_of (doing ∷ past) reference)) ≡ None
result_now reply past Leaves place reference is = absurd (cc)
result_now reply past (Puts intent status) place reference is = absurd (cc)
result_now reply past (Edits intent status) place reference is = absurd (cc)
result_now reply past (Begins cause intent flight) place reference is =
    let begun : flight.order.reference ≡ reference = cc in
    let same : (reference == flight.order.reference) ≡ true = grind (arith, nat_tests, begun) in
    rw same refl
result_now reply past (Resumes intent flight) place reference is = absurd (cc)
result_now reply past (Parks intent flight) place reference is = absurd (cc)
result_now reply past (Settles intent flight capture ruling) place reference is = absurd (cc)

opened_now : (reply : ℕ → Reply) (past : List (Turn Asked)) (turn : Turn Asked) (opening : Opening) → opening.place ≡ suc (length past)
    → Tells turn.said turn.doing → kept_of reply (turn ∷ past) opening ≡ opened_as reply turn.said opening
opened_now reply past turn opening is tells =
    let same : (opening.place == suc (length past)) ≡ true = grind (arith, nat_tests, is) in
    let said : said_at (turn ∷ past) opening.place ≡ turn.said = rw same refl in
    ap (λ (s : Said). kept_with opening s (reply_found reply (result_said (turn.doing ∷ doings_of past) opening.place s))) said
    ∙ at turn.said tells
  where
    at : (said : Said) → Tells said turn.doing
        → kept_with opening said (reply_found reply (result_said (turn.doing ∷ doings_of past) opening.place said)) ≡ opened_as reply said opening
    at Replies tells = refl
    at Silence tells = refl
    at (Waits reference) tells = ap (kept_with opening (Waits reference)) (result_now reply (doings_of past) turn.doing opening.place reference tells)

with_opening : (reply : ℕ → Reply) (opened : ℕ) (past : List (Turn Asked)) (turn : Turn Asked) (asked : Option Asked)
    → TellsIf (opening_of opened past asked) turn.said turn.doing
    → map (kept_of reply (turn ∷ past)) (opening_of opened past asked ++ openings opened past)
    ≡ with_opened reply turn.said (opening_of opened past asked) (map (kept_of reply (turn ∷ past)) (openings opened past))
with_opening reply opened past turn None tells = refl
with_opening reply opened past turn (Some asked) tells =
    at (is_over (last_opened (has_key asked) (is_like asked) opened past) (time_of opened past)) tells
  where
    at : (fresh : Bool)
        → TellsIf (if fresh then (record { asked = asked; place = suc (length past); moment = time_of opened past }) ∷ [] else []) turn.said turn.doing
        → map (kept_of reply (turn ∷ past))
        ((if fresh then (record { asked = asked; place = suc (length past); moment = time_of opened past }) ∷ [] else []) ++ openings opened past)
        ≡ with_opened reply turn.said (if fresh then (record { asked = asked; place = suc (length past); moment = time_of opened past }) ∷ [] else [])
        (map (kept_of reply (turn ∷ past)) (openings opened past))
    at true tells =
        ap (λ (first : KeyRecord). first ∷ map (kept_of reply (turn ∷ past)) (openings opened past))
        (opened_now reply past turn (record { asked = asked; place = suc (length past); moment = time_of opened past }) refl tells)
    at false tells = refl

pub records_are_kept : RecordsAreKept
records_are_kept reply opened past turn lawful told =
    let own : HasOwnReferences (doings_of past) = (sound (doings_of past) (lawful_doings opened past lawful.1)).references in
    let are : AreOpened past (suc (length past)) (openings opened past) = are_opened opened past told.1 in
    let old : map (kept_of reply (turn ∷ past)) (openings opened past) ≡ with_settled (reply (suc (length past))) turn.doing (records_after reply opened past) =
    kept_all reply past turn (openings opened past) (suc (length past)) lawful.0.doing own are
    ∙ sym (with_settled_all reply past (reply (suc (length past))) turn.doing (openings opened past) (suc (length past)) own are) in
    with_opening reply opened past turn turn.asked told.0
    ∙ ap (with_opened reply turn.said (opening_of opened past turn.asked)) old
