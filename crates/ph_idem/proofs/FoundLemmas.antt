-- What is found among the records that are kept, after every list of turns.
use Rattle.std.proofs.Common.{◌≡◌, ℕ, suc, ◌<◌, ◌≤◌, ◌+◌, ◌==◌, ◌&&◌, nat_le, Bool, true, false, if◌then◌else◌, List, [], ◌∷◌, ◌++◌, length, map, Option, Some, None, bytes_eq, refl, sym, ap, ◌∙◌, arith, subst, inl, inr}
use Rattle.std.specs.List.{find}
use Rattle.std.proofs.lemmas.Bool.Decides.{nat_tests}
use Rattle.std.proofs.lemmas.Slice.Eq.{bytes_eq-Decides}
use Rattle.ph_doings.specs.Doings.{Doing}
use Rattle.ph_doings.specs.Records.{Opened, Never, Opens, Said, Replies, Silence, Waits, Turn, a_day, doings_of, found_in, is_over, last_opened, opened_by, record_of, result_of, result_of_attempt, result_said, said_at, time_of}
use Rattle.ph_doings.specs.Records as doing
use Rattle.ph_doings.specs.Standings.{Standing, NotBegun, Stands, is_parked, standing_of}
use Rattle.ph_doings.specs.Standings as attempt
use Rattle.ph_idem.specs.declared.found.Found.TheVariants.{Fresh, Differs}
use Rattle.ph_idem.specs.declared.key_record.KeyRecord.{KeyRecord}
use Rattle.ph_idem.specs.declared.key_record.Saved.{Saved as Reply}
use Rattle.ph_idem.specs.declared.asked.Asked.{Asked}
use Rattle.ph_idem.specs.Kept.{Opening, has_key, is_like, kept_of, opening_of, openings, records_after, reference_said, reply_found}
use Rattle.ph_idem.specs.Laws.{FindsAs, RecordsAreFound}
use Rattle.ph_idem.specs.Records as kept
use Rattle.ph_idem.specs.Shapes.{is_same_shape}

-- ---- the last opening of a key

-- the last record of a key, as an opening of it says it
abbrev pub as_opened : Asked → Option Opening → Opened
as_opened asked None = Never
as_opened asked (Some opening) = Opens opening.place (is_like asked opening.asked) opening.moment

abbrev pub of_key : Asked → Opening → Bool
of_key asked opening = has_key asked opening.asked

-- whether a record is over doesn't depend on who looks for it
over_same : (asked other : Asked) (opening : Option Opening) (now : ℕ) → is_over (as_opened asked opening) now ≡ is_over (as_opened other opening) now
over_same asked other None now = refl
over_same asked other (Some opening) now = refl

-- calls of one key look for the same openings
same_key : (asked other : Asked) → has_key asked other ≡ true → (all : List Opening) → find (of_key asked) all ≡ find (of_key other) all
same_key asked other same all =
    let account : other.account ≡ asked.account = account_is (other.account == asked.account) (bytes_eq other.key asked.key) refl same in
    let key : other.key ≡ asked.key = key_is (other.account == asked.account) (bytes_eq other.key asked.key) refl same in
    ap (λ (k : List ℕ). find (λ (o : Opening). o.asked.account == asked.account && bytes_eq o.asked.key k) all) (sym key)
    ∙ ap (λ (a : ℕ). find (λ (o : Opening). o.asked.account == a && bytes_eq o.asked.key other.key) all) (sym account)
  where
    account_is : (one two : Bool) → (other.account == asked.account) ≡ one → (one && two) ≡ true → other.account ≡ asked.account
    account_is true two e both = grind (arith, nat_tests, e)
    account_is false two e both = absurd (cc)

    key_is : (one two : Bool) → bytes_eq other.key asked.key ≡ two → (one && two) ≡ true → other.key ≡ asked.key
    key_is true true e both = (bytes_eq-Decides other.key asked.key).0 e
    key_is true false e both = absurd (cc)
    key_is false two e both = absurd (cc)

-- the last record of a key is its newest opening
last_is : (opened : ℕ) (past : List (Turn Asked)) (asked : Asked)
    → last_opened (has_key asked) (is_like asked) opened past ≡ as_opened asked (find (of_key asked) (openings opened past))
last_is opened [] asked = refl
last_is opened (turn ∷ past) asked = at turn.asked (last_is opened past asked) (λ other. last_is opened past other)
  where
    -- a call that asks this opens a record or none, and is of the key or not
    by : (other : Asked) (of fresh : Bool) → has_key asked other ≡ of
        → is_over (last_opened (has_key other) (is_like other) opened past) (time_of opened past) ≡ fresh
        → (of ≡ true → is_over (last_opened (has_key asked) (is_like asked) opened past) (time_of opened past) ≡ fresh)
        → last_opened (has_key asked) (is_like asked) opened past ≡ as_opened asked (find (of_key asked) (openings opened past))
        → opened_by (has_key asked) (is_like asked) (Some other) (suc (length past)) (time_of opened past) (last_opened (has_key asked) (is_like asked) opened past)
        ≡ as_opened asked (find (of_key asked) (opening_of opened past (Some other) ++ openings opened past))
    by other true true e f same old = rw (e, same refl, f, e) refl
    by other true false e f same old = rw (e, same refl, f) old
    by other false true e f same old = rw (e, f, e) old
    by other false false e f same old = rw (e, f) old

    at : (said : Option Asked)
        → last_opened (has_key asked) (is_like asked) opened past ≡ as_opened asked (find (of_key asked) (openings opened past))
        → ((other : Asked) → last_opened (has_key other) (is_like other) opened past ≡ as_opened other (find (of_key other) (openings opened past)))
        → opened_by (has_key asked) (is_like asked) said (suc (length past)) (time_of opened past) (last_opened (has_key asked) (is_like asked) opened past)
        ≡ as_opened asked (find (of_key asked) (opening_of opened past said ++ openings opened past))
    at None old all = old
    at (Some other) old all =
        by other (has_key asked other) (is_over (last_opened (has_key other) (is_like other) opened past) (time_of opened past)) refl refl
        (λ same.
        ap (λ o. is_over o (time_of opened past)) old
        ∙ ap (λ found. is_over (as_opened asked found) (time_of opened past)) (same_key asked other same (openings opened past))
        ∙ over_same asked other (find (of_key other) (openings opened past)) (time_of opened past)
        ∙ ap (λ o. is_over o (time_of opened past)) (sym (all other)))
        old

-- calls of one key find that its last record is over, or that it isn't
pub over_alike : (opened : ℕ) (past : List (Turn Asked)) (asked other : Asked) (now : ℕ) → has_key asked other ≡ true
    → is_over (last_opened (has_key asked) (is_like asked) opened past) now ≡ is_over (last_opened (has_key other) (is_like other) opened past) now
over_alike opened past asked other now same =
    ap (λ o. is_over o now) (last_is opened past asked)
    ∙ ap (λ found. is_over (as_opened asked found) now) (same_key asked other same (openings opened past))
    ∙ over_same asked other (find (of_key other) (openings opened past)) now
    ∙ ap (λ o. is_over o now) (sym (last_is opened past other))

-- ---- records of openings

abbrev pub kept_if : (ℕ → Reply) → List (Turn Asked) → Option Opening → Option KeyRecord
kept_if reply past None = None
kept_if reply past (Some opening) = Some (kept_of reply past opening)

-- a record is found where its opening is
find_kept : (reply : ℕ → Reply) (past : List (Turn Asked)) (test : KeyRecord → Bool) (all : List Opening)
    → find test (map (kept_of reply past) all) ≡ kept_if reply past (find (λ (o : Opening). test (kept_of reply past o)) all)
find_kept reply past test [] = refl
find_kept reply past test (opening ∷ all) = at (test (kept_of reply past opening)) refl (find_kept reply past test all)
  where
    at : (passes : Bool) → test (kept_of reply past opening) ≡ passes
        → find test (map (kept_of reply past) all) ≡ kept_if reply past (find (λ (o : Opening). test (kept_of reply past o)) all)
        → find test (kept_of reply past opening ∷ map (kept_of reply past) all)
        ≡ kept_if reply past (find (λ (o : Opening). test (kept_of reply past o)) (opening ∷ all))
    at true e rest = rw e refl
    at false e rest = rw e rest

-- ---- places of openings: newest first, each below those in front of it

abbrev pub Descend : ℕ → List Opening → Type 0
Descend bound [] = Unit {0}
Descend bound (opening ∷ all) = (opening.place < bound) × Descend opening.place all

lower : (bound above : ℕ) (all : List Opening) → bound ≤ above → Descend bound all → Descend above all
lower bound above [] le down = tt
lower bound above (opening ∷ all) le down = (let lt = down.0 in omega (arith, lt, le), down.1)

descend : (opened : ℕ) (past : List (Turn Asked)) → Descend (suc (length past)) (openings opened past)
descend opened [] = tt
descend opened (turn ∷ past) = at turn.asked (descend opened past)
  where
    over : (asked : Asked) (fresh : Bool) → Descend (suc (length past)) (openings opened past) → Descend (suc (suc (length past)))
        ((if fresh then (record { asked = asked; place = suc (length past); moment = time_of opened past }) ∷ [] else []) ++ openings opened past)
    over asked true down = (omega arith, down)
    over asked false down = lower (suc (length past)) (suc (suc (length past))) (openings opened past) (omega arith) down

    at : (asked : Option Asked) → Descend (suc (length past)) (openings opened past)
        → Descend (suc (suc (length past))) (opening_of opened past asked ++ openings opened past)
    at None down = lower (suc (length past)) (suc (suc (length past))) (openings opened past) (omega arith) down
    at (Some asked) down = over asked (is_over (last_opened (has_key asked) (is_like asked) opened past) (time_of opened past)) down

-- an opening that is found stands below the bound
found_below : (bound : ℕ) (test : Opening → Bool) (all : List Opening) (opening : Opening) → Descend bound all
    → find test all ≡ Some opening → opening.place < bound
found_below bound test [] opening down is = absurd (cc)
found_below bound test (first ∷ all) opening down is = at (test first) refl (found_below first.place test all opening down.1)
  where
    at : (passes : Bool) → test first ≡ passes → (find test all ≡ Some opening → opening.place < first.place) → opening.place < bound
    at true e rest =
        let same : Some first ≡ Some opening = rw e at is in
        let first_is : first ≡ opening = cc in
        subst (λ (o : Opening). o.place < bound) first_is down.0
    at false e rest =
        let behind : opening.place < first.place = rest (rw e at is) in
        let lt = down.0 in
        omega (arith, behind, lt)

-- what is found is found again by its place
find_again : (bound : ℕ) (test : Opening → Bool) (all : List Opening) (opening : Opening) → Descend bound all
    → find test all ≡ Some opening → find (λ (o : Opening). o.place == opening.place) all ≡ Some opening
find_again bound test [] opening down is = absurd (cc)
find_again bound test (first ∷ all) opening down is = at (test first) refl (find_again first.place test all opening down.1)
  where
    at : (passes : Bool) → test first ≡ passes
        → (find test all ≡ Some opening → find (λ (o : Opening). o.place == opening.place) all ≡ Some opening)
        → find (λ (o : Opening). o.place == opening.place) (first ∷ all) ≡ Some opening
    at true e rest =
        let same : Some first ≡ Some opening = rw e at is in
        let first_is : first ≡ opening = cc in
        let p : first.place ≡ opening.place = ap (λ (o : Opening). o.place) first_is in
        let place : (first.place == opening.place) ≡ true = grind (arith, nat_tests, p) in
        rw place same
    at false e rest =
        let behind : find test all ≡ Some opening = rw e at is in
        let below : opening.place < first.place = found_below first.place test all opening down.1 behind in
        let apart : (first.place == opening.place) ≡ false = grind (arith, nat_tests, below) in
        rw apart (rest behind)

-- ---- what is found of a record

-- of an attempt
finds_attempt : (reply : ℕ → Reply) (past : List Doing) (records : List KeyRecord) (place reference : ℕ) (standing : Standing)
    → standing_of past reference ≡ standing
    → kept.saved_in place records ≡ reply_found reply (result_of_attempt past reference standing)
    → FindsAs reply past records (result_of_attempt past reference standing)
    (kept.state_with place (Some reference) (reply_found reply (result_of_attempt past reference standing)))
finds_attempt reply past records place reference NotBegun is saved =
    record { reference = reference; found_is = refl; not_parked = inr (rw is refl) }
finds_attempt reply past records place reference (Stands intent order attempt.Live) is saved =
    record { reference = reference; found_is = refl; not_parked = inr (rw is refl) }
finds_attempt reply past records place reference (Stands intent order attempt.Parked) is saved =
    record { found_is = refl; parked = rw is refl }
finds_attempt reply past records place reference (Stands intent order (attempt.Settled ruling)) is saved =
    record { entry = place; found_is = refl; reply_is = saved }

-- of what was said to its call
finds_said : (reply : ℕ → Reply) (past : List Doing) (records : List KeyRecord) (place : ℕ) (said : Said)
    → kept.saved_in place records ≡ reply_found reply (result_said past place said)
    → FindsAs reply past records (result_said past place said)
    (kept.state_with place (reference_said said) (reply_found reply (result_said past place said)))
finds_said reply past records place Replies saved = record { entry = place; found_is = refl; reply_is = saved }
finds_said reply past records place Silence saved = record { reference = 0; found_is = refl; not_parked = inl refl }
finds_said reply past records place (Waits reference) saved =
    finds_attempt reply past records place reference (standing_of past reference) refl saved

-- of an opening
finds_opening : (reply : ℕ → Reply) (past : List (Turn Asked)) (records : List KeyRecord) (now : ℕ) (asked : Asked) (opening : Opening)
    → kept.saved_in opening.place records ≡ reply_found reply (result_of past opening.place)
    → FindsAs reply (doings_of past) records (found_in past now (as_opened asked (Some opening)))
    (kept.found_of asked.shape now (kept_of reply past opening))
finds_opening reply past records now asked opening saved =
    at (nat_le (opening.moment + a_day) now) (is_same_shape opening.asked.shape asked.shape)
  where
    at : (over like : Bool) → FindsAs reply (doings_of past) records (if over then doing.Fresh else (if like then result_of past opening.place else doing.Differs))
        (if over then Fresh else (if like then kept.state_with opening.place (reference_said (said_at past opening.place)) (reply_found reply (result_of past opening.place)) else Differs))
    at true like = refl
    at false false = refl
    at false true = finds_said reply (doings_of past) records opening.place (said_at past opening.place) saved

finds_if : (reply : ℕ → Reply) (opened : ℕ) (past : List (Turn Asked)) (now : ℕ) (asked : Asked) (found : Option Opening)
    → find (of_key asked) (openings opened past) ≡ found
    → FindsAs reply (doings_of past) (records_after reply opened past) (found_in past now (as_opened asked found))
    (kept.found_if asked.shape now (kept_if reply past found))
finds_if reply opened past now asked None is = refl
finds_if reply opened past now asked (Some opening) is =
    let again : find (λ (o : Opening). o.place == opening.place) (openings opened past) ≡ Some opening =
    find_again (suc (length past)) (of_key asked) (openings opened past) opening (descend opened past) is in
    let kept_is : find (kept.is_entry opening.place) (records_after reply opened past) ≡ Some (kept_of reply past opening) =
    find_kept reply past (kept.is_entry opening.place) (openings opened past) ∙ ap (kept_if reply past) again in
    finds_opening reply past (records_after reply opened past) now asked opening (ap kept.reply_if kept_is)

pub records_are_found : RecordsAreFound
records_are_found reply opened past asked =
    let kept_is : find (kept.is_of asked.account asked.key) (records_after reply opened past)
    ≡ kept_if reply past (find (of_key asked) (openings opened past)) =
    find_kept reply past (kept.is_of asked.account asked.key) (openings opened past) in
    subst (λ last. FindsAs reply (doings_of past) (records_after reply opened past) (found_in past (time_of opened past) last)
    (kept.found_in asked.account asked.key asked.shape (time_of opened past) (records_after reply opened past)))
    (sym (last_is opened past asked))
    (subst (λ found. FindsAs reply (doings_of past) (records_after reply opened past)
    (found_in past (time_of opened past) (as_opened asked (find (of_key asked) (openings opened past))))
    (kept.found_if asked.shape (time_of opened past) found))
    (sym kept_is)
    (finds_if reply opened past (time_of opened past) asked (find (of_key asked) (openings opened past)) refl))
