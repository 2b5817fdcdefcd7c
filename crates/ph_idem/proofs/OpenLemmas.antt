-- The records that were opened, and what was said to their calls.
use Rattle.std.proofs.Common.{◌≡◌, ℕ, suc, ◌<◌, ◌≤◌, ◌==◌, Bool, true, false, if◌then◌else◌, List, [], ◌∷◌, ◌++◌, length, Option, Some, None, refl, ap, ◌∙◌, arith}
use Rattle.std.proofs.lemmas.Bool.Decides.{nat_tests}
use Rattle.ph_doings.specs.Confirmations.{begun_at, begun_by}
use Rattle.ph_doings.specs.Doings.{Doing}
use Rattle.ph_doings.specs.Lawful.{IsLawful}
use Rattle.ph_doings.specs.Records.{AreLawful, Said, Replies, Silence, Waits, Turn, doings_of, is_over, last_opened, said_at, time_of}
use Rattle.ph_idem.specs.declared.asked.Asked.{Asked}
use Rattle.ph_idem.specs.Kept.{Opening, has_key, is_like, opening_of, openings}
use Rattle.ph_idem.specs.Laws.{AreTold, Tells, TellsIf}

pub length_doings : (past : List (Turn Asked)) → length (doings_of past) ≡ length past
length_doings [] = refl
length_doings (turn ∷ past) = ap suc (length_doings past)

pub lawful_doings : (opened : ℕ) (past : List (Turn Asked)) → AreLawful has_key is_like opened past → IsLawful (doings_of past)
lawful_doings opened [] lawful = tt
lawful_doings opened (turn ∷ past) lawful = (lawful.0.doing, lawful_doings opened past lawful.1)

-- the entries of these places are among the past, each before those in front of it; each began the attempt for whose ruling it waits
pub record IsOpened (past : List (Turn Asked)) (opening : Opening) (bound : ℕ) : Type 0 where
  pub below : opening.place < bound
  pub within : opening.place ≤ length past
  pub begun : (reference : ℕ) → said_at past opening.place ≡ Waits reference → begun_at (doings_of past) opening.place ≡ Some reference

abbrev pub AreOpened : List (Turn Asked) → ℕ → List Opening → Type 0
AreOpened past bound [] = Unit {0}
AreOpened past bound (opening ∷ all) = IsOpened past opening bound × AreOpened past opening.place all

-- one turn more leaves what was opened
stays_one : (past : List (Turn Asked)) (turn : Turn Asked) (opening : Opening) (bound : ℕ) → IsOpened past opening bound
    → IsOpened (turn ∷ past) opening bound
stays_one past turn opening bound is =
    let apart : (opening.place == suc (length past)) ≡ false = let within = is.within in grind (arith, nat_tests, within) in
    let apart_doing : (opening.place == suc (length (doings_of past))) ≡ false = rw (length_doings past) apart in
    record {
      below = is.below;
      within = let within = is.within in omega (arith, within);
      begun = λ reference waits. rw apart_doing (is.begun reference (rw apart at waits));
    }

stays : (past : List (Turn Asked)) (turn : Turn Asked) (bound : ℕ) (all : List Opening) → AreOpened past bound all
    → AreOpened (turn ∷ past) bound all
stays past turn bound [] are = tt
stays past turn bound (opening ∷ all) are =
    (stays_one past turn opening bound are.0, stays past turn opening.place all are.1)

-- a bound that is no lower
raised : (past : List (Turn Asked)) (bound above : ℕ) (all : List Opening) → bound ≤ above → AreOpened past bound all
    → AreOpened past above all
raised past bound above [] le are = tt
raised past bound above (opening ∷ all) le are = (
  record {
    below = let below = are.0.below in omega (arith, below, le);
    within = are.0.within;
    begun = are.0.begun;
  },
  are.1,
)

-- the opening of a turn stands at its place
opens_now : (past : List (Turn Asked)) (turn : Turn Asked) (opening : Opening) → opening.place ≡ suc (length past) → Tells turn.said turn.doing
    → IsOpened (turn ∷ past) opening (suc (suc (length past)))
opens_now past turn opening is tells =
    let same : (opening.place == suc (length past)) ≡ true = grind (arith, nat_tests, is) in
    let same_doing : (opening.place == suc (length (doings_of past))) ≡ true = rw (length_doings past) same in
    record {
      below = omega (arith, is);
      within = omega (arith, is);
      begun = λ reference waits. rw same_doing (told turn.said turn.doing reference (rw same at waits) tells);
    }
  where
    told : (said : Said) (doing : Doing) (reference : ℕ) → said ≡ Waits reference → Tells said doing → begun_by doing ≡ Some reference
    told Replies doing reference is tells = absurd (cc)
    told Silence doing reference is tells = absurd (cc)
    told (Waits other) doing reference is tells = let same : other ≡ reference = cc in tells ∙ ap Some same

pub are_opened : (opened : ℕ) (past : List (Turn Asked)) → AreTold opened past → AreOpened past (suc (length past)) (openings opened past)
are_opened opened [] told = tt
are_opened opened (turn ∷ past) told =
    at turn.asked told.0 (stays past turn (suc (length past)) (openings opened past) (are_opened opened past told.1))
  where
    over : (asked : Asked) (fresh : Bool)
        → TellsIf (if fresh then (record { asked = asked; place = suc (length past); moment = time_of opened past }) ∷ [] else []) turn.said turn.doing
        → AreOpened (turn ∷ past) (suc (length past)) (openings opened past)
        → AreOpened (turn ∷ past) (suc (suc (length past)))
        ((if fresh then (record { asked = asked; place = suc (length past); moment = time_of opened past }) ∷ [] else []) ++ openings opened past)
    over asked true tells old =
        (opens_now past turn (record { asked = asked; place = suc (length past); moment = time_of opened past }) refl tells, old)
    over asked false tells old = raised (turn ∷ past) (suc (length past)) (suc (suc (length past))) (openings opened past) (omega arith) old

    at : (asked : Option Asked) → TellsIf (opening_of opened past asked) turn.said turn.doing
        → AreOpened (turn ∷ past) (suc (length past)) (openings opened past)
        → AreOpened (turn ∷ past) (suc (suc (length past))) (opening_of opened past asked ++ openings opened past)
    at None tells old = raised (turn ∷ past) (suc (length past)) (suc (suc (length past))) (openings opened past) (omega arith) old
    at (Some asked) tells old = over asked (is_over (last_opened (has_key asked) (is_like asked) opened past) (time_of opened past)) tells old
