-- How the calls of a gate join: what several of them changed together.
use Rattle.std.proofs.Common.{◌≡◌, ◌<◌, ◌≤◌, List, [], ◌∷◌, ◌++◌, Option, Some, None, refl, sym, ap, subst, ◌∙◌, append_assoc, arith}
use Rattle.std.proofs.lemmas.List.{append-nil, length-append}
use Rattle.ph_base.specs.Counts.{Rose}
use Rattle.ph_io.specs.Gates.{GateState, Return, Gives, GateEnds, GateFails, TakesBack, AllBack, EndsAllBack, FailsAllBack, returned_and}

pub returned_twice :
    (told : Option (List Return)) (xs ys : List Return) →
    returned_and (returned_and told xs) ys ≡ returned_and told (xs ++ ys)
returned_twice None xs ys = refl
returned_twice (Some records) xs ys = ap Some (append_assoc records xs ys)

pub returned_and_nothing : (told : Option (List Return)) → told ≡ returned_and told []
returned_and_nothing None = refl
returned_and_nothing (Some records) = ap Some (sym (append-nil records))

-- no call at all
pub all_back_none : (state : GateState) → AllBack state state []
all_back_none state = record {
  given = omega arith;
  out = refl;
  returned = returned_and_nothing state.returned;
  faults = refl;
}

-- a connection that was handed out may come back
pub one_is_out : {old new : GateState} → Gives old new → 0 < new.out
one_is_out {old} {new} gave = let more = gave.out in omega arith

-- one more connection was handed out and came back
pub all_back_more :
    {old before between new : GateState} {records : List Return} {back : Return} →
    AllBack old before records → Gives before between → TakesBack between new back →
    AllBack old new (records ++ back ∷ [])
all_back_more {old} {before} {between} {new} {records} {back} all gave took = record {
  given =
      let long = length-append records (back ∷ []) in
      let a = all.given in
      let b = gave.given in
      let c = took.given in
      omega arith;
  out =
      let a = all.out in
      let b = gave.out in
      let c = took.out in
      omega arith;
  returned =
      took.returned ∙ ap (λ told. returned_and told (back ∷ [])) (gave.returned ∙ all.returned)
      ∙ returned_twice old.returned records (back ∷ []);
  faults = took.faults ∙ gave.faults ∙ all.faults;
}

-- then there were no more
pub all_back_ends :
    {old between new : GateState} {records : List Return} → AllBack old between records →
    GateEnds between new → EndsAllBack old new records
all_back_ends {old} {between} {new} {records} all last = record {
  all_back = record {
    given = last.given ∙ all.given;
    out = last.out ∙ all.out;
    returned = last.returned ∙ all.returned;
    faults = last.faults ∙ all.faults;
  };
  ended = last.ended;
}

-- then the gate failed
pub all_back_fails :
    {old between new : GateState} {records : List Return} → AllBack old between records →
    GateFails between new → FailsAllBack old new records
all_back_fails {old} {between} {new} {records} all last = record {
  given = last.given ∙ all.given;
  out = last.out ∙ all.out;
  returned = last.returned ∙ all.returned;
  ended = last.ended;
  counted = subst (λ before. Rose before new.faults) all.faults last.counted;
  not_fallen = subst (λ before. before ≤ new.faults) all.faults last.not_fallen;
}
