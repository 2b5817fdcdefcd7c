-- Pending asks one after another, and the ends of a drive.
use Rattle.std.proofs.Common.{◌≡◌, ℕ, zero, suc, ◌+◌, ◌-◌, ◌^◌, ◌<◌, ◌≤◌, ◌⊎◌, inl, inr, List, [], ◌∷◌, ◌++◌, Option, Some, None, Result, Ok, Err, refl, sym, ap, ◌∙◌, subst, arith}
use Rattle.std.proofs.lemmas.List.{append_assoc, append-nil}
use Rattle.ph_base.specs.declared.acquirer.Ruling.{Ruling}
use Rattle.ph_items.specs.declared.orders.Order.{Order}
use Rattle.ph_bank.specs.declared.asking.Ask.{Ask}
use Rattle.ph_bank.specs.declared.asking.Asked.TheVariants.{Pending, Ruled}
use Rattle.ph_bank.specs.declared.driving.Driven.{Driven}
use Rattle.ph_bank.specs.declared.driving.Driven.TheVariants as driven
use Rattle.ph_bank.specs.declared.asking.AskFailed.{AskFailed}
use Rattle.ph_bank.specs.Drives.{Drives, ended_by, waits}
use Rattle.ph_bank.specs.Polls.{answer_of}
use Rattle.futures.specs.declared.task.Poll.TheVariants.{Ready}
use Rattle.ph_bank.specs.Links.{Answers, AsksOnce, Fails, KeepsDecisions, Link, and_asks, failed}
use Rattle.ph_bank.specs.Patiences.{counted_on, next_count}

-- so far every ask was pending, one for each grant
pub record Waiting (before now : Link) (order : Order) (first grants : ℕ) : Type 0 where
  pub polls : ℕ
  pub granted : grants ≡ counted_on first polls
  pub asked : now.asked ≡ and_asks before.asked (waits order polls)
  pub kept : KeepsDecisions before.decisions now.decisions
  pub faults : before.faults ≤ now.faults

and_asks-none : (asked : Option (List Ask)) → and_asks asked [] ≡ asked
and_asks-none None = refl
and_asks-none (Some asks) = ap Some (append-nil asks)

and_asks-twice : (asked : Option (List Ask)) (first more : List Ask) → and_asks (and_asks asked first) more ≡ and_asks asked (first ++ more)
and_asks-twice None first more = refl
and_asks-twice (Some asks) first more = ap Some (append_assoc asks first more)

waits-more : (order : Order) (count : ℕ) → waits order count ++ (record { order = order; answer = Ok Pending }) ∷ [] ≡ waits order (suc count)
waits-more order zero = refl
waits-more order (suc count) = ap (λ (asks : List Ask). (record { order = order; answer = Ok Pending }) ∷ asks) (waits-more order count)

pub keeps-same : (decisions : Option (ℕ → Option Ruling)) → KeepsDecisions decisions decisions
keeps-same None = refl
keeps-same (Some decisions) = λ reference ruling h. h

pub keeps-twice : (first second third : Option (ℕ → Option Ruling)) → KeepsDecisions first second → KeepsDecisions second third → KeepsDecisions first third
keeps-twice None None third h k = k
keeps-twice None (Some second) third h k = let no : Some second ≡ None = h in cc
keeps-twice (Some first) None third h k = absurd h
keeps-twice (Some first) (Some second) None h k = absurd k
keeps-twice (Some first) (Some second) (Some third) h k = λ reference ruling e. k reference ruling (h reference ruling e)

pub waiting_none : (link : Link) (order : Order) (grants : ℕ) → Waiting link link order grants grants
waiting_none link order grants = record {
  polls = 0;
  granted = refl;
  asked = sym (and_asks-none link.asked);
  kept = keeps-same link.decisions;
  faults = omega arith;
}

pub waiting_more : {before now next : Link} {order other : Order} {first grants more : ℕ} → Waiting before now order first grants
    → Answers now next other Pending → other ≡ order → more ≡ next_count grants → Waiting before next order first more
waiting_more {before} {now} {next} {order} {other} {first} {grants} {more} waiting answers same count = record {
  polls = suc waiting.polls;
  granted = count ∙ ap next_count waiting.granted;
  asked = answers.asked ∙ ap (λ (o : Order). and_asks now.asked ((record { order = o; answer = Ok Pending }) ∷ [])) same
      ∙ ap (λ (asked : Option (List Ask)). and_asks asked ((record { order = order; answer = Ok Pending }) ∷ [])) waiting.asked
      ∙ and_asks-twice before.asked (waits order waiting.polls) ((record { order = order; answer = Ok Pending }) ∷ [])
      ∙ ap (and_asks before.asked) (waits-more order waiting.polls);
  kept = keeps-twice before.decisions now.decisions next.decisions waiting.kept answers.kept;
  faults = let old = waiting.faults in let new = answers.faults in omega arith;
}

ends_ready : {before now next : Link} {order : Order} {first grants : ℕ} (ruling : Ruling) → Waiting before now order first grants
    → Answers now next order (Ruled ruling) → Drives before next order first grants (driven.Ready ruling)
ends_ready {before} {now} {next} {order} {first} {grants} ruling waiting answers = record {
  polls = waiting.polls;
  granted = waiting.granted;
  last = (record { order = order; answer = Ok (Ruled ruling) }) ∷ [];
  ends = refl;
  asked = answers.asked ∙ ap (λ (asked : Option (List Ask)). and_asks asked ((record { order = order; answer = Ok (Ruled ruling) }) ∷ [])) waiting.asked
      ∙ and_asks-twice before.asked (waits order waiting.polls) ((record { order = order; answer = Ok (Ruled ruling) }) ∷ []);
  decided = answers.decided;
  kept = keeps-twice before.decisions now.decisions next.decisions waiting.kept answers.kept;
  faults = let old = waiting.faults in let new = answers.faults in omega arith;
}

ends_gave_up : {before now next : Link} {order : Order} {first grants same : ℕ} → Waiting before now order first grants
    → Answers now next order Pending → same ≡ grants → Drives before next order first same driven.GaveUp
ends_gave_up {before} {now} {next} {order} {first} {grants} {same} waiting answers count = record {
  polls = waiting.polls;
  granted = count ∙ waiting.granted;
  last = (record { order = order; answer = Ok Pending }) ∷ [];
  ends = refl;
  asked = answers.asked ∙ ap (λ (asked : Option (List Ask)). and_asks asked ((record { order = order; answer = Ok Pending }) ∷ [])) waiting.asked
      ∙ and_asks-twice before.asked (waits order waiting.polls) ((record { order = order; answer = Ok Pending }) ∷ []);
  decided = tt;
  kept = keeps-twice before.decisions now.decisions next.decisions waiting.kept answers.kept;
  faults = let old = waiting.faults in let new = answers.faults in omega arith;
}

ends_failed : {before now next : Link} {order : Order} {first grants : ℕ} → Waiting before now order first grants
    → Fails now next order → Drives before next order first grants driven.Failed
ends_failed {before} {now} {next} {order} {first} {grants} waiting fails = at fails.asked
  where
    at : (next.asked ≡ now.asked) ⊎ (next.asked ≡ and_asks now.asked ((record { order = order; answer = Err failed }) ∷ []))
        → Drives before next order first grants driven.Failed
    at (inl same) = record {
      polls = waiting.polls;
      granted = waiting.granted;
      last = [];
      ends = inl refl;
      asked = same ∙ waiting.asked ∙ ap (and_asks before.asked) (sym (append-nil (waits order waiting.polls)));
      decided = tt;
      kept = subst (KeepsDecisions before.decisions) (sym fails.decisions) waiting.kept;
      faults = let old = waiting.faults in let new = fails.faults in omega arith;
    }
    at (inr told) = record {
      polls = waiting.polls;
      granted = waiting.granted;
      last = (record { order = order; answer = Err failed }) ∷ [];
      ends = inr refl;
      asked = told ∙ ap (λ (asked : Option (List Ask)). and_asks asked ((record { order = order; answer = Err failed }) ∷ [])) waiting.asked
          ∙ and_asks-twice before.asked (waits order waiting.polls) ((record { order = order; answer = Err failed }) ∷ []);
      decided = tt;
      kept = subst (KeepsDecisions before.decisions) (sym fails.decisions) waiting.kept;
      faults = let old = waiting.faults in let new = fails.faults in omega arith;
    }

ends_by : {before now next : Link} {order : Order} {first grants : ℕ} (answer : Result Ruling AskFailed) → Waiting before now order first grants
    → AsksOnce now next order (answer_of (Ready answer)) → Drives before next order first grants (ended_by answer)
ends_by (Ok ruling) waiting asks = ends_ready ruling waiting asks
ends_by (Err e) waiting asks = ends_failed waiting asks

-- a poll that is ready ends the drive
pub drive_ready : {before now next after : Link} {order other : Order} {start first grants : ℕ} {end : Driven}
    (answer : Result Ruling AskFailed) → Waiting before now order start grants → AsksOnce now next other (answer_of (Ready answer)) → other ≡ order → after ≡ next
    → start ≡ first → end ≡ ended_by answer → Drives before after order first grants end
drive_ready {before} {now} {next} {after} {order} {other} {start} {first} {grants} {end} answer waiting asks same left begun is =
    rw (left, ← begun, is) (ends_by answer waiting (rw same at asks))

-- the patience ends it after a pending one
pub drive_gave_up : {before now next after : Link} {order other : Order} {start first grants granted : ℕ}
    → Waiting before now order start grants → Answers now next other Pending → other ≡ order → after ≡ next
    → start ≡ first → granted ≡ grants → Drives before after order first granted driven.GaveUp
drive_gave_up {before} {now} {next} {after} {order} {other} {start} {first} {grants} {granted} waiting answers same left begun count =
    rw (left, ← begun) (ends_gave_up waiting (rw same at answers) count)

pub counts_sum : (count more : ℕ) → counted_on count more < 2 ^ 64 - 1 → counted_on count more ≡ count + more
counts_sum count zero below = omega arith
counts_sum count (suc more) below = let rest = counts_sum count more (omega arith) in omega arith
