-- A drive: polls of one order, up to its end.
use Rattle.std.specs.Prelude.{◌≡◌, ℕ, ◌≤◌, ◌⊎◌, List, [], ◌∷◌, ◌++◌, replicate, Some, Result, Ok, Err}
use Rattle.ph_base.specs.declared.acquirer.Ruling.{Ruling}
use Rattle.ph_bank.specs.declared.asking.AskFailed.{AskFailed}
use Rattle.ph_items.specs.declared.orders.Order.{Order}
use Rattle.ph_bank.specs.declared.asking.Ask.{Ask}
use Rattle.ph_bank.specs.declared.asking.Asked.TheVariants.{Pending, Ruled}
use Rattle.ph_bank.specs.declared.driving.Driven.{Driven}
use Rattle.ph_bank.specs.declared.driving.Driven.TheVariants as driven
use Rattle.ph_bank.specs.Patiences.{counted_on}
use Rattle.ph_bank.specs.Links.{IsDecided, KeepsDecisions, Link, and_asks, failed}

-- so many asks of the order that were answered Pending
abbrev pub waits : Order → ℕ → List Ask
waits order count = replicate count (record { order = order; answer = Ok Pending })

-- what a drive's end says of its last ask: one that failed may be told or not
abbrev pub EndsWith : Order → Driven → List Ask → Type 0
EndsWith order (driven.Ready ruling) last = last ≡ record { order = order; answer = Ok (Ruled ruling) } ∷ []
EndsWith order driven.GaveUp last = last ≡ record { order = order; answer = Ok Pending } ∷ []
EndsWith order driven.Failed last = (last ≡ []) ⊎ (last ≡ record { order = order; answer = Err failed } ∷ [])

-- what a drive's end says of the decision on its reference
abbrev pub EndsDecided : Link → Order → Driven → Type 0
EndsDecided now order (driven.Ready ruling) = IsDecided now.decisions order.reference (Some ruling)
EndsDecided now order driven.GaveUp = Unit {0}
EndsDecided now order driven.Failed = Unit {0}

-- how a poll that is ready ends a drive
abbrev pub ended_by : Result Ruling AskFailed → Driven
ended_by (Ok ruling) = driven.Ready ruling
ended_by (Err e) = driven.Failed

-- a drive makes one ask for each grant, pending, and one more, which ends it: so none follows a ruling
pub record Drives (before now : Link) (order : Order) (first grants : ℕ) (end : Driven) : Type 0 where
  pub polls : ℕ
  pub granted : grants ≡ counted_on first polls
  pub last : List Ask
  pub ends : EndsWith order end last
  pub asked : now.asked ≡ and_asks before.asked (waits order polls ++ last)
  pub decided : EndsDecided now order end
  pub kept : KeepsDecisions before.decisions now.decisions
  pub faults : before.faults ≤ now.faults
