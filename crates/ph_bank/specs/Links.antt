-- What a link to an acquirer tells, and what one ask of it does.
use Rattle.std.specs.Prelude.{◌≡◌, ℕ, ◌≤◌, ◌⊎◌, List, [], ◌∷◌, ◌++◌, Option, Some, None, option_map, Result, Ok, Err}
use Rattle.ph_base.specs.Counts.{Rose}
use Rattle.ph_base.specs.declared.acquirer.Ruling.{Ruling}
use Rattle.ph_items.specs.declared.orders.Order.{Order}
use Rattle.ph_bank.specs.declared.asking.Ask.{Ask}
use Rattle.ph_bank.specs.declared.asking.Asked.{Asked}
use Rattle.ph_bank.specs.declared.asking.Asked.TheVariants.{Pending, Ruled}
use Rattle.ph_bank.specs.declared.asking.AskFailed.{AskFailed}

-- a link: the asks that it was asked, with their answers, and what is decided of each reference, where it tells these,
-- and how often it failed
pub record Link : Type 0 where
  pub asked : Option (List Ask)
  pub decisions : Option (ℕ → Option Ruling)
  pub faults : ℕ

-- the asks with more behind them, where they are told
abbrev pub and_asks : Option (List Ask) → List Ask → Option (List Ask)
and_asks asked more = option_map (λ asks. asks ++ more) asked

-- what an answer says of the decision on its reference
abbrev pub decision_in : Asked → Option Ruling
decision_in Pending = None
decision_in (Ruled ruling) = Some ruling

-- where decisions are told, that of this reference is so
abbrev pub IsDecided : Option (ℕ → Option Ruling) → ℕ → Option Ruling → Type 0
IsDecided None reference decision = Unit {0}
IsDecided (Some decisions) reference decision = decisions reference ≡ decision

-- where decisions are told, none changes
abbrev pub KeepsDecisions : Option (ℕ → Option Ruling) → Option (ℕ → Option Ruling) → Type 0
KeepsDecisions None now = now ≡ None
KeepsDecisions (Some before) None = ⊥
KeepsDecisions (Some before) (Some now) = (reference : ℕ) (ruling : Ruling) → before reference ≡ Some ruling → now reference ≡ Some ruling

-- that an ask failed
abbrev pub failed : AskFailed
failed = record {}

-- an ask of this order that was answered
pub record Answers (before now : Link) (order : Order) (answer : Asked) : Type 0 where
  pub asked : now.asked ≡ and_asks before.asked (record { order = order; answer = Ok answer } ∷ [])
  pub decided : IsDecided now.decisions order.reference (decision_in answer)
  pub kept : KeepsDecisions before.decisions now.decisions
  pub faults : before.faults ≤ now.faults

-- an ask of this order that failed: it may be told or not
pub record Fails (before now : Link) (order : Order) : Type 0 where
  pub asked : (now.asked ≡ before.asked) ⊎ (now.asked ≡ and_asks before.asked (record { order = order; answer = Err failed } ∷ []))
  pub decisions : now.decisions ≡ before.decisions
  pub rose : Rose before.faults now.faults
  pub faults : before.faults ≤ now.faults

-- one ask of this order, with its answer
abbrev pub AsksOnce : Link → Link → Order → Result Asked AskFailed → Type 0
AsksOnce before now order (Ok answer) = Answers before now order answer
AsksOnce before now order (Err e) = Fails before now order
