-- Where a history stops being legal.
use Rattle.std.specs.Prelude.{◌≡◌, ℕ, ◌+◌, ◌≤◌, ◌⊎◌, List, [], ◌∷◌, ◌++◌, length}
use Rattle.ph_book.specs.declared.acts.Entry.{Entry}
use Rattle.ph_book.specs.declared.setup.Setup.{Setup}
use Rattle.ph_book.specs.Legal.{IsLegal}
use Rattle.ph_items.specs.Clocks.{clock_limit}
use Rattle.ph_history.specs.declared.faults.HistoryFault.{HistoryFault}
use Rattle.ph_history.specs.declared.faults.HistoryFault.TheVariants as fault

-- the entry of this line is the first that isn't legal: the entries before it are a legal history, and with it they are none. The first entry stands in line 3
pub record EndsLegalAt (setup : Setup) (entries : List Entry) (at : ℕ) : Type 0 where
  pub before : List Entry
  pub entry : Entry
  pub behind : List Entry
  pub parts : entries ≡ before ++ entry ∷ behind
  pub place : at ≡ length before + 3
  pub legal : IsLegal setup before
  pub not_legal : IsLegal setup (before ++ entry ∷ []) → ⊥

-- this line is the first that isn't legal: that of the setup, where no book opens at its moment, or that of an entry
abbrev pub IsIllegalAt : Setup → List Entry → ℕ → Type 0
IsIllegalAt setup entries at = ((setup.opened ≤ clock_limit → ⊥) × (at ≡ 2)) ⊎ EndsLegalAt setup entries at

-- why a history isn't entered anew: its first line that isn't legal, or want of memory
abbrev pub IsRefused : Setup → List Entry → HistoryFault → Type 0
IsRefused setup entries (fault.BadLine at) = ⊥
IsRefused setup entries (fault.Illegal at) = IsIllegalAt setup entries at
IsRefused setup entries fault.Cut = ⊥
IsRefused setup entries fault.ReadFault = ⊥
IsRefused setup entries fault.NoMemory = Unit {0}
