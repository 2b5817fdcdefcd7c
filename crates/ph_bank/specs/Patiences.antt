-- How a patience counts.
use Rattle.std.specs.Prelude.{◌≡◌, ℕ, zero, suc, ◌+◌, ◌-◌, ◌^◌, ◌<◌, ◌≤◌, min, Bool, true, false}
use Rattle.ph_base.specs.Counts.{Rose}

-- a count one on; at its type's end it stands
abbrev pub next_count : ℕ → ℕ
next_count count = min (count + 1) (2 ^ 64 - 1)

-- a count after so many more
abbrev pub counted_on : ℕ → ℕ → ℕ
counted_on count zero = count
counted_on count (suc more) = next_count (counted_on count more)

-- how often it was started, and how often it granted and refused another poll
pub record Granted : Type 0 where
  pub starts : ℕ
  pub grants : ℕ
  pub refusals : ℕ

abbrev pub started : Granted → Granted
started before = record before { starts = next_count before.starts }

-- it grants, and what is left of it falls
pub record Grants (before now : Granted) (left rest : ℕ) : Type 0 where
  pub less : rest < left
  pub counts : now ≡ record before { grants = next_count before.grants }

-- it refuses
pub record Refuses (before now : Granted) : Type 0 where
  pub grants : now.grants ≡ before.grants
  pub starts : now.starts ≡ before.starts
  pub rose : Rose before.refusals now.refusals
  pub refusals : before.refusals ≤ now.refusals

abbrev pub Decides : Granted → Granted → ℕ → ℕ → Bool → Type 0
Decides before now left rest true = Grants before now left rest
Decides before now left rest false = Refuses before now

-- the counts after an answer: a grant or a refusal is counted once
abbrev pub counted : Granted → Bool → Granted
counted before true = record before { grants = next_count before.grants }
counted before false = record before { refusals = next_count before.refusals }

-- a patience of so many turns: those that are left, and its counts
pub record TurnsState : Type 0 where
  pub turns : ℕ
  pub left : ℕ
  pub counts : Granted
