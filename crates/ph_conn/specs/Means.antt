-- What a session works with, and what its counts show.
use Rattle.std.specs.Prelude.{◌≡◌, ℕ, ◌+◌, ◌-◌, ◌^◌, ◌≤◌, min}
use Rattle.ph_bank.specs.Links.{Link}
use Rattle.ph_bank.specs.Patiences.{Granted, counted_on}
use Rattle.ph_conn.specs.Fronts.{Known}

-- what a session knows of the history, a link to an acquirer, and how often a patience was started, granted and refused
pub record Means : Type 0 where
  pub known : Known
  pub link : Link
  pub counts : Granted

-- a count rose by so many at least, or stands at the end of its type, where it stays
abbrev pub RoseBy : ℕ → ℕ → ℕ → Type 0
RoseBy more before now = min (before + more) (2 ^ 64 - 1) ≤ now

-- the link's faults rose by so many at least, and the patience's refusals by so many, and neither fell; it granted and was started exactly so often
pub record Counted (old new : Means) (failed refused granted driven : ℕ) : Type 0 where
  pub faults : RoseBy failed old.link.faults new.link.faults
  pub faults_not_fallen : old.link.faults ≤ new.link.faults
  pub refusals : RoseBy refused old.counts.refusals new.counts.refusals
  pub refusals_not_fallen : old.counts.refusals ≤ new.counts.refusals
  pub grants : new.counts.grants ≡ counted_on old.counts.grants granted
  pub starts : new.counts.starts ≡ counted_on old.counts.starts driven
