-- What a history weighs, what has no room behind it, and which histories are legal.
use Rattle.std.specs.Prelude.{◌≡◌, ℕ, ◌+◌, ◌^◌, ◌<◌, ◌≤◌, Bool, false, if◌then◌else◌, ◌||◌, nat_lt, List, [], ◌∷◌, length, Option, Some, None}
use Rattle.std.specs.List.{sum_by}
use Rattle.ph_doings.specs.Doings.{Doing}
use Rattle.ph_doings.specs.Runs.{live_runs}
use Rattle.ph_items.specs.Clocks.{clock_limit}
use Rattle.ph_rows.specs.Weights.{rows_weight}
use Rattle.ph_http.specs.declared.message.Raw.{Raw}
use Rattle.ph_book.specs.declared.setup.Setup.{Setup}
use Rattle.ph_book.specs.declared.acts.Entry.{Entry}
use Rattle.ph_book.specs.declared.acts.Deed.{Deed}
use Rattle.ph_book.specs.declared.acts.Deed.TheVariants as deed
use Rattle.ph_book.specs.Entries.{IsWithinClock}
use Rattle.ph_book.specs.History.{Happening, rows_after, doings_after, and_then, past_of}
use Rattle.ph_book.specs.Replies.{Said, replies_said}
use Rattle.ph_book.specs.Runs.{IsLive}

-- the length of a text that may be missing
abbrev pub length_if : Option (List ℕ) → ℕ
length_if None = 0
length_if (Some text) = length text

-- what a request weighs: the lengths of its fields
abbrev pub raw_weight : Raw → ℕ
raw_weight raw =
    length raw.method + length raw.path + length_if raw.query + length_if raw.auth + length_if raw.key
    + length_if raw.account + length raw.body

-- what a deed weighs
abbrev pub deed_weight : Deed → ℕ
deed_weight (deed.Call raw) = raw_weight raw
deed_weight (deed.Finish run ruling) = 0
deed_weight (deed.Park run why) = 0
deed_weight deed.Resume = 0
deed_weight (deed.Tick moment) = 0

-- what the bodies weigh that an entry saves: that of its reply, where it is saved for a call under a key
abbrev pub saved_weight : Bool → Said → ℕ
saved_weight saves said = if saves then sum_by (λ reply. length reply.body) (replies_said said) else 0

-- the weight of what happened: that of the calls and of the saved bodies, and that of the rows
abbrev pub weight_after : Setup → List Happening → ℕ
weight_after setup past =
    sum_by (λ h. deed_weight h.entry.deed + saved_weight h.saves h.said) past + rows_weight (rows_after setup past)

-- the weight of a history
abbrev pub weight_of : Setup → List Entry → ℕ
weight_of setup history = weight_after setup (past_of setup history)

-- the places that are taken after what happened: each entry, and the end of each live run
abbrev pub used_after : List Happening → ℕ
used_after past = length past + length (live_runs (doings_after past))

-- a deed has no room where so many places are taken and so much weighs: a call takes two places, and its weight; the taking up of an attempt takes two; a moment takes one; the end of a run has its place from the run's beginning
abbrev pub is_full_at : Setup → ℕ → ℕ → Deed → Bool
is_full_at setup used weight (deed.Call raw) =
    nat_lt setup.entries (used + 2) || nat_lt setup.weight (weight + raw_weight raw)
is_full_at setup used weight (deed.Finish run ruling) = false
is_full_at setup used weight (deed.Park run why) = false
is_full_at setup used weight deed.Resume = nat_lt setup.entries (used + 2)
is_full_at setup used weight (deed.Tick moment) = nat_lt setup.entries (used + 1)

-- a deed has no room after what happened
abbrev pub is_full_after : Setup → List Happening → Deed → Bool
is_full_after setup past deed = is_full_at setup (used_after past) (weight_after setup past) deed

-- a deed has no room behind a history
unfoldable pub is_full : Setup → List Entry → Deed → Bool
is_full setup history deed = is_full_after setup (past_of setup history) deed

-- a deed ends a live run of its own caller, where it ends one
abbrev pub EndsOwn : List Doing → ℕ → Deed → Type 0
EndsOwn past caller (deed.Call raw) = Unit {0}
EndsOwn past caller (deed.Finish run ruling) = IsLive past caller run
EndsOwn past caller (deed.Park run why) = IsLive past caller run
EndsOwn past caller deed.Resume = Unit {0}
EndsOwn past caller (deed.Tick moment) = Unit {0}

-- an entry may come after what happened
pub record IsAllowed (setup : Setup) (past : List Happening) (entry : Entry) : Type 0 where
  pub caller : entry.caller < 2 ^ 62
  pub clock : IsWithinClock entry.deed
  pub own : EndsOwn (doings_after past) entry.caller entry.deed
  pub room : is_full_after setup past entry.deed ≡ false

-- each of these entries may come after those before it
abbrev pub AreAllowed : Setup → List Happening → List Entry → Type 0
AreAllowed setup past [] = Unit {0}
AreAllowed setup past (entry ∷ entries) = IsAllowed setup past entry × AreAllowed setup (and_then setup past entry) entries

-- a legal history: it opens at a moment that the clock shows, and each entry may come where it stands
pub record IsLegal (setup : Setup) (history : List Entry) : Type 0 where
  pub opened : setup.opened ≤ clock_limit
  pub allowed : AreAllowed setup [] history
