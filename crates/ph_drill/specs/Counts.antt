-- How many there are.
use Rattle.std.specs.Prelude.{ℕ, Bool, true, false, ◌==◌, ◌&&◌, List, length, Option, Some, None}
use Rattle.std.specs.List.{count_by}
use Rattle.ph_base.specs.declared.ids.Kind.{Kind}
use Rattle.ph_base.specs.declared.ids.Kind.TheVariants as kind
use Rattle.ph_items.specs.Items.{attempt_in}
use Rattle.ph_items.specs.Kinds.{is_kind}
use Rattle.ph_items.specs.declared.attempts.Attempt.{Attempt}
use Rattle.ph_items.specs.declared.attempts.AttemptState.{AttemptState}
use Rattle.ph_items.specs.declared.attempts.AttemptState.TheVariants as state
use Rattle.ph_rows.specs.declared.rows.Row.{Row}
use Rattle.ph_book.specs.declared.acts.Deed.{Deed}
use Rattle.ph_book.specs.declared.acts.Deed.TheVariants as deed
use Rattle.ph_book.specs.declared.acts.Entry.{Entry}
use Rattle.ph_book.specs.declared.setup.Setup.{Setup}
use Rattle.ph_book.specs.History.{rows_of}
use Rattle.ph_drill.specs.declared.counts.Counted.{Counted}
use Rattle.ph_drill.specs.declared.counts.Counted.TheVariants as counted
use Rattle.ph_drill.specs.declared.counts.Counts.{Counts}

-- the deed is a call
abbrev pub is_call : Deed → Bool
is_call (deed.Call raw) = true
is_call (deed.Finish run ruling) = false
is_call (deed.Park run why) = false
is_call deed.Resume = false
is_call (deed.Tick moment) = false

-- how many entries of a history are calls
abbrev pub calls_in : List Entry → ℕ
calls_in history = count_by (λ entry. is_call entry.deed) history

-- the attempt was approved
abbrev pub is_approved : AttemptState → Bool
is_approved state.Live = false
is_approved state.Parked = false
is_approved state.Approved = true
is_approved state.Declined = false
is_approved state.Challenged = false

-- the row is a version of an attempt that says that it was approved; an attempt has one such version at most
abbrev pub is_approval : Option Attempt → Bool
is_approval None = false
is_approval (Some attempt) = is_approved attempt.state

-- the row is the first version of an object of the kind
abbrev pub is_object : Kind → Row → Bool
is_object wanted row = row.object == row.place && is_kind wanted row.item

-- the row counts: the first version of an attempt, the version that says that one was approved, an event
abbrev pub is_counted : Counted → Row → Bool
is_counted counted.Attempts row = is_object kind.Attempt row
is_counted counted.Approvals row = is_approval (attempt_in row.item)
is_counted counted.Events row = is_object kind.Event row

-- how many of these there are among rows
abbrev pub count_in : Counted → List Row → ℕ
count_in counted rows = count_by (is_counted counted) rows

-- what there is in a history: entries, calls, attempts, those that were approved, rows, events
abbrev pub counts_of : Setup → List Entry → Counts
counts_of setup history = record {
  entries = length history;
  calls = calls_in history;
  attempts = count_in counted.Attempts (rows_of setup history);
  approved = count_in counted.Approvals (rows_of setup history);
  rows = length (rows_of setup history);
  events = count_in counted.Events (rows_of setup history);
}
