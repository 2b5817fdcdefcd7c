-- The status of each payment intent, read off the past: its doings, newest first.
use Rattle.std.specs.Prelude.{ℕ, ◌==◌, if◌then◌else◌, List, [], ◌∷◌, Option, Some, None}
use Rattle.ph_items.specs.declared.intents.IntentStatus.{IntentStatus}
use Rattle.ph_items.specs.declared.intents.IntentStatus.TheVariants as status
use Rattle.ph_facts.specs.Statuses.{status_ruled}
use Rattle.ph_doings.specs.Doings.{Doing, Leaves, Puts, Edits, Begins, Resumes, Parks, Settles}

-- the status of a payment intent after a doing
abbrev pub status_after : Doing → ℕ → Option IntentStatus → Option IntentStatus
status_after Leaves intent old = old
status_after (Puts of status) intent old = if intent == of then Some status else old
status_after (Edits of status) intent old = if intent == of then Some status else old
status_after (Begins cause of flight) intent old = if intent == of then Some status.Processing else old
status_after (Resumes of flight) intent old = old
status_after (Parks of flight) intent old = old
status_after (Settles of flight capture ruling) intent old = if intent == of then Some (status_ruled capture ruling) else old

-- the status of a payment intent, where there is one of this number
abbrev pub status_of : List Doing → ℕ → Option IntentStatus
status_of [] intent = None
status_of (doing ∷ past) intent = status_after doing intent (status_of past intent)
