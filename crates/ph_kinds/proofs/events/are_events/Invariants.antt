use Rattle.std.proofs.Common.{◌≡◌, drop}
use Rattle.std.specs.List.{list_all}
use Rattle.ph_kinds.specs.Events.{is_event}
use Rattle.ph_kinds.proofs.events.are_events.Given as goal

abbrev pub invariant-loop-entry : goal.invariant-loop-entry
invariant-loop-entry l = list_all (λ entry. is_event entry.text) (drop l.entry-index l.entries) ≡ list_all (λ entry. is_event entry.text) l.entries
