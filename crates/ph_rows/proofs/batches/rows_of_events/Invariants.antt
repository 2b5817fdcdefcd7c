use Rattle.std.proofs.Common.{◌≡◌, ◌++◌, ◌+◌, length, drop}
use Rattle.std.specs.Option.{option_copied}
use Rattle.ph_rows.specs.Batches.{event_rows}
use Rattle.ph_rows.proofs.batches.rows_of_events.Given as goal

abbrev pub invariant-loop-told : goal.invariant-loop-told
invariant-loop-told l =
    l.events.items ++ event_rows (option_copied l.key) l.at l.rows (l.count + length l.events.items) (drop l.told-index l.announced)
    ≡ event_rows (option_copied l.key) l.at l.rows l.count l.announced
