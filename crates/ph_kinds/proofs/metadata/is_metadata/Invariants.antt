use Rattle.std.proofs.Common.{◌≡◌, drop}
use Rattle.std.specs.List.{list_all}
use Rattle.ph_kinds.specs.Metadata.{is_metadata_entry}
use Rattle.ph_kinds.proofs.metadata.is_metadata.Given as goal

abbrev pub invariant-loop-entry : goal.invariant-loop-entry
invariant-loop-entry l = list_all is_metadata_entry (drop l.entry-index l.entries) ≡ list_all is_metadata_entry l.entries
