use Rattle.std.proofs.Common.{◌≡◌, ◌^◌, drop}
use Rattle.ph_lock.specs.Histories.{AllBelow}
use Rattle.ph_book.specs.Callers.{caller_of, top_from, top_of}
use Rattle.ph_book.proofs.object.top.Given as goal

abbrev pub invariant-loop-entry : goal.invariant-loop-entry
invariant-loop-entry l = record {
  rest : top_from l.top (drop l.entry-index l.entries) ≡ top_of l.entries;
  small : AllBelow caller_of (2 ^ 62) (drop l.entry-index l.entries);
}
