use Rattle.std.proofs.Common.{◌≡◌, ◌+◌, ◌<◌, ◌^◌, drop}
use Rattle.ph_items.specs.Weights.{total_length, metadata_texts}
use Rattle.ph_items.proofs.weights.plus_pairs.Given as goal

abbrev pub invariant-loop-pair : goal.invariant-loop-pair
invariant-loop-pair l = record {
  rest : l.sum + total_length (metadata_texts (drop l.pair-index l.pairs)) ≡ l.before + total_length (metadata_texts l.pairs);
  fits : l.sum < 2 ^ 64;
}
