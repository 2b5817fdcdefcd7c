use Rattle.std.proofs.Common.{◌≡◌, false, [], drop}
use Rattle.ph_form.specs.Names.{keys_from}
use Rattle.ph_form.proofs.names.keys_in.Given as goal

abbrev pub invariant-loop-b : goal.invariant-loop-b
invariant-loop-b l =
    (keys_from l.keys.items l.inside l.key.items (drop l.b-index l.text) ≡ keys_from [] false [] l.text) × (l.inside ≡ false → l.key.items ≡ [])
