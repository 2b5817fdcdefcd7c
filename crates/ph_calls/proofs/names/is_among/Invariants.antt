use Rattle.std.proofs.Common.{◌≡◌, map, drop}
use Rattle.std.specs.List.{list_any}
use Rattle.ph_form.specs.Names.{is_within}
use Rattle.ph_calls.proofs.names.is_among.Given as goal

abbrev pub invariant-loop-known : goal.invariant-loop-known
invariant-loop-known l = list_any (λ known. is_within known l.name) (map (λ n. n.now) (drop l.known-index l.names)) ≡ list_any (λ known. is_within known l.name) (map (λ n. n.now) l.names)
