use Rattle.std.proofs.Common.{◌≡◌, ◌+◌, drop}
use Rattle.std.specs.List.{position_or_len}
use Rattle.ph_form.specs.Names.{is_bracket}
use Rattle.ph_form.proofs.names.base_len.Given as goal

abbrev pub invariant-loop-i : goal.invariant-loop-i
invariant-loop-i l = position_or_len is_bracket (drop l.i l.name) + l.i ≡ position_or_len is_bracket l.name
