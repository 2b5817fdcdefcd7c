use Rattle.std.proofs.Common.{Some, sym, ap, ◌∙◌}
use Rattle.ph_attempts.proofs.ListLemmas.{found_any, found_passes, parked_is}
use Rattle.ph_attempts.proofs.unsettled.parked_order.Goals as goal

pub unreachable-requires : goal.unreachable-requires
unreachable-requires c = found_any c.args.reference c.args.attempts.now c.requires (sym c.in-None.ensures)

pub returns : goal.returns
returns c =
    let passes = found_passes c.args.reference c.args.attempts.now c.in-Some.attempt (sym c.in-Some.ensures) in
    rw c.order.ensures (sym c.in-Some.ensures ∙ ap Some (parked_is c.args.reference c.in-Some.attempt passes))
