use Rattle.std.proofs.Common.{◌≡◌}
use Rattle.ph_bank.proofs.DriveLemmas.{Waiting}
use Rattle.ph_bank.proofs.driving.drive.Given as goal

abbrev pub invariant-polls : goal.invariant-polls
invariant-polls g l =
    (l.future.link.ghost_name ≡ l.initial.future.link.ghost_name)
    × (l.future.ticket.now ≡ l.ticket)
    × ((g.P.Patience.counts l.patience).starts ≡ (g.P.Patience.counts l.initial.patience).starts)
    × ((g.P.Patience.counts l.patience).refusals ≡ (g.P.Patience.counts l.initial.patience).refusals)
    × Waiting (g.A.Acquirer.link l.fn.link) (g.A.Acquirer.link l.future.link.now) l.ticket.order
    (g.P.Patience.counts l.initial.patience).grants (g.P.Patience.counts l.patience).grants

abbrev pub decreases-polls : goal.decreases-polls
decreases-polls g l = g.P.Patience.left l.patience
