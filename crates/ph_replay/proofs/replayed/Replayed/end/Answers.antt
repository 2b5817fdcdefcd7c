use Rattle.std.proofs.Common.{rules}
use Rattle.ph_base.specs.declared.acquirer.Why.TheVariants as why_given
use Rattle.ph_replay.proofs.ReplayLemmas.{first_of, left_kept}
use Rattle.ph_replay.proofs.replayed.Replayed.end.Goals as goal

pub given_up-reply-requires : goal.given_up-reply-requires
given_up-reply-requires c =
    let taken = first_of _ _ _ _ c.remove-ticket.result c.live_runs.ensures.found c.runs.invariant (search rules) c.remove-ticket.ensures.value c.remove-ticket.ensures.items in
    record { caller = taken.small; own = taken.holds }

pub runs-preserved : goal.runs-preserved
runs-preserved c =
    let taken = first_of _ _ _ _ c.remove-ticket.result c.live_runs.ensures.found c.runs.invariant (search rules) c.remove-ticket.ensures.value c.remove-ticket.ensures.items in
    left_kept c.runs.book c.given_up-reply.new.book why_given.Pending _ _ c.runs.tickets.items _ c.remove-ticket.result c.live_runs.ensures.follow c.runs.invariant taken c.given_up-reply.ensures.entered
