use Rattle.std.proofs.Common.{◌≡◌, ap, ◌∙◌, arith, rules}
use Rattle.ph_attempts.specs.declared.flights.Flight.{Flight}
use Rattle.ph_bank.specs.Patiences.{Granted}
use Rattle.ph_bank.proofs.DriveLemmas.{drive_gave_up, drive_ready, waiting_more}
use Rattle.ph_bank.proofs.driving.drive.Goals as goal

pub polls-preserved : goal.polls-preserved
polls-preserved g c =
    let same : c.polls.future.ticket.now ≡ c.args.ticket.now = c.polls.invariant.1 in
    let grants = c.if-not-more.ensures.decides in (
      c.ask_once.ensures.link ∙ c.polls.invariant.0,
      c.ask_once.ensures.ticket ∙ same,
      ap (λ (counts : Granted). counts.starts) grants.counts ∙ c.polls.invariant.2,
      ap (λ (counts : Granted). counts.refusals) grants.counts ∙ c.polls.invariant.3,
      waiting_more c.polls.invariant.4 c.in-Pending.ensures.asks (ap (λ (t : Flight). t.order) same) (ap (λ (counts : Granted). counts.grants) grants.counts),
    )

pub returns-in-Ready-clause-asks : goal.returns-in-Ready-clause-asks
returns-in-Ready-clause-asks g c =
    let same : c.polls.future.ticket.now ≡ c.args.ticket.now = c.polls.invariant.1 in
    drive_ready c.in-Ready.answer c.polls.invariant.4 c.in-Ready.ensures.asks (ap (λ (t : Flight). t.order) same) (search rules)
    (ap (λ (counts : Granted). counts.grants) c.start.ensures.starts) c.ended.ensures

pub returns-then-not-more-clause-asks : goal.returns-then-not-more-clause-asks
returns-then-not-more-clause-asks g c =
    let same : c.polls.future.ticket.now ≡ c.args.ticket.now = c.polls.invariant.1 in
    drive_gave_up c.polls.invariant.4 c.in-Pending.ensures.asks (ap (λ (t : Flight). t.order) same) (search rules)
    (ap (λ (counts : Granted). counts.grants) c.start.ensures.starts) c.if-not-more.ensures.decides.grants

pub returns-then-not-more-clause-refusals : goal.returns-then-not-more-clause-refusals
returns-then-not-more-clause-refusals g c =
    let begun = ap (λ (counts : Granted). counts.refusals) c.start.ensures.starts in
    let kept = c.polls.invariant.3 in
    let later = c.if-not-more.ensures.decides.refusals in
    omega arith
