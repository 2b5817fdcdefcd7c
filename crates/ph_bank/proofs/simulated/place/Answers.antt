use Rattle.ph_bank.proofs.SimulationLemmas.{place_found}
use Rattle.ph_bank.proofs.simulated.place.Goals as goal

pub returns-then-remembered-reference : goal.returns-then-remembered-reference
returns-then-remembered-reference c =
    place_found c.args.memory.now c.args.reference c.loop-at.at _ c.loop-at-test.true c.if-remembered-reference.true
    c.loop-at.invariant.known c.loop-at.invariant.asks c.loop-at.invariant.counts
