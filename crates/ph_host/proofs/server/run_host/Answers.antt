use Rattle.std.proofs.Common.{◌≡◌, true, false, length, sym, ap, ◌∙◌, arith}
use Rattle.std.proofs.lemmas.Bool.{eq-eqb}
use Rattle.ph_host.specs.Plans.{is_host_of, plan_of}
use Rattle.ph_host.proofs.server.run_host.Goals as goal

pub returns-in-Ok-clause-usage : goal.returns-in-Ok-clause-usage
returns-in-Ok-clause-usage g c = λ none.
    let same : c.in-Host.count ≡ length c.args.workers.now = omega (arith, c.from.ensures, c.if-workers-from.true) in
    let asked : is_host_of (length c.args.workers.now) (plan_of c.args.words.now) ≡ true =
    ap (is_host_of (length c.args.workers.now)) (sym c.plan.ensures ∙ c.in-Host.is) ∙ eq-eqb _ _ same in
    let both : true ≡ false = sym asked ∙ none in
    absurd (cc)

pub returns-in-Ok-clause-workers : goal.returns-in-Ok-clause-workers
returns-in-Ok-clause-workers g c = rw (ap (λ b. b.setup) c.in-Ok.ensures) at c.host.ensures.workers
