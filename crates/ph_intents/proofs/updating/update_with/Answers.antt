use Rattle.std.proofs.Common.{◌≡◌, nat_lt, length, cond, refl, sym, ap, ◌∙◌, codes}
use Rattle.std.proofs.lemmas.Bool.{cond-true, cond-false}
use Rattle.ph_errors.specs.Table.{Problem, AmountTooSmall, InvalidValue, error_of}
use Rattle.ph_errors.specs.declared.refusal.Refusal.{Refusal}
use Rattle.ph_errors.specs.declared.refusal.Refusal.TheVariants as refusal
use Rattle.ph_facts.specs.Outcomes.{Outcome, Refuses, Adds, IsRefusedBy}
use Rattle.ph_rows.specs.Batches.{BatchState}
use Rattle.ph_intents.specs.Fees.{is_wrong_fee}
use Rattle.ph_intents.specs.Refusals.{IsRefusal, invalid_value}
use Rattle.ph_intents.specs.Update.{is_too_small, led, most_keys, update_with}
use Rattle.ph_intents.specs.Versions.{with_version}
use Rattle.ph_intents.proofs.updating.update_with.Goals as goal

-- an operation that refuses a problem is refused by its error
refused_by : (problem : Problem) (outcome : Outcome) (batch : BatchState) (r : Refusal) → outcome ≡ Refuses (error_of problem)
    → IsRefusal problem r → IsRefusedBy outcome batch r batch
refused_by problem outcome batch (refusal.Api error) is e = (is ∙ ap Refuses (sym e), refl)
refused_by problem outcome batch refusal.NoMemory is e = tt

pub returns-then-is_wrong_fee : goal.returns-then-is_wrong_fee
returns-then-is_wrong_fee c status =
    let intent = c.args.intent in
    let batch = c.args.batch.now in
    let fee = c.args.fee.now in
    let wrong = is_wrong_fee c.args.account intent.destination fee intent.amount in
    let fee_is_wrong = invalid_value (codes "application_fee_amount") in
    let many = invalid_value (codes "metadata") in
    let adds = Adds (led c.args.object status intent.status) c.args.object (with_version c.args.account c.args.object intent batch) in
    let kept = cond (nat_lt most_keys (length intent.metadata)) many adds in
    refused_by (InvalidValue (codes "application_fee_amount")) (update_with c.args.account fee batch c.args.object status intent)
    batch c.invalid_value.result
    (cond-false (is_too_small intent) (Refuses (error_of AmountTooSmall)) (cond wrong fee_is_wrong kept)
    (sym c.is_too_small.ensures ∙ c.if-is_too_small.false)
    ∙ cond-true wrong fee_is_wrong kept (sym c.is_wrong_fee.ensures ∙ c.if-is_wrong_fee.true))
    c.invalid_value.ensures
