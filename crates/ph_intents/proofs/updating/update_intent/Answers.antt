use Rattle.std.proofs.Common.{◌≡◌, ℕ, Option, Some, Result, sym, ap, ◌∙◌, subst}
use Rattle.ph_calls.specs.declared.call.UpdateIntent.{UpdateIntent}
use Rattle.ph_errors.specs.declared.refusal.Refusal.{Refusal}
use Rattle.ph_facts.specs.Outcomes.{Gives}
use Rattle.ph_items.specs.declared.intents.Intent.{Intent}
use Rattle.ph_items.specs.declared.intents.IntentStatus.{IntentStatus}
use Rattle.ph_rows.specs.Batches.{BatchState}
use Rattle.ph_intents.specs.Refusals.{if_allowed}
use Rattle.ph_intents.specs.Statuses.{next_status}
use Rattle.ph_intents.specs.Update.{step_of, update_of, update_with, updated_intent}
use Rattle.ph_intents.proofs.updating.update_intent.Goals as goal

-- where its status allows it, an update is that of the version that results
allowed : (account : ℕ) (call : UpdateIntent) (old new : BatchState) (object : ℕ) (intent updated : Intent) (status : IntentStatus)
    (result : Result ℕ Refusal) → next_status intent.status (step_of call) ≡ Some status → updated ≡ updated_intent call intent status
    → Gives (update_with account call.application_fee_amount old object intent.status updated) old result new
    → Gives (update_of account call old object intent) old result new
allowed account call old new object intent updated status result to is gives =
    subst (λ (o : Option IntentStatus). Gives (if_allowed
    (λ status. update_with account call.application_fee_amount old object intent.status (updated_intent call intent status)) o) old result new)
    (sym to)
    (subst (λ (version : Intent). Gives (update_with account call.application_fee_amount old object intent.status version) old result new) is gives)

pub returns-in_ok-updated-in-Some : goal.returns-in_ok-updated-in-Some
returns-in_ok-updated-in-Some c =
    let intent = c.args.intent.now in
    allowed c.args.account c.args.call.now c.args.batch.now c.update_with.new.batch c.args.object intent
    c.in_ok-updated-in-Some.updated c.in-Some.status c.update_with.result
    (ap (next_status intent.status) (sym c.step_of.ensures) ∙ sym c.next_status.ensures ∙ c.in-Some.is)
    c.in_ok-updated-in-Some.ensures (c.update_with.ensures intent.status)
