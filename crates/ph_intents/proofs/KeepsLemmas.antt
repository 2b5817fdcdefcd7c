-- What each call adds may be entered after sound rows.
use Rattle.std.proofs.Common.{◌≡◌, ℕ, ◌+◌, ◌||◌, ◌∙◌, ap, true, cond, nat_lt, List, [], Option, None, Some, length, refl, codes, arith}
use Rattle.std.proofs.lemmas.Bool.{cond_both}
use Rattle.std.specs.Option.{is_some, option_or}
use Rattle.ph_base.specs.declared.acquirer.Method.TheVariants as method
use Rattle.ph_facts.specs.Outcomes.{Outcome, Refuses, Adds}
use Rattle.ph_accounts.specs.Naming.{connected_named}
use Rattle.ph_calls.specs.declared.call.CreateIntent.{CreateIntent}
use Rattle.ph_calls.specs.declared.call.UpdateIntent.{UpdateIntent}
use Rattle.ph_errors.specs.Table.{error_of, AmountTooSmall}
use Rattle.ph_rows.specs.declared.rows.Row.{Row}
use Rattle.ph_items.specs.declared.event_kinds.EventKind.TheVariants as event
use Rattle.ph_items.specs.declared.intents.Intent.{Intent}
use Rattle.ph_items.specs.declared.intents.IntentStatus.{IntentStatus}
use Rattle.ph_items.specs.declared.intents.IntentStatus.TheVariants as status
use Rattle.ph_items.specs.declared.intents.PaymentError.{PaymentError}
use Rattle.ph_items.specs.declared.intents.PaymentError.TheVariants as payment_error
use Rattle.ph_items.specs.declared.items.Item.TheVariants as item
use Rattle.ph_items.specs.declared.payment_methods.PaymentMethod.{PaymentMethod}
use Rattle.ph_rows.specs.Batches.{last_place}
use Rattle.ph_rows.specs.Views.{ViewState}
use Rattle.ph_facts.proofs.DoneLemmas.{no_object, none_given, too_small, wrong_state, wrong_value}
use Rattle.ph_facts.proofs.UnderwayLemmas.{IsUnderway}
use Rattle.ph_facts.specs.Keeps.{MayBeDone}
use Rattle.ph_facts.specs.Statuses.{may_put}
use Rattle.ph_facts.specs.Touches.{Authenticates, Confirms}
use Rattle.ph_items.specs.Weights.{with_text, method_text, metadata_texts, texts_of}
use Rattle.ph_intents.specs.Attempts.{attempted}
use Rattle.ph_intents.specs.Authenticate.{authenticate_of, authenticate_outcome, authenticated_intent, fail_of, fail_authentication_outcome, failed_intent}
use Rattle.ph_intents.specs.Cancel.{cancel_of, cancel_outcome, canceled_intent}
use Rattle.ph_intents.specs.Confirm.{confirm_of, confirm_with, confirm_outcome, paying_intent}
use Rattle.ph_intents.specs.Create.{new_intent, first_status, create_outcome, create_by, create_confirmed_outcome, create_to}
use Rattle.ph_intents.specs.Destinations.{destination_of, to_found, with_destination}
use Rattle.ph_intents.specs.Fees.{is_wrong_fee}
use Rattle.ph_intents.specs.Keeps.{AreUtf8, KeepsRows, KeepsSound, batch_after, create_texts, update_texts, confirm_texts, no_texts}
use Rattle.ph_kinds.specs.Kept.{first_metadata, named_texts}
use Rattle.ph_kinds.proofs.KeptLemmas.{first_kept}
use Rattle.ph_intents.specs.Refusals.{invalid_value}
use Rattle.ph_intents.specs.Statuses.{next_status}
use Rattle.ph_intents.specs.Update.{is_too_small, led, most_keys, step_of, update_with, update_of, updated_intent, update_outcome}
use Rattle.ph_intents.specs.Versions.{with_version, adds_told}
use Rattle.ph_intents.specs.declared.statuses.Step.TheVariants as step
use Rattle.ph_intents.proofs.EnterLemmas.{Waits, created_underway, created_enters, new_number, told_enters, version_enters}
use Rattle.ph_intents.proofs.FoundLemmas.{IsFound, found_status, keeps_at, keeps_allowed, found_attempted, found_underway, found_texts, found_told, found_waits}
use Rattle.ph_intents.proofs.StatusLemmas.{canceled_waits, may_authenticate, may_cancel, may_confirm, may_fail, may_update, shows_led, waited_before}
use Rattle.ph_intents.proofs.TextLemmas.{front_text, with_front, either_text, either_method, merged_kept}

-- the texts of a payment intent behind the name of its payment method
abbrev pub other_texts : Intent → List (List ℕ)
other_texts intent =
    with_text intent.description (with_text intent.transfer_group (metadata_texts intent.metadata))

-- ---- the creates

-- the texts of a new payment intent
new_texts : (call : CreateIntent) (destination : Option ℕ) (status : IntentStatus) → AreUtf8 (create_texts call)
    → AreUtf8 (texts_of (item.Intent (new_intent call destination status)))
new_texts call destination status texts =
    let group = with_text call.transfer_group (named_texts call.metadata) in
    let one = front_text (method_text call.payment_method) (with_text call.description group) texts in
    let two = front_text call.description group one.1 in
    let three = front_text call.transfer_group (named_texts call.metadata) two.1 in
    let pairs = metadata_texts (first_metadata call.metadata) in
    let new_group = with_text call.transfer_group pairs in
    with_front (method_text call.payment_method) (with_text call.description new_group) one.0
    (with_front call.description new_group two.0
    (with_front call.transfer_group pairs three.0 (first_kept call.metadata three.1)))

-- a new payment intent doesn't wait for a capture
never_waits : (method : Option PaymentMethod) → first_status method ≡ status.RequiresCapture → ⊥
never_waits None waits = cc
never_waits (Some method) waits = cc

-- and is put where a new one may be
first_may : (method : Option PaymentMethod) → may_put None (first_status method) ≡ true
first_may None = refl
first_may (Some method) = refl

-- a create is refused where its destination isn't there, and else is what is made with it
destination_keeps : (state : ViewState) (most : ℕ) (make : Option ℕ → Outcome) (named : Option (List ℕ))
    → ((destination : Option ℕ) → KeepsRows state most (make destination))
    → KeepsRows state most (with_destination make (destination_of state.rows named))
destination_keeps state most make None keeps = keeps None
destination_keeps state most make (Some text) keeps = at (connected_named state.rows text)
  where
    at : (found : Option ℕ) → KeepsRows state most (with_destination make (to_found found))
    at None = no_object (codes "transfer_data[destination]")
    at (Some account) = keeps (Some account)

pub create_keeps : KeepsSound create_texts 2 create_outcome
create_keeps state entry account call ready texts =
    destination_keeps state 2 (λ destination. create_to account call (batch_after state entry) destination) call.destination
    (λ destination.
    let intent = new_intent call destination (first_status call.payment_method) in
    let kept = new_texts call destination (first_status call.payment_method) texts in
    told_enters state entry account (last_place (batch_after state entry) + 1) intent event.IntentCreated ready
    (created_underway state entry account intent ready kept tt) refl
    (λ waits. absurd (never_waits call.payment_method waits))
    (ap (λ old. may_put old intent.status) (new_number state entry ready) ∙ first_may call.payment_method))

pub create_confirmed_keeps : KeepsSound create_texts 3 create_confirmed_outcome
create_confirmed_keeps state entry account call ready texts =
    destination_keeps state 3 (λ destination. create_by account call (batch_after state entry) call.payment_method destination) call.destination
    (λ destination. at call.payment_method destination)
  where
    at : (method : Option PaymentMethod) (destination : Option ℕ)
        → KeepsRows state 3 (create_by account call (batch_after state entry) method destination)
    at None destination = none_given (codes "payment_method")
    at (Some method) destination =
        created_enters state entry account (new_intent call destination status.Processing) method.method ready
        (new_texts call destination status.Processing texts) tt (λ waits. absurd (cc)) refl

-- ---- the calls that change a payment intent, its texts as they were

pub cancel_keeps : KeepsSound no_texts 2 cancel_outcome
cancel_keeps state entry account call ready texts =
    let batch = batch_after state entry in
    let reason = call.cancellation_reason in
    keeps_at 2 (cancel_of account reason batch) state account call.id ready.sound
    (λ row intent found.
    let kept = found_texts state account row intent ready.sound found in
    let canceled = canceled_intent reason intent in
    keeps_allowed state 2 (λ status. adds_told account row.object (canceled status) event.IntentCanceled batch)
    (next_status intent.status step.Cancel)
    (λ status to. found_told state entry account row intent (canceled status) event.IntentCanceled ready found refl kept
    (record { charge = refl; amount = λ here. absurd (canceled_waits intent.status status to here); waits = waited_before intent.status step.Cancel status to })
    (may_cancel intent.status status to)))

pub authenticate_keeps : KeepsSound no_texts 2 authenticate_outcome
authenticate_keeps state entry account call ready texts =
    let batch = batch_after state entry in
    keeps_at 2 (authenticate_of account batch) state account call.id ready.sound
    (λ row intent found.
    let kept = found_texts state account row intent ready.sound found in
    let paying = authenticated_intent intent in
    keeps_allowed state 2 (λ status. attempted Authenticates account row.object (paying status) method.Authenticated batch)
    (next_status intent.status step.Authenticate)
    (λ status to. found_attempted state entry Authenticates account row intent (paying status) method.Authenticated ready found kept
    (record { charge = refl; amount = λ here. refl; waits = waited_before intent.status step.Authenticate status to })
    (may_authenticate intent.status status to).0 (may_authenticate intent.status status to).1))

-- ---- the calls that change its texts

-- the texts of a payment intent that wasn't paid are those that it had without its payment method
pub failed_texts : (intent : Intent) (error : PaymentError) (status : IntentStatus)
    → AreUtf8 (texts_of (item.Intent intent)) → AreUtf8 (texts_of (item.Intent (failed_intent error intent status)))
failed_texts intent error status texts = (front_text (method_text intent.payment_method) (other_texts intent) texts).1

pub fail_authentication_keeps : KeepsSound no_texts 2 fail_authentication_outcome
fail_authentication_keeps state entry account call ready texts =
    let batch = batch_after state entry in
    keeps_at 2 (fail_of account batch) state account call.id ready.sound
    (λ row intent found.
    let kept = found_texts state account row intent ready.sound found in
    let failed = failed_intent payment_error.NotAuthenticated intent in
    let sort = event.IntentPaymentFailed in
    keeps_allowed state 2 (λ status. adds_told account row.object (failed status) sort batch)
    (next_status intent.status step.Fail)
    (λ status to. found_told state entry account row intent (failed status) sort ready found refl
    (failed_texts intent payment_error.NotAuthenticated status kept)
    (record { charge = refl; amount = λ here. refl; waits = waited_before intent.status step.Fail status to })
    (may_fail intent.status status to)))

-- the texts of a payment intent that a payment method is to pay
paying_texts : (intent : Intent) (method : PaymentMethod) (status : IntentStatus)
    → AreUtf8 (with_text (Some method.text) []) → AreUtf8 (texts_of (item.Intent intent))
    → AreUtf8 (texts_of (item.Intent (paying_intent method intent status)))
paying_texts intent method status named texts =
    with_front (Some method.text) (other_texts intent) named
    (front_text (method_text intent.payment_method) (other_texts intent) texts).1

pub confirm_keeps : KeepsSound confirm_texts 2 confirm_outcome
confirm_keeps state entry account call ready texts =
    keeps_at 2 (confirm_of account call.payment_method (batch_after state entry)) state account call.id ready.sound
    (λ row intent found.
    let kept = found_texts state account row intent ready.sound found in
    let own = (front_text (method_text intent.payment_method) (other_texts intent) kept).0 in
    with_method row intent found kept (option_or call.payment_method intent.payment_method)
    (either_method call.payment_method intent.payment_method texts own))
  where
    with_method : (row : Row) (intent : Intent) → IsFound state account row intent → AreUtf8 (texts_of (item.Intent intent))
        → (method : Option PaymentMethod) → AreUtf8 (with_text (method_text method) [])
        → KeepsRows state 2 (confirm_with account (batch_after state entry) row.object intent method)
    with_method row intent found kept None named = wrong_state
    with_method row intent found kept (Some method) named =
        let paying = paying_intent method intent in
        keeps_allowed state 2
        (λ status. attempted Confirms account row.object (paying status) method.method (batch_after state entry))
        (next_status intent.status step.Confirm)
        (λ status to. found_attempted state entry Confirms account row intent (paying status) method.method ready found
        (paying_texts intent method status named kept)
        (record { charge = refl; amount = λ here. refl; waits = waited_before intent.status step.Confirm status to })
        (may_confirm intent.status status to).0 (may_confirm intent.status status to).1)

-- the texts of a payment intent after an update
updated_texts : (call : UpdateIntent) (intent : Intent) (status : IntentStatus) → AreUtf8 (update_texts call)
    → AreUtf8 (texts_of (item.Intent intent)) → AreUtf8 (texts_of (item.Intent (updated_intent call intent status)))
updated_texts call intent status texts kept =
    let new = updated_intent call intent status in
    let group = with_text call.transfer_group (named_texts call.metadata) in
    let one = front_text (method_text call.payment_method) (with_text call.description group) texts in
    let two = front_text call.description group one.1 in
    let three = front_text call.transfer_group (named_texts call.metadata) two.1 in
    let old_group = with_text intent.transfer_group (metadata_texts intent.metadata) in
    let old_one = front_text (method_text intent.payment_method) (other_texts intent) kept in
    let old_two = front_text intent.description old_group old_one.1 in
    let old_three = front_text intent.transfer_group (metadata_texts intent.metadata) old_two.1 in
    let pairs = metadata_texts new.metadata in
    with_front (method_text new.payment_method) (other_texts new)
    (either_method call.payment_method intent.payment_method one.0 old_one.0)
    (with_front new.description (with_text new.transfer_group pairs)
    (either_text call.description intent.description two.0 old_two.0)
    (with_front new.transfer_group pairs (either_text call.transfer_group intent.transfer_group three.0 old_three.0)
    (merged_kept call.metadata intent.metadata three.1 old_three.1)))

pub update_keeps : KeepsSound update_texts 1 update_outcome
update_keeps state entry account call ready texts =
    let batch = batch_after state entry in
    keeps_at 1 (update_of account call batch) state account call.id ready.sound
    (λ row intent found.
    let kept = found_texts state account row intent ready.sound found in
    let updated = updated_intent call intent in
    keeps_allowed state 1 (λ status. update_with account call.application_fee_amount batch row.object intent.status (updated status))
    (next_status intent.status (step_of call))
    (λ status to. with_updated row.object intent.status (updated status)
    (found_underway state entry account row intent (updated status) ready found (updated_texts call intent status texts kept) refl)
    (found_waits state account row intent (updated status) ready.sound found
    (record { charge = refl; amount = λ here. refl; waits = waited_before intent.status (step_of call) status to }))
    (may_update state.rows row.object intent.status status (is_some call.payment_method)
    (is_some call.amount || is_some call.currency || is_some call.application_fee_amount || is_some call.transfer_group) (found_status state account row intent found) to)))
  where
    with_updated : (object : ℕ) (old : IntentStatus) (intent : Intent) → IsUnderway state (with_version account object intent (batch_after state entry))
        → Waits state object intent → MayBeDone state.rows (led object old intent.status)
        → KeepsRows state 1 (update_with account call.application_fee_amount (batch_after state entry) object old intent)
    with_updated object old intent underway waits may =
        let keys = nat_lt most_keys (length intent.metadata) in
        let adds = Adds (led object old intent.status) object (with_version account object intent (batch_after state entry)) in
        let many = invalid_value (codes "metadata") in
        let wrong = is_wrong_fee account intent.destination call.application_fee_amount intent.amount in
        let fee = invalid_value (codes "application_fee_amount") in
        cond_both (is_too_small intent) (Refuses (error_of AmountTooSmall))
        (cond wrong fee (cond keys many adds)) (KeepsRows state 1) (λ small. too_small)
        (λ enough. cond_both wrong fee (cond keys many adds) (KeepsRows state 1) (λ taken. wrong_value (codes "application_fee_amount"))
        (λ right. cond_both keys many adds (KeepsRows state 1) (λ above. wrong_value (codes "metadata"))
        (λ within. (
          record {
            enters = version_enters state entry account object intent ready underway waits;
            few = omega arith;
            shown = shows_led object old intent.status;
          },
          may,
        ))))
