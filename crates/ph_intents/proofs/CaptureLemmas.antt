-- What a capture adds may be entered after sound rows.
use Rattle.std.specs.Prelude.{option_and_then}
use Rattle.std.proofs.Common.{◌≡◌, ℕ, ◌≤◌, ◌==◌, ◌||◌, ◌+◌, true, false, cond, length, nat_lt, List, [], ◌∷◌, ◌++◌, Option, None, Some, refl, sym, ap, ◌∙◌, subst, arith, codes, unwrap_or}
use Rattle.std.proofs.lemmas.Bool.{cond_both}
use Rattle.std.proofs.lemmas.List.{length-append}
use Rattle.std.proofs.lemmas.Bool.Decides.{nat_tests}
use Rattle.ph_charges.specs.Charges.{with_captured}
use Rattle.ph_charges.specs.Charges as charges
use Rattle.ph_charges.specs.Told.{split_events}
use Rattle.ph_charges.proofs.EntryLemmas.{capture_underway}
use Rattle.ph_charges.proofs.SplitLemmas.{captured_few, captured_leaves, captured_shows, captured_silent, captured_tells, leave_both}
use Rattle.ph_charges.proofs.TellLemmas.{events_both, told_added}
use Rattle.ph_charges.proofs.SumLemmas as sums
use Rattle.ph_rows.specs.declared.batches.Announced.{Announced}
use Rattle.ph_rows.specs.declared.rows.Row.{Row}
use Rattle.ph_items.specs.declared.charges.Charge.{Charge}
use Rattle.ph_items.specs.declared.charges.ChargeSort.TheVariants as charge_sort
use Rattle.ph_items.specs.Charges.{charge_kind}
use Rattle.ph_items.specs.declared.event_kinds.EventKind.TheVariants as event
use Rattle.ph_items.specs.declared.intents.Intent.{Intent}
use Rattle.ph_items.specs.declared.intents.IntentStatus.{IntentStatus}
use Rattle.ph_items.specs.declared.intents.IntentStatus.TheVariants as status
use Rattle.ph_items.specs.declared.items.Item.TheVariants as item
use Rattle.ph_rows.specs.Batches.{BatchState, next_row, with_row, with_announced}
use Rattle.ph_facts.specs.Entering.{MayBeEntered}
use Rattle.ph_items.specs.Items.{charge_in}
use Rattle.ph_items.specs.Kinds.{kind_of}
use Rattle.ph_rows.specs.Rows.{latest_of}
use Rattle.ph_facts.specs.Origins.{origins_of}
use Rattle.ph_facts.specs.Sound.{KeepLaws}
use Rattle.ph_facts.specs.Held.{AreHeld, Holds, IsHeldBy, charge_of}
use Rattle.ph_rows.specs.Views.{ViewState}
use Rattle.ph_rows.proofs.RowLemmas.{second_fails}
use Rattle.ph_facts.proofs.HeldLemmas.{AllLeave, another_is_apart, held_known}
use Rattle.ph_facts.proofs.OrderLemmas.{origins_stand}
use Rattle.ph_facts.proofs.OriginLemmas.{have_begun-before}
use Rattle.ph_facts.proofs.DoneLemmas.{shown_after, wrong_value}
use Rattle.ph_facts.specs.Shown.{Shown, ShowsIntent, status_in}
use Rattle.ph_facts.specs.Statuses.{may_put}
use Rattle.ph_facts.specs.Touches.{Puts}
use Rattle.ph_facts.proofs.UnderwayLemmas.{IsUnderway, underway_further, underway_told}
use Rattle.ph_intents.specs.Capture.{capture_of, capture_outcome, capture_amount, captured_with, received_intent, with_charge_captured}
use Rattle.ph_intents.specs.Fees.{is_wrong_fee, with_fee}
use Rattle.ph_intents.specs.Keeps.{IsReady, KeepsRows, KeepsSound, MayBeAdded, batch_after, no_texts}
use Rattle.ph_intents.specs.Refusals.{invalid_value}
use Rattle.ph_intents.specs.Statuses.{next_status}
use Rattle.ph_intents.specs.Versions.{with_all_told, with_told}
use Rattle.ph_intents.specs.declared.statuses.Step.TheVariants as step
use Rattle.ph_intents.proofs.EnterLemmas.{begins, enters, last_version}
use Rattle.ph_intents.proofs.FoundLemmas.{IsFound, found_status, found_texts, keeps_allowed, keeps_at}
use Rattle.ph_intents.proofs.HoldLemmas.{charge_row}
use Rattle.ph_intents.proofs.StatusLemmas.{captured_step, may_capture}

-- what a capture of a charge adds in front of the payment intent's version
abbrev captured_batch : ViewState → ℕ → Row → ℕ → Charge → ℕ → Option ℕ → BatchState
captured_batch state entry last n charge amount fee =
    with_announced (with_captured last.account n (charges.with_fee fee charge) amount (batch_after state entry)) event.ChargeCaptured n

-- a capture of a charge that holds a payment intent, of no more than can be captured
captured_enters : (state : ViewState) (entry account : ℕ) (row : Row) (intent : Intent) (n : ℕ) (last : Row) (charge : Charge)
    (amount : ℕ) (fee : Option ℕ) (found : IntentStatus) → IsReady state → IsFound state account row intent → latest_of n state.rows ≡ Some last
    → last.item ≡ item.Charge charge → Holds row.object intent charge → amount ≤ intent.amount_capturable
    → status.Succeeded ≡ found
    → MayBeEntered state (with_told account row.object (received_intent amount (with_fee fee intent) found) event.IntentSucceeded (captured_batch state entry last n charge amount fee))
captured_enters state entry account row intent n last charge amount fee found ready there latest is holds within succeeded =
    enters state (with_told account row.object received event.IntentSucceeded captured) row.object ready.sound told kept leave
    (held_known row.object (state.rows ++ (captured.rows ++ version ∷ [])) version received
    (last_version state.rows captured row.object account (item.Intent received)) refl
    (λ here. absurd (let e : status.Succeeded ≡ status.RequiresCapture = succeeded ∙ here in cc)))
  where
    batch : BatchState
    batch = batch_after state entry

    received : Intent
    received = received_intent amount (with_fee fee intent) found

    captured : BatchState
    captured = captured_batch state entry last n charge amount fee

    version : Row
    version = next_row captured row.object account (item.Intent received)

    enough : amount ≤ charge.amount
    enough = let authorised : intent.amount_capturable + charge.amount_captured ≡ charge.amount = holds.amount in omega arith

    few : length captured.rows ≤ 8
    few = captured_few last.account n (charges.with_fee fee charge) amount batch

    told : IsUnderway state (with_told account row.object received event.IntentSucceeded captured)
    told =
        let room = ready.room in
        underway_told state captured row.object account (item.Intent received) event.IntentSucceeded
        (subst (λ (owner : ℕ). IsUnderway state (with_row captured row.object owner (item.Intent received))) there.owner
        (underway_further state captured row (item.Intent received) ready.sound.order
        (capture_underway state batch n amount fee last charge ready.sound (begins state entry) (omega arith) latest is
        (ap charge_kind holds.sort) holds.nothing enough)
        there.stands (omega (arith, few))
        (record {
          texts = found_texts state account row intent ready.sound there;
          within = tt;
          origins = have_begun-before state.rows captured.rows (origins_of (item.Intent intent)) (origins_stand state row (item.Intent intent) ready.sound.order there.stands there.is);
          silent = λ event is. absurd (cc);
        })
        (record { kind = ap kind_of (sym there.is); changes = refl }))) refl

    kept : AreHeld (state.rows ++ (captured.rows ++ version ∷ [])) → KeepLaws (state.rows ++ (captured.rows ++ version ∷ []))
    kept = sums.capture_keeps state n amount fee batch (version ∷ []) last charge ready.sound refl latest is holds.nothing refl refl

    known : charge_of state.rows n ≡ Some charge
    known = ap (option_and_then (λ (r : Row). charge_in r.item)) latest ∙ ap charge_in is

    leave : (other : ℕ) → (other ≡ row.object → ⊥) → AllLeave state.rows other (captured.rows ++ version ∷ [])
    leave other differs =
        leave_both state.rows other captured.rows (version ∷ [])
        (captured_leaves state other last.account n (charges.with_fee fee charge) amount batch ready.sound.order ready.sound.laws.held (omega arith) tt
        (another_is_apart state.rows other n charge (ready.sound.laws.held other) known
        (λ same. differs (let both : charge_sort.Card other ≡ charge_sort.Card row.object = sym same ∙ holds.sort in cc))))
        (λ same. differs (sym same), tt)

-- it may be added, with its events: at most eight rows of the charge, the payment intent, and two events for each
captured_added : (state : ViewState) (entry account : ℕ) (row : Row) (intent : Intent) (n : ℕ) (last : Row) (charge : Charge)
    (amount : ℕ) (fee : Option ℕ) (found : IntentStatus) → IsReady state → IsFound state account row intent → latest_of n state.rows ≡ Some last
    → last.item ≡ item.Charge charge → Holds row.object intent charge → amount ≤ intent.amount_capturable
    → status.Succeeded ≡ found
    → MayBeAdded state 13 (Puts row.object found) (with_all_told account row.object (received_intent amount (with_fee fee intent) found) event.IntentSucceeded (captured_batch state entry last n charge amount fee))
captured_added state entry account row intent n last charge amount fee found ready there latest is holds within succeeded =
    told_added state 11 (Puts row.object found) told ready.sound (record {
      enters = captured_enters state entry account row intent n last charge amount fee found ready there latest is holds within succeeded;
      few = few;
      shown = shown_after captured.rows (version ∷ [])
          ∙ ap (λ (s : List Shown). s ++ ShowsIntent row.object found ∷ []) (captured_shows last.account n (charges.with_fee fee charge) amount batch);
    }) two
  where
    batch : BatchState
    batch = batch_after state entry

    received : Intent
    received = received_intent amount (with_fee fee intent) found

    captured : BatchState
    captured = captured_batch state entry last n charge amount fee

    version : Row
    version = next_row captured row.object account (item.Intent received)

    told : BatchState
    told = with_told account row.object received event.IntentSucceeded captured

    few : length told.rows + length told.announced ≤ 11
    few =
        let rows : length captured.rows ≤ 8 = captured_few last.account n (charges.with_fee fee charge) amount batch in
        let all : length (captured.rows ++ version ∷ []) ≡ length captured.rows + 1 = length-append captured.rows (version ∷ []) in
        let events : length told.announced ≡ 2 =
        ap (λ (a : List Announced). length ((a ++ record { sort = event.ChargeCaptured; object = n } ∷ []) ++ record { sort = event.IntentSucceeded; object = row.object } ∷ []))
        (captured_silent last.account n (charges.with_fee fee charge) amount batch) in
        omega arith

    two : length (split_events told.rows) ≤ 2
    two =
        let rows : length (split_events captured.rows) ≤ 2 = captured_tells last.account n (charges.with_fee fee charge) amount batch in
        let both : length (split_events (captured.rows ++ version ∷ [])) ≡ length (split_events captured.rows) + 0 = events_both captured.rows (version ∷ []) in
        omega arith

pub capture_keeps : KeepsSound no_texts 13 capture_outcome
capture_keeps state entry account call ready texts =
    keeps_at 13 (capture_of state.rows account call.amount_to_capture fee (batch_after state entry)) state account call.id ready.sound
    (λ row intent found.
    let amount = unwrap_or call.amount_to_capture intent.amount_capturable in
    keeps_allowed state 13 (capture_amount state.rows account amount fee (batch_after state entry) row.object intent)
    (next_status intent.status step.Capture)
    (λ status to. of_amount row intent found status amount (captured_step intent.status status to)
    (ap (λ old. may_put old status) (found_status state account row intent found) ∙ may_capture intent.status status to)))
  where
    fee : Option ℕ
    fee = call.application_fee_amount

    of_charge : (row : Row) (intent : Intent) → IsFound state account row intent → (found : IntentStatus) (amount : ℕ)
        → amount ≤ intent.amount_capturable → status.Succeeded ≡ found → (latest : Option ℕ)
        → IsHeldBy row.object intent (option_and_then (charge_of state.rows) latest)
        → MayBeAdded state 13 (Puts row.object found) (with_all_told account row.object (received_intent amount (with_fee fee intent) found) event.IntentSucceeded (with_charge_captured state.rows amount fee latest (batch_after state entry)))
    of_charge row intent there found amount within succeeded None held = absurd held
    of_charge row intent there found amount within succeeded (Some n) held = at (charge_of state.rows n) refl held
      where
        at : (charge : Option Charge) → charge_of state.rows n ≡ charge → IsHeldBy row.object intent charge
            → MayBeAdded state 13 (Puts row.object found) (with_all_told account row.object (received_intent amount (with_fee fee intent) found) event.IntentSucceeded (with_charge_captured state.rows amount fee (Some n) (batch_after state entry)))
        at None e held = absurd held
        at (Some charge) e held =
            let last = charge_row state.rows n charge e in
            subst (λ (b : BatchState). MayBeAdded state 13 (Puts row.object found) (with_all_told account row.object (received_intent amount (with_fee fee intent) found) event.IntentSucceeded b))
            (sym (sums.capture_is state.rows n amount fee (batch_after state entry) last.row charge refl last.latest last.is))
            (captured_added state entry account row intent n last.row charge amount fee found ready there last.latest last.is held within succeeded)

    of_amount : (row : Row) (intent : Intent) → IsFound state account row intent → (found : IntentStatus) (amount : ℕ)
        → (intent.status ≡ status.RequiresCapture) × (status.Succeeded ≡ found)
        → may_put (status_in state.rows row.object) found ≡ true
        → KeepsRows state 13 (capture_amount state.rows account amount fee (batch_after state entry) row.object intent found)
    of_amount row intent there found amount step may =
        let captures = captured_with state.rows account amount fee (batch_after state entry) row.object intent found in
        let wrong = is_wrong_fee account intent.destination fee amount in
        cond_both ((amount == 0) || nat_lt intent.amount_capturable amount) (invalid_value (codes "amount_to_capture"))
        (cond wrong (invalid_value (codes "application_fee_amount")) captures)
        (KeepsRows state 13) (λ out. wrong_value (codes "amount_to_capture"))
        (λ bounds. cond_both wrong (invalid_value (codes "application_fee_amount")) captures (KeepsRows state 13)
        (λ taken. wrong_value (codes "application_fee_amount"))
        (λ right.
        let no_more : nat_lt intent.amount_capturable amount ≡ false = second_fails (amount == 0) (nat_lt intent.amount_capturable amount) bounds in (
          of_charge row intent there found amount (grind (arith, nat_tests)) step.1 intent.latest_charge
              (ready.sound.laws.held row.object row intent there.latest there.is step.0),
          may,
        )))
