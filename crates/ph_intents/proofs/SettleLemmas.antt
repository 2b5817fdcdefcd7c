-- What a ruling adds may be entered after sound rows.
use Rattle.std.specs.Prelude.{option_and_then}
use Rattle.std.proofs.Common.{◌≡◌, ℕ, ◌+◌, ◌≤◌, ◌<◌, ◌^◌, false, List, [], ◌∷◌, ◌++◌, Option, Some, length, refl, sym, ap, ◌∙◌, subst, arith}
use Rattle.std.specs.List.{list_any}
use Rattle.std.proofs.lemmas.List.{length-append}
use Rattle.ph_base.specs.declared.acquirer.Ruling.{Ruling}
use Rattle.ph_base.specs.declared.acquirer.Ruling.TheVariants as ruling
use Rattle.ph_base.specs.declared.ids.Kind.TheVariants as kind
use Rattle.ph_charges.specs.Approvals.{charge_number, decline_of, with_approved}
use Rattle.ph_charges.specs.Charges.{new_charge, with_captured}
use Rattle.ph_charges.specs.Told.{split_events}
use Rattle.ph_charges.proofs.SplitLemmas.{captured_few, captured_has, captured_leaves, captured_row, captured_shows, captured_silent, captured_tells}
use Rattle.ph_charges.proofs.TellLemmas.{events_both, told_added}
use Rattle.ph_charges.proofs.EntryLemmas.{approval_underway, decline_underway}
use Rattle.ph_charges.proofs.SumLemmas.{approval_keeps, decline_keeps}
use Rattle.ph_rows.specs.declared.batches.Announced.{Announced}
use Rattle.ph_rows.specs.declared.rows.Row.{Row}
use Rattle.ph_items.specs.declared.attempts.Attempt.{Attempt}
use Rattle.ph_items.specs.declared.charges.Charge.{Charge}
use Rattle.ph_items.specs.declared.charges.ChargeStatus.TheVariants as charge_status
use Rattle.ph_items.specs.declared.event_kinds.EventKind.{EventKind}
use Rattle.ph_items.specs.declared.event_kinds.EventKind.TheVariants as event
use Rattle.ph_items.specs.declared.intents.CaptureMethod.{CaptureMethod}
use Rattle.ph_items.specs.declared.intents.CaptureMethod.TheVariants as capture_method
use Rattle.ph_items.specs.declared.intents.Intent.{Intent}
use Rattle.ph_items.specs.declared.attempts.AttemptState.{AttemptState}
use Rattle.ph_items.specs.declared.attempts.AttemptState.TheVariants as attempt_state
use Rattle.ph_items.specs.declared.intents.IntentStatus.{IntentStatus}
use Rattle.ph_items.specs.declared.intents.IntentStatus.TheVariants as status
use Rattle.ph_items.specs.declared.orders.Order.{Order}
use Rattle.ph_facts.specs.Shown.{Shown, ShowsAttempt, ShowsIntent, shown_in, shows}
use Rattle.ph_facts.proofs.DoneLemmas.{shown_after}
use Rattle.ph_facts.specs.Touches.{Touch, Settles}
use Rattle.ph_items.specs.declared.intents.PaymentError.TheVariants as payment_error
use Rattle.ph_items.specs.declared.items.Item.TheVariants as item
use Rattle.ph_rows.specs.Batches.{BatchState, next_row, with_row, with_announced}
use Rattle.ph_facts.specs.Entering.{MayBeEntered}
use Rattle.ph_items.specs.Items.{attempt_in, charge_in, intent_in}
use Rattle.ph_items.specs.Kinds.{kind_of}
use Rattle.ph_rows.specs.Rows.{row_at, latest_of}
use Rattle.ph_facts.specs.Held.{AreHeld, IsHeldBy, charge_of}
use Rattle.ph_facts.specs.Origins.{HasOrigins, IsOrigin, charge_named, origins_of}
use Rattle.ph_facts.specs.Sound.{KeepLaws}
use Rattle.ph_rows.specs.Views.{ViewState}
use Rattle.ph_items.specs.Weights.{texts_of}
use Rattle.ph_items.specs.Words.{subject_of}
use Rattle.ph_rows.proofs.RowLemmas.{row_at_within}
use Rattle.ph_facts.proofs.HeldLemmas.{AllLeave, IsApart, Leaves, held_known, later_is_loose}
use Rattle.ph_facts.proofs.SoundLemmas.{latest_of_sound}
use Rattle.ph_facts.proofs.LawLemmas.{is_of_amounts, laws_held}
use Rattle.ph_facts.proofs.OrderLemmas.{order_with_all, origin_stands, origins_stand, stands_behind, texts_stand}
use Rattle.ph_facts.proofs.OriginLemmas.{has_begun_origin, has_begun_still, have_begun-before}
use Rattle.ph_facts.proofs.UnderwayLemmas.{IsUnderway, underway_further, underway_told}
use Rattle.ph_intents.specs.Keeps.{AreUtf8, IsDone, IsReady, MayBeAdded, SettleKeepsSound, batch_after}
use Rattle.ph_intents.specs.Settle.{settled_attempt, approved_intent, approved_event, settled_intent, settle_both, settle_intent, settle_attempt, settle_outcome, settle_row, with_latest_charge, with_ruling, with_settled}
use Rattle.ph_intents.specs.Versions.{with_all_told, with_told}
use Rattle.ph_intents.proofs.HoldLemmas.{each_begun}
use Rattle.ph_intents.proofs.EnterLemmas.{begins, enters, last_version, other_version}
use Rattle.ph_intents.proofs.KeepsLemmas.{failed_texts}

-- a row that stands is this version of an attempt of a payment intent, under its number
record IsAttempt (state : ViewState) (row : Row) (attempt : Attempt) (object : ℕ) : Type 0 where
  pub stands : row_at row.place state.rows ≡ Some row
  pub is : row.item ≡ item.Attempt attempt
  pub named : row.object ≡ attempt.order.reference
  pub of : attempt.intent ≡ object

-- a row that stands is this version of a payment intent
record IsIntent (state : ViewState) (row : Row) (intent : Intent) : Type 0 where
  pub stands : row_at row.place state.rows ≡ Some row
  pub is : row.item ≡ item.Intent intent

-- ---- the rows that a ruling adds in front of the payment intent's version

-- a batch is under way with them, they are few, and leave what is held for other payment intents
record IsRuled (state : ViewState) (object : ℕ) (batch : BatchState) : Type 0 where
  pub underway : IsUnderway state batch
  pub few : length batch.rows ≤ 9
  pub leave : (other : ℕ) → (other ≡ object → ⊥) → AllLeave state.rows other batch.rows

-- rows that leave what is held, and one more
leave_push : (rows : List Row) (object : ℕ) (more : List Row) (last : Row) → AllLeave rows object more
    → Leaves rows object last.object last.item → AllLeave rows object (more ++ last ∷ [])
leave_push rows object [] last leave h = (h, tt)
leave_push rows object (row ∷ more) last leave h = (leave.0, leave_push rows object more last leave.1 h)

-- ---- and with it

-- a version of the payment intent behind them, and the event that tells of it
ruled_enters : (state : ViewState) (row : Row) (old new : Intent) (sort : EventKind) (batch : BatchState) → IsReady state
    → IsIntent state row old → IsRuled state row.object batch → AreUtf8 (texts_of (item.Intent new)) → kind.Intent ≡ subject_of sort
    → HasOrigins (state.rows ++ batch.rows) (charge_named new.latest_charge)
    → (AreHeld (state.rows ++ (batch.rows ++ next_row batch row.object row.account (item.Intent new) ∷ [])) → KeepLaws (state.rows ++ (batch.rows ++ next_row batch row.object row.account (item.Intent new) ∷ [])))
    → (new.status ≡ status.RequiresCapture → IsHeldBy row.object new (option_and_then (charge_of (state.rows ++ (batch.rows ++ next_row batch row.object row.account (item.Intent new) ∷ []))) new.latest_charge))
    → MayBeEntered state (with_told row.account row.object new sort batch)
ruled_enters state row old new sort batch ready there ruled texts subject named kept held =
    let version = next_row batch row.object row.account (item.Intent new) in
    let room = ready.room in
    let few : length batch.rows ≤ 9 = ruled.few in
    enters state (with_told row.account row.object new sort batch) row.object ready.sound
    (underway_told state batch row.object row.account (item.Intent new) sort
    (underway_further state batch row (item.Intent new) ready.sound.order ruled.underway there.stands (omega arith)
    (record { texts = texts; within = tt; origins = named; silent = λ event is. absurd (cc) })
    (record { kind = ap kind_of (sym there.is); changes = refl })) subject)
    kept
    (λ other differs. leave_push state.rows other batch.rows version (ruled.leave other differs) (λ same. differs (sym same)))
    (held_known row.object (state.rows ++ (batch.rows ++ version ∷ [])) version new
    (last_version state.rows batch row.object row.account (item.Intent new)) refl held)

-- the batch with the version of an attempt after a ruling
settled_ruled : (state : ViewState) (entry : ℕ) (how : Ruling) (row : Row) (attempt : Attempt) (object : ℕ) → IsReady state
    → IsAttempt state row attempt object → IsRuled state object (with_settled how row attempt (batch_after state entry))
settled_ruled state entry how row attempt object ready stood = record {
  underway = underway_further state (batch_after state entry) row (item.Attempt (settled_attempt how attempt)) ready.sound.order
      (begins state entry) stood.stands (let room = ready.room in omega arith)
      (record {
        texts = refl;
        within = tt;
        origins = have_begun-before state.rows [] (origins_of (item.Attempt attempt)) (origins_stand state row (item.Attempt attempt) ready.sound.order stood.stands stood.is);
        silent = λ event is. absurd (cc);
      })
      (record { kind = ap kind_of (sym stood.is); changes = refl });
  few = omega arith;
  leave = λ other differs. (tt, tt);
}

-- what a ruling makes of an attempt and its payment intent
settled_enters : (state : ViewState) (entry : ℕ) (how : Ruling) (row intent_row : Row) (attempt : Attempt) (intent : Intent)
    → IsReady state → IsAttempt state row attempt intent_row.object → IsIntent state intent_row intent
    → MayBeAdded state 14 (Settles intent_row.object attempt.order intent.capture_method how)
    (with_ruling how intent_row.account intent_row.object intent (with_settled how row attempt (batch_after state entry)))
settled_enters state entry how row intent_row attempt intent ready stood there = ruled how
  where
    object : ℕ
    object = intent_row.object

    account : ℕ
    account = intent_row.account

    before : Ruling → BatchState
    before how = with_settled how row attempt (batch_after state entry)

    begun : (how : Ruling) → IsRuled state object (before how)
    begun how = settled_ruled state entry how row attempt object ready stood

    number : ℕ
    number = charge_number (before ruling.Approved)

    charge : Charge
    charge = new_charge object intent charge_status.Succeeded

    later : length state.rows < number
    later = omega arith

    texts : AreUtf8 (texts_of (item.Intent intent))
    texts = texts_stand state intent_row (item.Intent intent) ready.sound.order there.stands there.is

    -- the payment intent has begun, and so has its latest charge
    paid : (batch : BatchState) → IsOrigin (row_at object (state.rows ++ batch.rows)) (record { kind = kind.Intent; number = object })
    paid batch =
        has_begun_still state.rows batch.rows (record { kind = kind.Intent; number = object })
        (origin_stands state intent_row (item.Intent intent) ready.sound.order there.stands there.is)

    before_it : (batch : BatchState) → HasOrigins (state.rows ++ batch.rows) (charge_named intent.latest_charge)
    before_it batch =
        have_begun-before state.rows batch.rows (origins_of (item.Intent intent))
        (origins_stand state intent_row (item.Intent intent) ready.sound.order there.stands there.is)

    room : length state.rows + 64 < 10 ^ 16
    room = ready.room

    apart : object ≡ number → ⊥
    apart same =
        let first : intent_row.object ≤ intent_row.place = ready.sound.order.first intent_row.place intent_row there.stands in
        let within : intent_row.place ≤ length state.rows = (row_at_within intent_row.place state.rows intent_row there.stands).1 in
        omega arith

    -- the version of the payment intent behind a batch
    version : Intent → BatchState → Row
    version new batch = next_row batch object account (item.Intent new)

    captured : BatchState
    captured = with_announced (with_captured account number charge charge.amount (before ruling.Approved)) event.ChargeSucceeded number

    captured_rows : length captured.rows ≤ 9
    captured_rows = captured_few account number charge charge.amount (before ruling.Approved)

    -- the row of the new charge
    charge_row : Charge → Row
    charge_row charge = next_row (before ruling.Approved) number account (item.Charge charge)

    held : BatchState
    held = with_announced (with_row (before ruling.Approved) number account (item.Charge charge)) event.ChargeSucceeded number

    -- the new charge holds no other payment intent
    loose : (other : ℕ) → IsApart state.rows other number
    loose other = later_is_loose state number ready.sound.order ready.sound.laws.held later other

    -- it has begun with the rows of its capture
    charge_begun : IsUnderway state captured → IsOrigin (row_at number (state.rows ++ captured.rows)) (record { kind = kind.Charge; number = number })
    charge_begun underway =
        let row = captured_row account number charge charge.amount (before ruling.Approved) in
        let order = order_with_all state captured.rows ready.sound.order underway.continues.follow in
        let has = captured_has account number charge charge.amount (before ruling.Approved) in
        has_begun_origin (row_at number (state.rows ++ captured.rows)) row
        (order.begun row.place row (stands_behind state captured.rows (length (before ruling.Approved).rows) row order has))

    -- captured at once
    whole : (new : Intent) → status.Succeeded ≡ new.status → AreUtf8 (texts_of (item.Intent new)) → IsUnderway state captured
        → ((behind : List Row) → list_any is_of_amounts behind ≡ false → AreHeld (state.rows ++ (captured.rows ++ behind)) → KeepLaws (state.rows ++ (captured.rows ++ behind)))
        → new.latest_charge ≡ Some number → MayBeEntered state (with_told account object new event.IntentSucceeded captured)
    whole new succeeded new_texts underway keeps latest =
        ruled_enters state intent_row intent new event.IntentSucceeded captured ready there
        (record {
          underway = underway;
          few = captured_rows;
          leave = λ other differs. captured_leaves state other account number charge charge.amount (before ruling.Approved) ready.sound.order
              ready.sound.laws.held (omega arith) (tt, tt) (loose other);
        }) new_texts refl
        (subst (λ (charge : Option ℕ). HasOrigins (state.rows ++ captured.rows) (charge_named charge)) (sym latest)
        (charge_begun underway, tt))
        (keeps (version new captured ∷ []) refl)
        (λ here. absurd (let clash : status.Succeeded ≡ status.RequiresCapture = succeeded ∙ here in cc))

    approved_is : CaptureMethod → BatchState
    approved_is capture = with_announced (with_approved capture account number charge (before ruling.Approved)) event.ChargeSucceeded number

    underway_by : (capture : CaptureMethod) → intent.capture_method ≡ capture → IsUnderway state (approved_is capture)
    underway_by capture e =
        subst (λ (c : CaptureMethod). IsUnderway state (approved_is c)) e
        (approval_underway state (before ruling.Approved) account object intent ready.sound.order (begun ruling.Approved).underway (omega arith) texts (paid (before ruling.Approved)))

    keeps_by : (capture : CaptureMethod) → intent.capture_method ≡ capture → (behind : List Row)
        → list_any is_of_amounts behind ≡ false → AreHeld (state.rows ++ ((approved_is capture).rows ++ behind))
        → KeepLaws (state.rows ++ ((approved_is capture).rows ++ behind))
    keeps_by capture e behind untouched =
        subst (λ (c : CaptureMethod). AreHeld (state.rows ++ ((approved_is c).rows ++ behind)) → KeepLaws (state.rows ++ ((approved_is c).rows ++ behind))) e
        (approval_keeps state account object intent (before ruling.Approved) behind ready.sound refl refl untouched)

    approved : (capture : CaptureMethod) → intent.capture_method ≡ capture
        → MayBeEntered state (with_told account object (with_latest_charge (Some number) (approved_intent capture intent)) (approved_event capture) (approved_is capture))
    approved capture_method.Automatic e =
        whole (with_latest_charge (Some number) (approved_intent capture_method.Automatic intent)) refl texts
        (underway_by capture_method.Automatic e) (keeps_by capture_method.Automatic e) refl
    approved capture_method.AutomaticAsync e =
        whole (with_latest_charge (Some number) (approved_intent capture_method.AutomaticAsync intent)) refl texts
        (underway_by capture_method.AutomaticAsync e) (keeps_by capture_method.AutomaticAsync e) refl
    approved capture_method.Manual e =
        let new = with_latest_charge (Some number) (approved_intent capture_method.Manual intent) in
        let known = ap (option_and_then (λ (r : Row). charge_in r.item))
        (other_version state.rows held number object account (item.Intent new) apart
        ∙ last_version state.rows (before ruling.Approved) number account (item.Charge charge)) in
        ruled_enters state intent_row intent new event.IntentAmountCapturableUpdated held ready there
        (record {
          underway = underway_by capture_method.Manual e;
          few = omega arith;
          leave = λ other differs. (tt, (loose other, tt));
        }) texts refl
        (has_begun_origin _ (charge_row charge) (each_begun state held.rows (underway_by capture_method.Manual e).continues.follow).1.0, tt)
        (keeps_by capture_method.Manual e (version new held ∷ []) refl)
        (λ here. subst (IsHeldBy object new) (sym known) (record { sort = refl; amount = omega arith; nothing = refl }))

    -- what the rows show
    shows_both : (at : AttemptState) (found : IntentStatus) → ShowsAttempt row.object attempt.intent attempt.order at ∷ ShowsIntent object found ∷ []
        ≡ ShowsAttempt attempt.order.reference object attempt.order at ∷ ShowsIntent object found ∷ []
    shows_both at found =
        ap (λ n. ShowsAttempt n attempt.intent attempt.order at ∷ ShowsIntent object found ∷ []) stood.named
        ∙ ap (λ n. ShowsAttempt attempt.order.reference n attempt.order at ∷ ShowsIntent object found ∷ []) stood.of

    -- how many rows and events they are
    whole_few : (new : Intent) → length (with_told account object new event.IntentSucceeded captured).rows
        + length (with_told account object new event.IntentSucceeded captured).announced ≤ 12
    whole_few new =
        let rows = captured_rows in
        let all : length (captured.rows ++ version new captured ∷ []) ≡ length captured.rows + 1 = length-append captured.rows (version new captured ∷ []) in
        let events : length (with_told account object new event.IntentSucceeded captured).announced ≡ 2 =
        ap (λ (a : List Announced). length ((a ++ record { sort = event.ChargeSucceeded; object = number } ∷ []) ++ record { sort = event.IntentSucceeded; object = object } ∷ []))
        (captured_silent account number charge charge.amount (before ruling.Approved)) in
        omega arith

    whole_tells : (new : Intent) → length (split_events (captured.rows ++ version new captured ∷ [])) ≤ 2
    whole_tells new =
        let rows : length (split_events captured.rows) ≤ 2 = captured_tells account number charge charge.amount (before ruling.Approved) in
        let both : length (split_events (captured.rows ++ version new captured ∷ [])) ≡ length (split_events captured.rows) + 0 =
        events_both captured.rows (version new captured ∷ []) in
        omega arith

    whole_shown : (new : Intent) → status.Succeeded ≡ new.status
        → shown_in (captured.rows ++ version new captured ∷ []) ≡ ShowsAttempt attempt.order.reference object attempt.order attempt_state.Approved ∷ ShowsIntent object status.Succeeded ∷ []
    whole_shown new succeeded =
        shown_after captured.rows (version new captured ∷ [])
        ∙ ap (λ (s : List Shown). s ++ ShowsIntent object new.status ∷ []) (captured_shows account number charge charge.amount (before ruling.Approved))
        ∙ ap (λ (s : IntentStatus). ShowsAttempt row.object attempt.intent attempt.order attempt_state.Approved ∷ ShowsIntent object s ∷ []) (sym succeeded)
        ∙ shows_both attempt_state.Approved status.Succeeded

    ruled : (how : Ruling)
        → MayBeAdded state 14 (Settles object attempt.order intent.capture_method how) (with_ruling how account object intent (before how))
    ruled ruling.Approved = added intent.capture_method refl
      where
        at_once : (capture : CaptureMethod) (new : Intent) → MayBeEntered state (with_told account object new event.IntentSucceeded captured)
            → status.Succeeded ≡ new.status
            → shows (Settles object attempt.order capture ruling.Approved) ≡ ShowsAttempt attempt.order.reference object attempt.order attempt_state.Approved ∷ ShowsIntent object status.Succeeded ∷ []
            → MayBeAdded state 14 (Settles object attempt.order capture ruling.Approved) (with_all_told account object new event.IntentSucceeded captured)
        at_once capture new enters succeeded shows_it =
            told_added state 12 (Settles object attempt.order capture ruling.Approved) (with_told account object new event.IntentSucceeded captured) ready.sound
            (record { enters = enters; few = whole_few new; shown = whole_shown new succeeded ∙ sym shows_it }) (whole_tells new)

        added : (capture : CaptureMethod) → intent.capture_method ≡ capture
            → MayBeAdded state 14 (Settles object attempt.order capture ruling.Approved)
            (with_all_told account object (with_latest_charge (Some number) (approved_intent capture intent)) (approved_event capture) (approved_is capture))
        added capture_method.Automatic e =
            at_once capture_method.Automatic (with_latest_charge (Some number) (approved_intent capture_method.Automatic intent)) (approved capture_method.Automatic e) refl refl
        added capture_method.AutomaticAsync e =
            at_once capture_method.AutomaticAsync (with_latest_charge (Some number) (approved_intent capture_method.AutomaticAsync intent)) (approved capture_method.AutomaticAsync e) refl refl
        added capture_method.Manual e =
            told_added state 12 (Settles object attempt.order capture_method.Manual ruling.Approved)
            (with_told account object (with_latest_charge (Some number) (approved_intent capture_method.Manual intent)) event.IntentAmountCapturableUpdated held) ready.sound
            (record { enters = approved capture_method.Manual e; few = omega arith; shown = shows_both attempt_state.Approved status.RequiresCapture }) (omega arith)
    ruled (ruling.Declined decline) =
        let batch = decline_of account object intent (before (ruling.Declined decline)) in
        let new = settled_intent (ruling.Declined decline) (Some number) intent in
        let underway = decline_underway state (before (ruling.Declined decline)) account object intent ready.sound.order
        (begun (ruling.Declined decline)).underway (omega arith) texts (paid (before (ruling.Declined decline))) in
        let failed = next_row (before (ruling.Declined decline)) number account (item.Charge (new_charge object intent charge_status.Failed)) in
        told_added state 12 (Settles object attempt.order intent.capture_method (ruling.Declined decline))
        (with_told account object new event.IntentPaymentFailed batch) ready.sound
        (record {
          few = omega arith;
          shown = shows_both attempt_state.Declined status.RequiresPaymentMethod;
          enters = ruled_enters state intent_row intent new event.IntentPaymentFailed batch ready there
              (record {
                underway = underway;
                few = omega arith;
                leave = λ other differs. (tt, (loose other, tt));
              }) (failed_texts intent (payment_error.Declined decline) status.RequiresPaymentMethod texts) refl
              (has_begun_origin _ failed (each_begun state batch.rows underway.continues.follow).1.0, tt)
              (decline_keeps state account object intent (before (ruling.Declined decline)) (version new batch ∷ []) ready.sound refl refl refl)
              (λ here. absurd (cc));
        }) (omega arith)
    ruled ruling.Challenge =
        let batch = before ruling.Challenge in
        let new = settled_intent ruling.Challenge intent.latest_charge intent in
        told_added state 12 (Settles object attempt.order intent.capture_method ruling.Challenge)
        (with_told account object new event.IntentRequiresAction batch) ready.sound
        (record {
          few = omega arith;
          shown = shows_both attempt_state.Challenged status.RequiresAction;
          enters = ruled_enters state intent_row intent new event.IntentRequiresAction batch ready there (begun ruling.Challenge) texts refl (before_it batch)
              (laws_held state.rows (batch.rows ++ version new batch ∷ []) refl ready.sound.laws)
              (λ here. absurd (cc));
        }) (omega arith)

-- ---- a ruling on an attempt

pub settle_keeps : SettleKeepsSound
settle_keeps state entry intent order how ready attempt there =
    subst (IsDone state 14 (Settles intent order there.intent.capture_method how) intent) (sym comes_to) (
      same,
      number,
      subst (λ (t : Touch). MayBeAdded state 14 t (with_ruling how there.row.account there.row.object there.intent (with_settled how attempt.row attempt.attempt batch))) same
          (settled_enters state entry how attempt.row there.row attempt.attempt there.intent ready
          (record {
            stands = first.0;
            is = attempt.item_is;
            named = first.1 ∙ ap (λ (o : Order). o.reference) (sym attempt.order_is);
            of = attempt.intent_is ∙ sym number;
          })
          (record { stands = second.0; is = there.item_is })),
    )
  where
    batch : BatchState
    batch = batch_after state entry

    first : (row_at attempt.row.place state.rows ≡ Some attempt.row) × (attempt.row.object ≡ order.reference)
    first = latest_of_sound state order.reference attempt.row ready.sound attempt.latest

    second : (row_at there.row.place state.rows ≡ Some there.row) × (there.row.object ≡ intent)
    second = latest_of_sound state intent there.row ready.sound there.latest

    number : there.row.object ≡ intent
    number = second.1

    same : Settles there.row.object attempt.attempt.order there.intent.capture_method how ≡ Settles intent order there.intent.capture_method how
    same =
        ap (λ i. Settles i attempt.attempt.order there.intent.capture_method how) number
        ∙ ap (λ o. Settles intent o there.intent.capture_method how) attempt.order_is

    comes_to : settle_outcome state.rows order.reference how batch ≡ settle_both how attempt.row attempt.attempt there.row batch (Some there.intent)
    comes_to =
        ap (settle_row state.rows how batch) attempt.latest
        ∙ ap (λ content. settle_attempt state.rows how attempt.row batch (attempt_in content)) attempt.item_is
        ∙ ap (λ n. settle_intent how attempt.row attempt.attempt batch (latest_of n state.rows)) attempt.intent_is
        ∙ ap (settle_intent how attempt.row attempt.attempt batch) there.latest
        ∙ ap (λ content. settle_both how attempt.row attempt.attempt there.row batch (intent_in content)) there.item_is
