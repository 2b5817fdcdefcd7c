-- Batches stay under way with an approval, a decline and a capture.
use Rattle.std.specs.Prelude.{◌&&◌}
use Rattle.std.proofs.Common.{◌≡◌, ℕ, pos, ◌+◌, ◌^◌, ◌≤◌, ◌<◌, Bool, true, false, List, [], ◌∷◌, ◌++◌, Option, None, Some, length, refl, sym, ap, ◌∙◌, subst, arith}
use Rattle.std.specs.List.{list_all}
use Rattle.std.specs.Str.{is_utf8}
use Rattle.std.proofs.lemmas.Bool.{false≢true}
use Rattle.std.proofs.lemmas.List.{length-append, append_assoc}
use Rattle.ph_base.specs.declared.ids.Kind.{Kind}
use Rattle.ph_base.specs.declared.ids.Kind.TheVariants as kind
use Rattle.ph_items.specs.declared.items.Item.TheVariants as item
use Rattle.ph_items.specs.declared.charges.Charge.{Charge}
use Rattle.ph_items.specs.declared.charges.ChargeStatus.TheVariants as status
use Rattle.ph_items.specs.declared.event_kinds.EventKind.{EventKind}
use Rattle.ph_items.specs.declared.event_kinds.EventKind.TheVariants as event
use Rattle.ph_items.specs.declared.intents.CaptureMethod.{CaptureMethod}
use Rattle.ph_items.specs.declared.intents.CaptureMethod.TheVariants as capture_method
use Rattle.ph_items.specs.declared.intents.Intent.{Intent}
use Rattle.ph_items.specs.declared.transactions.TxnSource.TheVariants as source
use Rattle.ph_items.specs.declared.transfers.Transfer.{Transfer}
use Rattle.ph_items.specs.declared.transactions.TxnType.TheVariants as sort
use Rattle.ph_items.specs.Accounts.{platform}
use Rattle.ph_items.specs.Charges.{charge_kind}
use Rattle.ph_money.specs.Fees.{fee_of}
use Rattle.ph_items.specs.Kinds.{kind_of}
use Rattle.ph_items.specs.Weights.{metadata_texts, method_text, texts_of, with_text}
use Rattle.ph_items.specs.Words.{subject_of}
use Rattle.ph_rows.specs.declared.rows.Row.{Row}
use Rattle.ph_rows.specs.Batches.{BatchState, last_place, with_row, with_announced}
use Rattle.ph_rows.specs.Rows.{row_at, latest_of}
use Rattle.ph_rows.specs.Views.{ViewState}
use Rattle.ph_facts.specs.Order.{IsInOrder, IsWithin, MayFollow}
use Rattle.ph_facts.specs.Origins.{HasOrigins, IsOrigin, origins_of}
use Rattle.ph_facts.specs.Sound.{IsSound}
use Rattle.ph_facts.proofs.BatchLemmas.{first_may_follow, further_may_follow, with_batch}
use Rattle.ph_facts.proofs.FollowLemmas.{MayStand}
use Rattle.ph_facts.proofs.EnterLemmas.{row_told}
use Rattle.ph_facts.proofs.OrderLemmas.{amounts_stand, order_with_all, origins_stand, texts_stand}
use Rattle.ph_facts.proofs.OriginLemmas.{has_begun_origin, have_begun-before}
use Rattle.ph_facts.proofs.SoundLemmas.{latest_of_sound}
use Rattle.ph_facts.proofs.UnderwayLemmas.{IsUnderway, underway_announced, underway_first, underway_told, underway_with}
use Rattle.ph_charges.specs.Approvals.{approval_of, charge_number, decline_of, with_approved}
use Rattle.ph_charges.specs.Charges.{captured_charge, drawn_by_capture, new_charge, next_capture, with_captured, with_fee}
use Rattle.ph_charges.specs.NewRows.{NewRow, with_new_rows}
use Rattle.ph_charges.specs.Splits.{charge_row, destination_split, fee_rows, fee_taken, split_fee, split_rows, split_transfer, split_txn}
use Rattle.ph_charges.specs.Transfers.{transfer_rows}
use Rattle.ph_charges.proofs.NewRowLemmas.{AllStand, Begun, after, last_begun, new_rows_underway, next_number, place_after, still_begun, txn_stands}
use Rattle.ph_charges.proofs.SplitLemmas.{by_fee, by_kind, captured_has, captured_row, rows_few}
use Rattle.ph_charges.proofs.TransferLemmas.{begun_with_transfer, next_behind, transfer_stands}

-- an application fee, where one is taken
fees_stand : (state : ViewState) (batch : BatchState) (place account object : ℕ) (charge : Charge) (taken now : ℕ)
    → batch.began ≡ length state.rows → last_place batch + 1 ≡ place → Begun (state.rows ++ batch.rows) kind.Charge object
    → AllStand state batch (fee_rows place account object charge taken now)
fees_stand state batch place account object charge taken now began is begun =
    by_fee (AllStand state batch) place account object charge taken now tt (
      record { texts = refl; within = omega arith; origins = (begun, tt); silent = λ event same. absurd (cc) },
      (
        txn_stands (state.rows ++ (after batch fee).rows) (split_txn charge sort.ApplicationFee (pos taken) 0 (source.Fee place) now)
            (last_begun state.rows batch fee place began is),
        tt,
      ),
    )
  where
    fee : NewRow
    fee = record { account = platform; item = item.Fee (split_fee place account object charge taken now) }

-- the texts of a charge are UTF-8, and so is its transfer group
both : (a b : Bool) → (a && b) ≡ true → (a ≡ true) × (b ≡ true)
both true b h = (refl, h)
both false b h = absurd (false≢true h)

front_text : (text : Option (List ℕ)) (texts : List (List ℕ)) → list_all is_utf8 (with_text text texts) ≡ true
    → (list_all is_utf8 (with_text text []) ≡ true) × (list_all is_utf8 texts ≡ true)
front_text None texts h = (refl, h)
front_text (Some text) texts h =
    let parts = both (is_utf8 text) (list_all is_utf8 texts) h in (ap (λ (b : Bool). b && true) parts.0, parts.1)

group_utf8 : (charge : Charge) → list_all is_utf8 (texts_of (item.Charge charge)) ≡ true
    → list_all is_utf8 (with_text charge.transfer_group []) ≡ true
group_utf8 charge texts =
    let metadata = metadata_texts charge.metadata in
    let one = front_text (method_text charge.payment_method) (with_text charge.description (with_text charge.transfer_group metadata)) texts in
    let two = front_text charge.description (with_text charge.transfer_group metadata) one.1 in
    (front_text charge.transfer_group metadata two.1).0

-- the rows of each kind of a split, behind a batch whose next place is this, where the charge has begun
splits_stand : (state : ViewState) (batch : BatchState) (place account object : ℕ) (charge : Charge) (amount now : ℕ)
    → batch.began ≡ length state.rows → last_place batch + 1 ≡ place → Begun (state.rows ++ batch.rows) kind.Charge object
    → list_all is_utf8 (texts_of (item.Charge charge)) ≡ true
    → AllStand state batch (split_rows place account object charge amount now)
splits_stand state batch place account object charge amount now began is begun texts =
    by_kind (AllStand state batch) place account object charge amount now
    (first (fee_of charge.currency amount), tt) (
      first (fee_of charge.currency amount + fee_taken charge amount),
      fees_stand state (after batch (row (fee_of charge.currency amount + fee_taken charge amount))) (place + 1) account object charge
          (fee_taken charge amount) now began (next_number batch (row (fee_of charge.currency amount + fee_taken charge amount)) place is)
          (still_begun state.rows batch (row (fee_of charge.currency amount + fee_taken charge amount)) kind.Charge object begun),
    )
    to
  where
    row : ℕ → NewRow
    row kept = charge_row account object charge amount kept now

    first : (kept : ℕ) → MayStand (state.rows ++ batch.rows) (row kept).item
    first kept = txn_stands (state.rows ++ batch.rows) (split_txn charge sort.Charge (pos amount) kept (source.Charge object) now) begun

    to : (destination : ℕ) → AllStand state batch (destination_split place destination account object charge amount now)
    to destination = (
      first (fee_of charge.currency amount),
      transfer_stands state own (place + 1) transfer (fee_taken charge amount)
          (fee_rows (place + 5) destination object charge (fee_taken charge amount) now) began next (group_utf8 charge texts) (omega arith) (begun1, tt)
          (fees_stand state (with_new_rows (transfer_rows (place + 1) transfer (fee_taken charge amount)) own) (place + 5) destination object charge
          (fee_taken charge amount) now began
          (let behind = next_behind own (place + 1) transfer (fee_taken charge amount) next in omega arith)
          (begun_with_transfer state own (place + 1) transfer (fee_taken charge amount) kind.Charge object begun1)),
    )
      where
        transfer : Transfer
        transfer = split_transfer (place + 1) destination object charge amount now

        own : BatchState
        own = after batch (row (fee_of charge.currency amount))

        next : last_place own + 1 ≡ place + 1
        next = next_number batch (row (fee_of charge.currency amount)) place is

        begun1 : Begun (state.rows ++ own.rows) kind.Charge object
        begun1 = still_begun state.rows batch (row (fee_of charge.currency amount)) kind.Charge object begun

-- a batch stays under way with a version of a card charge that may follow its rows, its split, and what is told of it
captured_underway : (state : ViewState) (batch : BatchState) (account object : ℕ) (charge : Charge) (amount : ℕ) (sort : EventKind)
    → IsInOrder state → IsUnderway state batch → length state.rows + length batch.rows + 8 < 10 ^ 16
    → charge_kind charge.sort ≡ kind.Charge → kind.Charge ≡ subject_of sort
    → list_all is_utf8 (texts_of (item.Charge charge)) ≡ true
    → MayFollow (with_batch state batch) (captured_row account object charge amount batch)
    → IsUnderway state (with_announced (with_captured account object charge amount batch) sort object)
captured_underway state batch account object charge amount sort order underway few card subject texts follows =
    underway_announced state captured sort object whole
    (row_told state captured.rows (length batch.rows) row sort (order_with_all state captured.rows order whole.continues.follow)
    (captured_has account object charge amount batch) (card ∙ subject))
  where
    row : Row
    row = captured_row account object charge amount batch

    begins : BatchState
    begins = with_row batch object account row.item

    captured : BatchState
    captured = with_captured account object charge amount batch

    underway1 : IsUnderway state begins
    underway1 = underway_with state batch object account row.item order underway follows

    next : last_place begins + 1 ≡ last_place batch + 2
    next = let longer = place_after batch object account row.item in omega arith

    begun : Begun (state.rows ++ begins.rows) kind.Charge object
    begun =
        subst (λ (k : Kind). Begun (state.rows ++ begins.rows) k object) card
        (subst (λ (rows : List Row). Begun rows (charge_kind charge.sort) object)
        (append_assoc state.rows batch.rows (row ∷ []))
        (has_begun_origin _ row follows.begun))

    whole : IsUnderway state captured
    whole =
        let longer : length (batch.rows ++ row ∷ []) ≡ length batch.rows + 1 = length-append batch.rows (row ∷ []) in
        let most : length (split_rows (last_place batch + 2) account object charge amount batch.at) ≤ 7 =
        rows_few (last_place batch + 2) account object charge amount batch.at in
        new_rows_underway state begins (split_rows (last_place batch + 2) account object charge amount batch.at) order underway1 (omega arith)
        (splits_stand state begins (last_place batch + 2) account object charge amount batch.at underway.continues.began next begun texts)

-- a charge of which nothing was captured, refunded or transferred
pub record IsNew (charge : Charge) : Type 0 where
  pub captured : charge.amount_captured ≡ 0
  pub refunded : charge.amount_refunded ≡ 0
  pub transferred : charge.amount_transferred ≡ 0

-- its amounts fit one another, also where no more of it is captured than the acquirer was asked for
new_fits : (charge : Charge) → IsNew charge → IsWithin charge
new_fits charge new =
    let captured = new.captured in
    let refunded = new.refunded in
    let transferred = new.transferred in
    record { captured = omega arith; refunded = omega arith; transferred = omega arith }

-- no more is drawn by a capture than it captures
drawn_within : (destination : Option ℕ) (amount : ℕ) → drawn_by_capture destination amount ≤ amount
drawn_within None amount = omega arith
drawn_within (Some account) amount = omega arith

captured_fits : (account : ℕ) (charge : Charge) (amount : ℕ) (batch : BatchState) → charge.amount_refunded ≡ 0 → amount ≤ charge.amount
    → IsWithin (captured_charge amount (next_capture account charge amount batch) charge)
captured_fits account charge amount batch none within = record {
  captured = within;
  refunded = omega arith;
  transferred = drawn_within charge.destination amount;
}

-- a new card charge that is approved, captured at once or held, and what is told of it
approved_underway : (capture : CaptureMethod) (state : ViewState) (batch : BatchState) (account : ℕ) (charge : Charge)
    → IsInOrder state → IsUnderway state batch → length state.rows + length batch.rows + 8 < 10 ^ 16
    → charge_kind charge.sort ≡ kind.Charge → IsNew charge → MayStand (state.rows ++ batch.rows) (item.Charge charge)
    → IsUnderway state (with_announced (with_approved capture account (charge_number batch) charge batch) event.ChargeSucceeded (charge_number batch))
approved_underway capture state batch account charge order underway few card new stands = at capture
  where
    captured : MayStand (state.rows ++ batch.rows) (item.Charge (captured_charge charge.amount (next_capture account charge charge.amount batch) charge))
    captured = record {
      texts = stands.texts;
      within = captured_fits account charge charge.amount batch new.refunded (omega arith);
      origins = stands.origins;
      silent = λ event is. absurd (cc);
    }

    whole : IsUnderway state (with_announced (with_captured account (charge_number batch) charge charge.amount batch) event.ChargeSucceeded (charge_number batch))
    whole =
        captured_underway state batch account (charge_number batch) charge charge.amount event.ChargeSucceeded order underway few card refl stands.texts
        (first_may_follow state batch account (item.Charge (captured_charge charge.amount (next_capture account charge charge.amount batch) charge)) underway.continues
        (omega arith) captured)

    at : (capture : CaptureMethod)
        → IsUnderway state (with_announced (with_approved capture account (charge_number batch) charge batch) event.ChargeSucceeded (charge_number batch))
    at capture_method.Automatic = whole
    at capture_method.AutomaticAsync = whole
    at capture_method.Manual =
        underway_told state batch (charge_number batch) account (item.Charge charge) event.ChargeSucceeded
        (underway_first state batch account (item.Charge charge) order underway (omega arith) stands) card

-- a new charge of a payment intent that has begun may stand
new_stands : (rows : List Row) (object : ℕ) (intent : Intent) (charge : Charge) → IsNew charge
    → list_all is_utf8 (texts_of (item.Charge charge)) ≡ true → HasOrigins rows (origins_of (item.Charge charge))
    → MayStand rows (item.Charge charge)
new_stands rows object intent charge new texts origins = record {
  texts = texts;
  within = new_fits charge new;
  origins = origins;
  silent = λ event is. absurd (cc);
}

-- a batch stays under way with an approval of a payment intent that has begun
pub approval_underway : (state : ViewState) (batch : BatchState) (account object : ℕ) (intent : Intent) → IsInOrder state
    → IsUnderway state batch → length state.rows + length batch.rows + 8 < 10 ^ 16
    → list_all is_utf8 (texts_of (item.Intent intent)) ≡ true
    → IsOrigin (row_at object (state.rows ++ batch.rows)) (record { kind = kind.Intent; number = object })
    → IsUnderway state (approval_of account object intent batch)
approval_underway state batch account object intent order underway few texts begun =
    let charge = new_charge object intent status.Succeeded in
    approved_underway intent.capture_method state batch account charge order underway few refl (record { captured = refl; refunded = refl; transferred = refl })
    (new_stands (state.rows ++ batch.rows) object intent charge (record { captured = refl; refunded = refl; transferred = refl }) texts (begun, tt))

-- and with a decline
pub decline_underway : (state : ViewState) (batch : BatchState) (account object : ℕ) (intent : Intent) → IsInOrder state
    → IsUnderway state batch → length state.rows + length batch.rows + 8 < 10 ^ 16
    → list_all is_utf8 (texts_of (item.Intent intent)) ≡ true
    → IsOrigin (row_at object (state.rows ++ batch.rows)) (record { kind = kind.Intent; number = object })
    → IsUnderway state (decline_of account object intent batch)
decline_underway state batch account object intent order underway few texts begun =
    let charge = new_charge object intent status.Failed in
    underway_told state batch (charge_number batch) account (item.Charge charge) event.ChargeFailed
    (underway_first state batch account (item.Charge charge) order underway (omega arith)
    (new_stands (state.rows ++ batch.rows) object intent charge (record { captured = refl; refunded = refl; transferred = refl }) texts (begun, tt))) refl

-- and with a capture of a card charge that stands in the view, of which nothing was captured, of no more than was authorised
pub capture_underway : (state : ViewState) (batch : BatchState) (n amount : ℕ) (fee : Option ℕ) (row : Row) (charge : Charge) → IsSound state
    → IsUnderway state batch → length state.rows + length batch.rows + 8 < 10 ^ 16
    → latest_of n state.rows ≡ Some row → row.item ≡ item.Charge charge → charge_kind charge.sort ≡ kind.Charge
    → charge.amount_captured ≡ 0 → amount ≤ charge.amount
    → IsUnderway state (with_announced (with_captured row.account n (with_fee fee charge) amount batch) event.ChargeCaptured n)
capture_underway state batch n amount fee row charge sound underway few latest is card nothing within =
    captured_underway state batch row.account n (with_fee fee charge) amount event.ChargeCaptured sound.order underway few card refl stands.texts
    (subst (λ (object : ℕ). MayFollow (with_batch state batch) (captured_row row.account object (with_fee fee charge) amount batch)) found.1
    (further_may_follow state batch row (item.Charge (captured_charge amount (next_capture row.account (with_fee fee charge) amount batch) (with_fee fee charge))) sound.order
    underway.continues found.0 (omega arith) stands
    (record { kind = ap kind_of (sym is); changes = refl })))
  where
    found : (row_at row.place state.rows ≡ Some row) × (row.object ≡ n)
    found = latest_of_sound state n row sound latest

    none : charge.amount_refunded ≡ 0
    none =
        let fits : IsWithin charge = amounts_stand state row (item.Charge charge) sound.order found.0 is in
        let refunded : charge.amount_refunded ≤ charge.amount_captured = fits.refunded in omega arith

    stands : MayStand (state.rows ++ batch.rows) (item.Charge (captured_charge amount (next_capture row.account (with_fee fee charge) amount batch) (with_fee fee charge)))
    stands = record {
      texts = texts_stand state row (item.Charge charge) sound.order found.0 is;
      within = captured_fits row.account (with_fee fee charge) amount batch none within;
      origins = have_begun-before state.rows batch.rows (origins_of (item.Charge charge)) (origins_stand state row (item.Charge charge) sound.order found.0 is);
      silent = λ event is. absurd (cc);
    }
