-- The rows of a transfer may be entered.
use Rattle.std.specs.List.{filter, list_any}
use Rattle.std.specs.Prelude.{option_and_then, option_map, is_some, ◌||◌}
use Rattle.std.proofs.Common.{◌≡◌, ℕ, ◌+◌, ◌≤◌, ◌<◌, Bool, false, eqb, List, [], ◌∷◌, ◌++◌, Option, None, Some, length, refl, sym, ap, ◌∙◌, subst, arith, pos}
use Rattle.std.proofs.lemmas.Bool.{cond-true, eq-eqb, ne_eqb}
use Rattle.ph_base.specs.declared.ids.Kind.{Kind}
use Rattle.ph_base.specs.declared.ids.Kind.TheVariants as kind
use Rattle.ph_calls.specs.declared.call.CreateTransfer.{CreateTransfer}
use Rattle.ph_items.specs.declared.event_kinds.EventKind.TheVariants as event
use Rattle.ph_items.specs.declared.items.Item.TheVariants as item
use Rattle.ph_items.specs.declared.transfers.Transfer.{Transfer}
use Rattle.ph_items.specs.Charges.{charge_kind}
use Rattle.ph_items.specs.Items.{charge_in}
use Rattle.ph_items.specs.Kinds.{kind_of}
use Rattle.ph_items.specs.Weights.{AreUtf8, metadata_texts, texts_of, with_text}
use Rattle.ph_kinds.specs.Kept.{first_metadata, named_texts}
use Rattle.ph_kinds.proofs.KeptLemmas.{and, first_kept, first_text}
use Rattle.ph_rows.specs.declared.rows.Row.{Row}
use Rattle.ph_rows.specs.Batches.{BatchState, last_place}
use Rattle.ph_rows.specs.Rows.{row_at}
use Rattle.ph_rows.specs.Views.{ViewState}
use Rattle.ph_rows.proofs.RowLemmas.{both_fail, latest_of-behind}
use Rattle.ph_facts.specs.Amounts.{captured, given_back, moved, refunded, reversed, transferred, transferred_of}
use Rattle.ph_facts.specs.Entering.{MayBeEntered}
use Rattle.ph_facts.specs.Keeps.{IsReady, batch_after}
use Rattle.ph_facts.specs.Order.{IsInOrder, IsWithin}
use Rattle.ph_facts.specs.Origins.{HasOrigins, IsOrigin, charge_named, origins_of}
use Rattle.ph_facts.specs.Sound.{IsSound}
use Rattle.ph_facts.specs.Tallies.{Addition, SaysSum, given}
use Rattle.ph_facts.proofs.AmountLemmas.{captured_sum, first_speaks, refunded_sum, reversed_sum, transferred_first, transferred_sum}
use Rattle.ph_facts.proofs.EnterLemmas.{row_told}
use Rattle.ph_facts.proofs.FollowLemmas.{MayStand}
use Rattle.ph_facts.proofs.HeldLemmas.{IsLoose, captured_is_loose, later_is_loose}
use Rattle.ph_facts.proofs.LawLemmas.{AreSpoken}
use Rattle.ph_facts.proofs.OrderLemmas.{amounts_stand, order_with_all, origin_stands, origins_stand, texts_stand}
use Rattle.ph_facts.proofs.OriginLemmas.{have_begun-before}
use Rattle.ph_facts.proofs.PresentLemmas.{IsCharge, charge_says}
use Rattle.ph_facts.proofs.SpokenLemmas.{Spoken, heard_with, heard_without, spoken_among, spoken_both, spoken_none, spoken_version}
use Rattle.ph_facts.proofs.TallyLemmas.{goes_to, speaks, sum_beside, sum_known, touches}
use Rattle.ph_facts.proofs.UnderwayLemmas.{underway_announced}
use Rattle.ph_charges.specs.Transfers.{transfer_rows}
use Rattle.ph_charges.proofs.AmountLemmas.{IsUnused, new_is_unused}
use Rattle.ph_charges.proofs.NewRowLemmas.{AllStand, new_rows_are, row_here, rows_from}
use Rattle.ph_charges.proofs.TransferLemmas.{arriving_row, leaving_row, own_row, payment_captures, payment_refunds, payment_row, payment_transfers, transfer_stands}
use Rattle.ph_reversals.proofs.RoomLemmas.{HasRoom, begun_behind, entered_as, isnt_later, room_after, room_further, room_new}
use Rattle.ph_transfers.specs.Entry.{Drawn, drawn_charge, drawn_on, left_to_transfer, new_transfer, transferred_from, with_drawn, with_given, with_transfer}
use Rattle.ph_transfers.specs.Laws.{transfer_texts}
use Rattle.ph_transfers.proofs.SpokenLemmas.{spoken_around}

-- a captured card charge that stands, of which an amount may be transferred
pub record IsSource (state : ViewState) (amount : ℕ) (drawn : Drawn) : Type 0 where
  pub found : IsCharge state.rows drawn.row drawn.charge
  pub card : charge_kind drawn.charge.sort ≡ kind.Charge
  pub some : 0 < left_to_transfer drawn.charge
  pub within : amount ≤ left_to_transfer drawn.charge

-- it is one, where there is one
abbrev pub IsDrawable : ViewState → ℕ → Option Drawn → Type 0
IsDrawable state amount None = Unit {0}
IsDrawable state amount (Some drawn) = IsSource state amount drawn

-- the charge that a transfer is drawn on has begun
source_begun : (state : ViewState) (amount : ℕ) (drawn : Option Drawn) (batch : BatchState) → IsInOrder state → IsDrawable state amount drawn
    → HasOrigins (state.rows ++ batch.rows) (charge_named (drawn_on drawn))
source_begun state amount None batch order from = tt
source_begun state amount (Some drawn) batch order from = (
  begun_behind state batch kind.Charge drawn.row.object
      (subst (λ (k : Kind). IsOrigin (row_at drawn.row.object state.rows) (record { kind = k; number = drawn.row.object })) from.card
      (origin_stands state drawn.row (item.Charge drawn.charge) order from.found.stands from.found.is)),
  tt,
)

-- the version of a charge on which a transfer drew an amount that was left may stand
drawn_stands : (state : ViewState) (batch : BatchState) (amount : ℕ) (drawn : Drawn) → IsInOrder state → IsSource state amount drawn
    → MayStand (state.rows ++ batch.rows) (item.Charge (drawn_charge amount drawn.charge))
drawn_stands state batch amount drawn order from =
    let fits : IsWithin drawn.charge = amounts_stand state drawn.row (item.Charge drawn.charge) order from.found.stands from.found.is in
    let within = from.within in
    let transferred = fits.transferred in
    record {
      texts = texts_stand state drawn.row (item.Charge drawn.charge) order from.found.stands from.found.is;
      within = record { captured = fits.captured; refunded = fits.refunded; transferred = omega arith };
      origins = have_begun-before state.rows batch.rows (origins_of (item.Charge drawn.charge))
          (origins_stand state drawn.row (item.Charge drawn.charge) order from.found.stands from.found.is);
      silent = λ event is. absurd (cc);
    }

-- the texts of a transfer are those of its call
transfer_utf8 : (call : CreateTransfer) (destination : ℕ) (source : Option ℕ) (available_on number : ℕ) → AreUtf8 (transfer_texts call)
    → AreUtf8 (texts_of (item.Transfer (new_transfer call destination source available_on number)))
transfer_utf8 call destination source available_on number texts = described call.description texts
  where
    grouped : (group : Option (List ℕ)) → AreUtf8 (with_text group (named_texts call.metadata))
        → AreUtf8 (with_text group (metadata_texts (first_metadata call.metadata)))
    grouped None h = first_kept call.metadata h
    grouped (Some text) h = let parts = first_text text (named_texts call.metadata) h in and parts.0 (first_kept call.metadata parts.1)

    described : (description : Option (List ℕ)) → AreUtf8 (with_text description (with_text call.transfer_group (named_texts call.metadata)))
        → AreUtf8 (with_text description (with_text call.transfer_group (metadata_texts (first_metadata call.metadata))))
    described None h = grouped call.transfer_group h
    described (Some text) h =
        let parts = first_text text (with_text call.transfer_group (named_texts call.metadata)) h in
        and parts.0 (grouped call.transfer_group parts.1)

-- ---- the rows of a transfer, and what they say

-- the transfer of a number that a call makes at a time
abbrev made_of_call : CreateTransfer → ℕ → Option Drawn → ℕ → ℕ → Transfer
made_of_call call destination drawn now number = new_transfer call destination (drawn_on drawn) (transferred_from now drawn) number

-- a batch has room with its rows
given_room : (state : ViewState) (entry : ℕ) (call : CreateTransfer) (destination : ℕ) (drawn : Option Drawn) → IsReady state
    → AreUtf8 (transfer_texts call) → IsDrawable state call.amount drawn
    → HasRoom state (with_given call destination (drawn_on drawn) (transferred_from state.time drawn) (batch_after state entry)) 60
given_room state entry call destination drawn ready texts from =
    room_new state begun (transfer_rows number transfer 0) 4 60 ready.sound.order (room_after state entry ready) refl stand
  where
    begun : BatchState
    begun = batch_after state entry

    number : ℕ
    number = last_place begun + 1

    transfer : Transfer
    transfer = made_of_call call destination drawn state.time number

    stand : AllStand state begun (transfer_rows number transfer 0)
    stand =
        transfer_stands state begun number transfer 0 [] refl refl
        (transfer_utf8 call destination (drawn_on drawn) (transferred_from state.time drawn) number texts) (omega arith)
        (source_begun state call.amount drawn begun ready.sound.order from) tt

-- its own row, that of its payment and that of the payment's transaction
abbrev own : ℕ → ℕ → Transfer → Row
own n at transfer = row_here n at (own_row transfer)

abbrev paid : ℕ → ℕ → Transfer → Row
paid n at transfer = row_here (n + 1 + 1) at (payment_row n transfer)

abbrev arrived : ℕ → ℕ → Transfer → Row
arrived n at transfer = row_here (n + 1 + 1 + 1) at (arriving_row n transfer 0)

-- those behind its own
abbrev behind_own : ℕ → ℕ → Transfer → List Row
behind_own n at transfer = row_here (n + 1) at (leaving_row n transfer) ∷ paid n at transfer ∷ arrived n at transfer ∷ []

-- what was captured of its payment
paid_captures : (rows : List Row) (n at : ℕ) (transfer : Transfer) → IsUnused (n + 1 + 1) rows
    → Spoken captured rows (paid n at transfer ∷ arrived n at transfer ∷ [])
paid_captures rows n at transfer unused =
    payment_captures rows n (n + 1 + 1) at transfer 0 (omega arith) unused.charge.captured

-- what was reversed of it: nothing
own_reverses : (rows : List Row) (n at : ℕ) (transfer : Transfer) → transfer.amount_reversed ≡ 0 → IsUnused n rows
    → Spoken reversed rows (own n at transfer ∷ [])
own_reverses rows n at transfer none unused =
    spoken_version reversed rows (own n at transfer) transfer.amount_reversed reversed_sum refl refl (none ∙ sym unused.reversed)

-- ---- a transfer out of the balance

balance_spoken : (state : ViewState) (n at : ℕ) (transfer : Transfer) → IsSound state → length state.rows < n → transfer.source ≡ None
    → transfer.amount_reversed ≡ 0 → AreSpoken state.rows (rows_from n at (transfer_rows n transfer 0))
balance_spoken state n at transfer sound later undrawn none = record {
  charges = record {
    captured = spoken_among captured state.rows list captured_sum (paid_captures state.rows n at transfer unused);
    refunded = spoken_among refunded state.rows list refunded_sum (payment_refunds state.rows n (n + 1 + 1) at transfer unused.charge.refunded);
    transferred = spoken_among transferred state.rows list transferred_sum
        (subst (Spoken transferred state.rows) (sym heard)
        (payment_transfers state.rows n (n + 1 + 1) at transfer unused.charge.transferred));
  };
  reversed = spoken_among reversed state.rows list reversed_sum
      (own_reverses state.rows n at transfer none (new_is_unused state n sound later));
  given_back = spoken_none given_back state.rows list refl;
  moved = spoken_none moved state.rows list refl;
}
  where
    list : List Row
    list = rows_from n at (transfer_rows n transfer 0)

    unused : IsUnused (n + 1 + 1) state.rows
    unused = new_is_unused state (n + 1 + 1) sound (omega arith)

    quiet : speaks transferred (own n at transfer) ≡ false
    quiet =
        ap (λ (part : Option (Addition ℕ)). is_some part || false)
        (transferred_first (own n at transfer) transfer refl refl
        ∙ ap (option_map (λ (charge : ℕ). record { object = charge; amount = transfer.amount })) undrawn)

    heard : filter (speaks transferred) list ≡ paid n at transfer ∷ []
    heard = heard_without transferred (own n at transfer) (behind_own n at transfer) quiet

-- ---- a transfer drawn on a charge

-- the version of the charge, in a row of a place
abbrev drawn_row : ℕ → ℕ → ℕ → Drawn → Row
drawn_row place at amount drawn = record {
  place = place;
  object = drawn.row.object;
  at = at;
  account = drawn.row.account;
  item = item.Charge (drawn_charge amount drawn.charge);
}

-- what was captured of both
both_captured : (state : ViewState) (n at place amount : ℕ) (transfer : Transfer) (drawn : Drawn) → IsSound state → length state.rows < n
    → IsSource state amount drawn
    → Spoken captured state.rows (paid n at transfer ∷ arrived n at transfer ∷ drawn_row place at amount drawn ∷ [])
both_captured state n at place amount transfer drawn sound later from =
    spoken_both captured state.rows (paid n at transfer ∷ arrived n at transfer ∷ []) (drawn_row place at amount drawn ∷ []) captured_sum
    (paid_captures state.rows n at transfer (new_is_unused state (n + 1 + 1) sound (omega arith)))
    (spoken_version captured (state.rows ++ paid n at transfer ∷ arrived n at transfer ∷ []) (drawn_row place at amount drawn)
    (pos drawn.charge.amount_captured) captured_sum refl refl
    ((charge_says state.rows drawn.row drawn.charge sound.laws from.found).captured
    ∙ sym (sum_beside captured drawn.row.object state.rows (paid n at transfer ∷ arrived n at transfer ∷ []) captured_sum apart)))
  where
    differs : (number : ℕ) → length state.rows < number → number ≡ drawn.row.object → ⊥
    differs number beyond same = isnt_later state drawn.row number sound.order from.found.stands beyond (sym same)

    apart : list_any (touches captured drawn.row.object) (paid n at transfer ∷ arrived n at transfer ∷ []) ≡ false
    apart =
        both_fail (touches captured drawn.row.object (paid n at transfer)) (touches captured drawn.row.object (arrived n at transfer) || false)
        (ne_eqb (n + 1 + 1) drawn.row.object (differs (n + 1 + 1) (omega arith)))
        (both_fail (touches captured drawn.row.object (arrived n at transfer)) false
        (both_fail (eqb (n + 2) drawn.row.object) false (ne_eqb (n + 2) drawn.row.object (differs (n + 2) (omega arith))) refl) refl)

-- what was refunded of both
both_refunded : (state : ViewState) (n at place amount : ℕ) (transfer : Transfer) (drawn : Drawn) → IsSound state → length state.rows < n
    → IsSource state amount drawn → Spoken refunded state.rows (paid n at transfer ∷ drawn_row place at amount drawn ∷ [])
both_refunded state n at place amount transfer drawn sound later from =
    spoken_both refunded state.rows (paid n at transfer ∷ []) (drawn_row place at amount drawn ∷ []) refunded_sum
    (payment_refunds state.rows n (n + 1 + 1) at transfer (new_is_unused state (n + 1 + 1) sound (omega arith)).charge.refunded)
    (spoken_version refunded (state.rows ++ paid n at transfer ∷ []) (drawn_row place at amount drawn)
    drawn.charge.amount_refunded refunded_sum refl refl
    ((charge_says state.rows drawn.row drawn.charge sound.laws from.found).refunded
    ∙ sym (sum_beside refunded drawn.row.object state.rows (paid n at transfer ∷ []) refunded_sum
    (both_fail (touches refunded drawn.row.object (paid n at transfer)) false (ne_eqb (n + 1 + 1) drawn.row.object differs) refl))))
  where
    differs : n + 1 + 1 ≡ drawn.row.object → ⊥
    differs same = isnt_later state drawn.row (n + 1 + 1) sound.order from.found.stands (omega arith) (sym same)

-- what was transferred of both: the charge says it with the transfer
both_transferred : (state : ViewState) (n at place amount : ℕ) (transfer : Transfer) (drawn : Drawn) → IsSound state → length state.rows < n
    → IsSource state amount drawn → transfer.source ≡ Some drawn.row.object → transfer.amount ≡ amount
    → Spoken transferred state.rows (own n at transfer ∷ paid n at transfer ∷ drawn_row place at amount drawn ∷ [])
both_transferred state n at place amount transfer drawn sound later from source same =
    spoken_around transferred state.rows (own n at transfer) (paid n at transfer) (drawn_row place at amount drawn) transferred_sum
    (payment_transfers (state.rows ++ own n at transfer ∷ []) n (n + 1 + 1) at transfer
    (sum_beside transferred (n + 1 + 1) state.rows (own n at transfer ∷ []) transferred_sum
    (both_fail (touches transferred (n + 1 + 1) (own n at transfer)) false (elsewhere (n + 1 + 1) (λ is. differs (sym is))) refl)
    ∙ (new_is_unused state (n + 1 + 1) sound (omega arith)).charge.transferred))
    says elsewhere (λ other apart. ne_eqb drawn.row.object other (λ is. apart (sym is)))
  where
    differs : drawn.row.object ≡ n + 1 + 1 → ⊥
    differs is = isnt_later state drawn.row (n + 1 + 1) sound.order from.found.stands (omega arith) is

    adds : transferred.adds (own n at transfer) ≡ Some (record { object = drawn.row.object; amount = amount })
    adds =
        transferred_first (own n at transfer) transfer refl refl
        ∙ ap (option_map (λ (charge : ℕ). record { object = charge; amount = transfer.amount })) source
        ∙ ap (λ (a : ℕ). Some (record { object = drawn.row.object; amount = a })) same

    elsewhere : (other : ℕ) → (other ≡ drawn.row.object → ⊥) → touches transferred other (own n at transfer) ≡ false
    elsewhere other apart =
        ap (λ (part : Option (Addition ℕ)). goes_to other part || false) adds
        ∙ ap (λ (b : Bool). b || false) (ne_eqb drawn.row.object other (λ is. apart (sym is)))

    says : SaysSum transferred drawn.row.object (state.rows ++ own n at transfer ∷ paid n at transfer ∷ drawn_row place at amount drawn ∷ [])
    says =
        let before : drawn.charge.amount_transferred ≡ transferred_of drawn.row.object state.rows =
        (charge_says state.rows drawn.row drawn.charge sound.laws from.found).transferred in
        let takes : given 0 drawn.row.object (transferred.adds (own n at transfer)) ≡ amount =
        ap (given 0 drawn.row.object) adds
        ∙ cond-true (eqb drawn.row.object drawn.row.object) amount 0 (eq-eqb drawn.row.object drawn.row.object refl) in
        sum_known transferred drawn.row.object state.rows (own n at transfer ∷ paid n at transfer ∷ drawn_row place at amount drawn ∷ [])
        (drawn_row place at amount drawn) (drawn.charge.amount_transferred + amount) transferred_sum
        (latest_of-behind state.rows (own n at transfer ∷ paid n at transfer ∷ []) (drawn_row place at amount drawn)) refl
        (let right : drawn.charge.amount_transferred + amount
        ≡ transferred_of drawn.row.object state.rows + (given 0 drawn.row.object (transferred.adds (own n at transfer)) + (0 + (0 + 0))) =
        omega arith in right)

drawn_spoken : (state : ViewState) (n at place amount : ℕ) (transfer : Transfer) (drawn : Drawn) → IsSound state → length state.rows < n
    → IsSource state amount drawn → transfer.source ≡ Some drawn.row.object → transfer.amount ≡ amount → transfer.amount_reversed ≡ 0
    → AreSpoken state.rows (rows_from n at (transfer_rows n transfer 0) ++ drawn_row place at amount drawn ∷ [])
drawn_spoken state n at place amount transfer drawn sound later from source same none = record {
  charges = record {
    captured = spoken_among captured state.rows list captured_sum (both_captured state n at place amount transfer drawn sound later from);
    refunded = spoken_among refunded state.rows list refunded_sum (both_refunded state n at place amount transfer drawn sound later from);
    transferred = spoken_among transferred state.rows list transferred_sum
        (subst (Spoken transferred state.rows) (sym heard)
        (both_transferred state n at place amount transfer drawn sound later from source same));
  };
  reversed = spoken_among reversed state.rows list reversed_sum
      (own_reverses state.rows n at transfer none (new_is_unused state n sound later));
  given_back = spoken_none given_back state.rows list refl;
  moved = spoken_none moved state.rows list refl;
}
  where
    list : List Row
    list = rows_from n at (transfer_rows n transfer 0) ++ drawn_row place at amount drawn ∷ []

    heard : filter (speaks transferred) list ≡ own n at transfer ∷ paid n at transfer ∷ drawn_row place at amount drawn ∷ []
    heard =
        heard_with transferred (own n at transfer) (behind_own n at transfer ++ drawn_row place at amount drawn ∷ [])
        (first_speaks (own n at transfer) transfer drawn.row.object refl source refl)

-- ---- the whole

-- the transfer that a call makes may be entered: out of the balance, or drawn on a charge of which so much is left
pub transfer_enters : (state : ViewState) (entry : ℕ) (call : CreateTransfer) (destination : ℕ) (drawn : Option Drawn) → IsReady state
    → AreUtf8 (transfer_texts call) → IsDrawable state call.amount drawn
    → MayBeEntered state (with_transfer call destination drawn (batch_after state entry))
transfer_enters state entry call destination None ready texts from =
    entered_as state (with_transfer call destination None begun) (rows_from n state.time (transfer_rows n transfer 0)) ready.sound
    (underway_announced state giving event.TransferCreated n roomy.underway
    (row_told state giving.rows 0 (own n state.time transfer) event.TransferCreated
    (order_with_all state giving.rows ready.sound.order roomy.underway.continues.follow) refl refl))
    (new_rows_are (transfer_rows n transfer 0) begun)
    (balance_spoken state n state.time transfer ready.sound (omega arith) refl refl)
    (tt, (tt, (later_is_loose state (n + 1 + 1) ready.sound.order ready.sound.laws.held (omega arith), (tt, tt))))
  where
    begun : BatchState
    begun = batch_after state entry

    n : ℕ
    n = last_place begun + 1

    transfer : Transfer
    transfer = made_of_call call destination None state.time n

    giving : BatchState
    giving = with_given call destination None state.time begun

    roomy : HasRoom state giving 60
    roomy = given_room state entry call destination None ready texts tt
transfer_enters state entry call destination (Some drawn) ready texts from =
    entered_as state (with_transfer call destination (Some drawn) begun)
    (rows_from n state.time (transfer_rows n transfer 0) ++ drawn_row (last_place giving + 1) state.time call.amount drawn ∷ []) ready.sound
    (underway_announced state whole event.TransferCreated n wide.underway
    (row_told state whole.rows 0 (own n state.time transfer) event.TransferCreated
    (order_with_all state whole.rows ready.sound.order wide.underway.continues.follow) refl refl))
    (ap (λ (rows : List Row). rows ++ drawn_row (last_place giving + 1) state.time call.amount drawn ∷ []) (new_rows_are (transfer_rows n transfer 0) begun))
    (drawn_spoken state n state.time (last_place giving + 1) call.amount transfer drawn ready.sound (omega arith) from refl refl refl)
    (tt, (tt, (later_is_loose state (n + 1 + 1) ready.sound.order ready.sound.laws.held (omega arith), (tt, (loose, tt)))))
  where
    begun : BatchState
    begun = batch_after state entry

    n : ℕ
    n = last_place begun + 1

    transfer : Transfer
    transfer = made_of_call call destination (Some drawn) state.time n

    giving : BatchState
    giving = with_given call destination (Some drawn.row.object) (transferred_from state.time (Some drawn)) begun

    whole : BatchState
    whole = with_drawn call.amount (Some drawn) giving

    wide : HasRoom state whole 59
    wide =
        room_further state giving drawn.row (item.Charge (drawn_charge call.amount drawn.charge)) 59 ready.sound.order
        (given_room state entry call destination (Some drawn) ready texts from) from.found.stands
        (drawn_stands state giving call.amount drawn ready.sound.order from)
        (record { kind = sym (ap kind_of from.found.is); changes = refl })

    loose : IsLoose state.rows drawn.row.object
    loose =
        captured_is_loose state.rows drawn.row.object drawn.charge ready.sound.laws.held
        (ap (option_and_then (λ (r : Row). charge_in r.item)) from.found.latest ∙ ap charge_in from.found.is)
        (λ none. (let some : 0 < left_to_transfer drawn.charge = from.some in omega arith))
