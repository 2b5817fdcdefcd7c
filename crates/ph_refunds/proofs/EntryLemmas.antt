-- The rows of a refund may be entered.
use Rattle.std.specs.Prelude.{option_and_then}
use Rattle.std.specs.List.{filter}
use Rattle.std.proofs.Common.{◌≡◌, ℕ, ◌+◌, ◌≤◌, ◌<◌, false, [], ◌∷◌, ◌++◌, List, Option, None, Some, length, refl, sym, ap, ◌∙◌, subst, arith, pos}
use Rattle.ph_base.specs.declared.ids.Kind.{Kind}
use Rattle.ph_base.specs.declared.ids.Kind.TheVariants as kind
use Rattle.ph_calls.specs.declared.call.CreateRefund.{CreateRefund}
use Rattle.ph_items.specs.declared.charges.Capture.{Capture}
use Rattle.ph_items.specs.declared.charges.Charge.{Charge}
use Rattle.ph_items.specs.declared.event_kinds.EventKind.TheVariants as event
use Rattle.ph_items.specs.declared.items.Item.TheVariants as item
use Rattle.ph_items.specs.declared.refunds.Refund.{Refund}
use Rattle.ph_items.specs.Accounts.{platform}
use Rattle.ph_items.specs.Charges.{charge_kind}
use Rattle.ph_items.specs.Items.{charge_in}
use Rattle.ph_items.specs.Kinds.{kind_of}
use Rattle.ph_items.specs.Weights.{AreUtf8}
use Rattle.ph_kinds.proofs.KeptLemmas.{first_kept}
use Rattle.ph_rows.specs.declared.rows.Row.{Row}
use Rattle.ph_rows.specs.Batches.{BatchState, last_place, next_row}
use Rattle.ph_rows.specs.Views.{ViewState}
use Rattle.ph_facts.specs.Amounts.{captured, given_back, given_back_of, moved, refunded, reversed, reversed_of, transferred}
use Rattle.ph_facts.specs.Entering.{MayBeEntered}
use Rattle.ph_facts.specs.Keeps.{IsReady, batch_after}
use Rattle.ph_facts.specs.Order.{IsInOrder, IsWithin}
use Rattle.ph_facts.specs.Origins.{origins_of}
use Rattle.ph_facts.proofs.AmountLemmas.{captured_sum, further_is_quiet, refunded_sum, transferred_sum}
use Rattle.ph_facts.proofs.FollowLemmas.{MayStand}
use Rattle.ph_facts.proofs.HeldLemmas.{AllBeside, IsLoose, captured_is_loose}
use Rattle.ph_facts.proofs.LawLemmas.{AreSpoken, ChargesSpoken}
use Rattle.ph_facts.proofs.OrderLemmas.{amounts_stand, origin_stands, origins_stand, texts_stand}
use Rattle.ph_facts.proofs.OriginLemmas.{have_begun-before}
use Rattle.ph_facts.proofs.PresentLemmas.{ChargeSays, IsCharge, IsFee, IsTransfer, charge_says, fee_says, transfer_says}
use Rattle.ph_facts.proofs.SpokenLemmas.{Spoken, heard_without, spoken_added, spoken_among, spoken_none, spoken_version}
use Rattle.ph_facts.proofs.TallyLemmas.{speaks}
use Rattle.ph_charges.specs.NewRows.{NewRow}
use Rattle.ph_charges.proofs.NewRowLemmas.{Begun, last_begun, still_begun, txn_stands}
use Rattle.ph_reversals.specs.FeeRefunds.{given_back_fee, left_of_fee, new_fee_refund, with_given_back}
use Rattle.ph_reversals.specs.Reversals.{left_of_transfer, new_reversal, reversed_transfer, with_reversed}
use Rattle.ph_reversals.proofs.FeeRefundLemmas.{fee_refund_spoken, room_fee_refund, room_given_back}
use Rattle.ph_reversals.proofs.ReversalLemmas.{reversal_spoken, room_reversal, room_reversed}
use Rattle.ph_reversals.proofs.RoomLemmas.{HasRoom, begun_behind, entered_as, isnt_later, room_after, room_first, room_further, room_less, room_told}
use Rattle.ph_refunds.specs.declared.parts.FeePart.{FeePart}
use Rattle.ph_refunds.specs.declared.parts.TransferPart.{TransferPart}
use Rattle.ph_refunds.specs.Entry.{new_refund, refund_rows, refund_txn, refunded_charge, refunded_from, with_fee_told, with_part_given_back, with_refund, with_refund_txn, with_refunded, with_taken_back, with_transfer_told}
use Rattle.ph_refunds.specs.Laws.{refund_texts}
use Rattle.ph_refunds.specs.Refunds.{left_of}

-- a part of a transfer that stands: no more of it than is left
pub record IsTransferPart (rows : List Row) (part : TransferPart) : Type 0 where
  pub row : Row
  pub found : IsTransfer rows row part.transfer
  pub object : row.object ≡ part.object
  pub account : row.account ≡ part.account
  pub within : part.amount ≤ left_of_transfer part.transfer

-- a part of an application fee that stands
pub record IsFeePart (rows : List Row) (part : FeePart) : Type 0 where
  pub row : Row
  pub found : IsFee rows row part.fee
  pub object : row.object ≡ part.object
  pub account : row.account ≡ part.account
  pub within : part.amount ≤ left_of_fee part.fee

-- they are parts, where there are any
abbrev pub AreTransferPart : List Row → Option TransferPart → Type 0
AreTransferPart rows None = Unit {0}
AreTransferPart rows (Some part) = IsTransferPart rows part

abbrev pub AreFeePart : List Row → Option FeePart → Type 0
AreFeePart rows None = Unit {0}
AreFeePart rows (Some part) = IsFeePart rows part

-- ---- the batch has room

-- with what is taken back by a refund that has begun
taken_room : (state : ViewState) (batch : BatchState) (refund : ℕ) (transfer : Option TransferPart) (room : ℕ) → IsInOrder state
    → HasRoom state batch (3 + room) → AreTransferPart state.rows transfer → Begun (state.rows ++ batch.rows) kind.Refund refund
    → HasRoom state (with_taken_back refund transfer batch) room
taken_room state batch refund None room order has part begun = room_less state batch 3 room has
taken_room state batch refund (Some part) room order has stands begun =
    room_reversal state batch part.object part.transfer part.amount (Some refund) [] room order has refl
    (subst (λ (n : ℕ). Begun (state.rows ++ batch.rows) kind.Transfer n) stands.object
    (begun_behind state batch kind.Transfer stands.row.object
    (origin_stands state stands.row (item.Transfer part.transfer) order stands.found.stands stands.found.is)))
    (begun, tt)

-- with what is given back
given_room : (state : ViewState) (batch : BatchState) (fee : Option FeePart) (room : ℕ) → IsInOrder state → HasRoom state batch (3 + room)
    → AreFeePart state.rows fee → HasRoom state (with_part_given_back fee batch) room
given_room state batch None room order has part = room_less state batch 3 room has
given_room state batch (Some part) room order has stands =
    room_fee_refund state batch part.object part.fee part.amount [] room order has refl
    (subst (λ (n : ℕ). Begun (state.rows ++ batch.rows) kind.Fee n) stands.object
    (begun_behind state batch kind.Fee stands.row.object
    (origin_stands state stands.row (item.Fee part.fee) order stands.found.stands stands.found.is)))

-- with the version of the transfer
transfer_room : (state : ViewState) (batch : BatchState) (transfer : Option TransferPart) (room : ℕ) → IsInOrder state
    → HasRoom state batch (1 + room) → AreTransferPart state.rows transfer → HasRoom state (with_transfer_told transfer batch) room
transfer_room state batch None room order has part = room_less state batch 1 room has
transfer_room state batch (Some part) room order has stands =
    subst (λ (n : ℕ). HasRoom state (with_reversed part.account n part.transfer part.amount batch) room) stands.object
    (subst (λ (a : ℕ). HasRoom state (with_reversed a stands.row.object part.transfer part.amount batch) room) stands.account
    (room_reversed state batch stands.row part.transfer part.amount room order has stands.found stands.within))

-- and with that of the application fee
fee_room : (state : ViewState) (batch : BatchState) (fee : Option FeePart) (room : ℕ) → IsInOrder state → HasRoom state batch (1 + room)
    → AreFeePart state.rows fee → HasRoom state (with_fee_told fee batch) room
fee_room state batch None room order has part = room_less state batch 1 room has
fee_room state batch (Some part) room order has stands =
    subst (λ (n : ℕ). HasRoom state (with_given_back part.account n part.fee part.amount batch) room) stands.object
    (subst (λ (a : ℕ). HasRoom state (with_given_back a stands.row.object part.fee part.amount batch) room) stands.account
    (room_given_back state batch stands.row part.fee part.amount room order has stands.found stands.within))

-- ---- the whole

-- the refund of an amount that is left of a card charge, and of parts of its transfer and its application fee, may be entered
pub refund_enters : (state : ViewState) (entry : ℕ) (call : CreateRefund) (row : Row) (charge : Charge) (capture : Capture)
    (amount : ℕ) (transfer : Option TransferPart) (fee : Option FeePart) → IsReady state → AreUtf8 (refund_texts call)
    → IsCharge state.rows row charge → charge_kind charge.sort ≡ kind.Charge → 0 < left_of charge → amount ≤ left_of charge
    → AreTransferPart state.rows transfer → AreFeePart state.rows fee
    → MayBeEntered state (refund_rows call row.account row.object charge capture amount transfer fee (batch_after state entry))
refund_enters state entry call row charge capture amount transfer fee ready texts found card some within of_transfer of_fee =
    entered_as state (all transfer fee) (all transfer fee).rows ready.sound roomy.underway refl (spoken transfer fee of_transfer of_fee)
    (beside transfer fee)
  where
    order : IsInOrder state
    order = ready.sound.order

    begun : BatchState
    begun = batch_after state entry

    number : ℕ
    number = last_place begun + 1

    refund : Option TransferPart → Refund
    refund taken = new_refund call row.object charge amount taken begun

    after_charge : Charge
    after_charge = refunded_charge amount charge

    -- the batch as it grows
    refunding : Option TransferPart → BatchState
    refunding taken = with_refund row.account (refund taken) begun

    taking : Option TransferPart → BatchState
    taking taken = with_refund_txn row.account charge amount (refunded_from begun.at capture) (refunding taken)

    reversing : Option TransferPart → BatchState
    reversing taken = with_taken_back number taken (taking taken)

    giving : Option TransferPart → Option FeePart → BatchState
    giving taken given = with_part_given_back given (reversing taken)

    telling : Option TransferPart → Option FeePart → BatchState
    telling taken given = with_refunded row.account row.object after_charge (giving taken given)

    telling_transfer : Option TransferPart → Option FeePart → BatchState
    telling_transfer taken given = with_transfer_told taken (telling taken given)

    all : Option TransferPart → Option FeePart → BatchState
    all taken given = refund_rows call row.account row.object charge capture amount taken given begun

    -- the rows of the refund and of the charge's version
    made : Option TransferPart → Row
    made taken = next_row begun number row.account (item.Refund (refund taken))

    version : Option TransferPart → Option FeePart → Row
    version taken given = next_row (giving taken given) row.object row.account (item.Charge after_charge)

    -- ---- its room

    charge_begun : Begun state.rows kind.Charge row.object
    charge_begun =
        subst (λ (k : Kind). Begun state.rows k row.object) card (origin_stands state row (item.Charge charge) order found.stands found.is)

    own : NewRow
    own = record { account = row.account; item = item.Refund (refund transfer) }

    room_made : HasRoom state (refunding transfer) 63
    room_made =
        room_first state begun row.account (item.Refund (refund transfer)) 63 order (room_after state entry ready)
        (record {
          texts = first_kept call.metadata texts;
          within = tt;
          origins = (begun_behind state begun kind.Charge row.object charge_begun, tt);
          silent = λ event is. absurd (cc);
        })

    refund_begun : Begun (state.rows ++ (refunding transfer).rows) kind.Refund number
    refund_begun = last_begun state.rows begun own number refl refl

    txn_row : NewRow
    txn_row = record {
      account = row.account;
      item = item.Txn (refund_txn (last_place (refunding transfer)) charge amount (refunded_from begun.at capture));
    }

    same_number : last_place (refunding transfer) ≡ number
    same_number = omega arith

    room_taken : HasRoom state (taking transfer) 62
    room_taken =
        room_first state (refunding transfer) row.account txn_row.item 62 order room_made
        (txn_stands (state.rows ++ (refunding transfer).rows) (refund_txn (last_place (refunding transfer)) charge amount (refunded_from begun.at capture))
        (subst (λ (n : ℕ). Begun (state.rows ++ (refunding transfer).rows) kind.Refund n) (sym same_number) refund_begun))

    room_reversed_part : HasRoom state (reversing transfer) 59
    room_reversed_part =
        taken_room state (taking transfer) number transfer 59 order room_taken of_transfer
        (still_begun state.rows (refunding transfer) txn_row kind.Refund number refund_begun)

    room_given : HasRoom state (giving transfer fee) 56
    room_given = given_room state (reversing transfer) fee 56 order room_reversed_part of_fee

    fits : IsWithin charge
    fits = amounts_stand state row (item.Charge charge) order found.stands found.is

    version_stands : MayStand (state.rows ++ (giving transfer fee).rows) (item.Charge after_charge)
    version_stands = record {
      texts = texts_stand state row (item.Charge charge) order found.stands found.is;
      within = record { captured = fits.captured; refunded = omega arith; transferred = fits.transferred };
      origins = have_begun-before state.rows (giving transfer fee).rows (origins_of (item.Charge charge))
          (origins_stand state row (item.Charge charge) order found.stands found.is);
      silent = λ event is. absurd (cc);
    }

    room_told_charge : HasRoom state (telling transfer fee) 55
    room_told_charge =
        room_told state (giving transfer fee) row.object row.account (item.Charge after_charge) event.ChargeRefunded 55
        (room_further state (giving transfer fee) row (item.Charge after_charge) 55 order room_given found.stands version_stands
        (record { kind = sym (ap kind_of found.is); changes = refl })) card

    roomy : HasRoom state (all transfer fee) 53
    roomy =
        fee_room state (telling_transfer transfer fee) fee 53 order
        (transfer_room state (telling transfer fee) transfer 54 order room_told_charge of_transfer) of_fee

    -- ---- what its rows say

    says : ChargeSays state.rows row.object charge
    says = charge_says state.rows row charge ready.sound.laws found

    charges : (taken : Option TransferPart) (given : Option FeePart) → filter (speaks captured) (all taken given).rows ≡ version taken given ∷ []
        → filter (speaks refunded) (all taken given).rows ≡ made taken ∷ version taken given ∷ []
        → filter (speaks transferred) (all taken given).rows ≡ version taken given ∷ [] → ChargesSpoken state.rows (all taken given).rows
    charges taken given of_captured of_refunded of_transferred = record {
      captured = spoken_among captured state.rows (all taken given).rows captured_sum
          (subst (Spoken captured state.rows) (sym of_captured)
          (spoken_version captured state.rows (version taken given) (pos charge.amount_captured) captured_sum refl refl says.captured));
      refunded = spoken_among refunded state.rows (all taken given).rows refunded_sum
          (subst (Spoken refunded state.rows) (sym of_refunded)
          (spoken_added refunded state.rows (made taken) (version taken given) amount (charge.amount_refunded + amount) refunded_sum refl refl refl
          refl (ap (λ (n : ℕ). n + amount) says.refunded)));
      transferred = spoken_among transferred state.rows (all taken given).rows transferred_sum
          (subst (Spoken transferred state.rows) (sym of_transferred)
          (spoken_version transferred state.rows (version taken given) charge.amount_transferred transferred_sum refl refl says.transferred));
    }

    reversal_row : TransferPart → Row
    reversal_row part =
        next_row (taking (Some part)) (last_place (taking (Some part)) + 1) platform
        (item.Reversal (new_reversal (last_place (taking (Some part)) + 1) part.object part.transfer part.amount (Some number) []))

    transfer_row : TransferPart → Option FeePart → Row
    transfer_row part given =
        next_row (telling (Some part) given) part.object part.account (item.Transfer (reversed_transfer part.amount part.transfer))

    quiet : (part : TransferPart) (given : Option FeePart) → IsTransferPart state.rows part → length state.rows < (transfer_row part given).place
        → speaks transferred (transfer_row part given) ≡ false
    quiet part given stands later =
        further_is_quiet (transfer_row part given) (reversed_transfer part.amount part.transfer) refl
        (λ same. isnt_later state stands.row (transfer_row part given).place order stands.found.stands later (stands.object ∙ same))

    reverses : (part : TransferPart) (given : Option FeePart) → IsTransferPart state.rows part
        → filter (speaks reversed) (all (Some part) given).rows ≡ reversal_row part ∷ transfer_row part given ∷ []
        → Spoken reversed state.rows (all (Some part) given).rows
    reverses part given stands heard =
        reversal_spoken state.rows (all (Some part) given).rows (reversal_row part) (transfer_row part given)
        (new_reversal (last_place (taking (Some part)) + 1) part.object part.transfer part.amount (Some number) [])
        (reversed_transfer part.amount part.transfer) heard refl refl refl
        (ap (λ (n : ℕ). n + part.amount)
        (transfer_says state.rows stands.row part.transfer ready.sound.laws stands.found ∙ ap (λ (n : ℕ). reversed_of n state.rows) stands.object))

    fee_refund_row : Option TransferPart → FeePart → Row
    fee_refund_row taken part =
        next_row (reversing taken) (last_place (reversing taken) + 1) platform
        (item.FeeRefund (new_fee_refund (last_place (reversing taken) + 1) part.object part.fee part.amount []))

    fee_row : Option TransferPart → FeePart → Row
    fee_row taken part =
        next_row (telling_transfer taken (Some part)) part.object part.account (item.Fee (given_back_fee part.amount part.fee))

    gives : (taken : Option TransferPart) (part : FeePart) → IsFeePart state.rows part
        → filter (speaks given_back) (all taken (Some part)).rows ≡ fee_refund_row taken part ∷ fee_row taken part ∷ []
        → Spoken given_back state.rows (all taken (Some part)).rows
    gives taken part stands heard =
        fee_refund_spoken state.rows (all taken (Some part)).rows (fee_refund_row taken part) (fee_row taken part)
        (new_fee_refund (last_place (reversing taken) + 1) part.object part.fee part.amount []) (given_back_fee part.amount part.fee) heard
        refl refl refl
        (ap (λ (n : ℕ). n + part.amount)
        (fee_says state.rows stands.row part.fee ready.sound.laws stands.found ∙ ap (λ (n : ℕ). given_back_of n state.rows) stands.object))

    spoken : (taken : Option TransferPart) (given : Option FeePart) → AreTransferPart state.rows taken → AreFeePart state.rows given
        → AreSpoken state.rows (all taken given).rows
    spoken None None of to = record {
      charges = charges None None refl refl refl;
      reversed = spoken_none reversed state.rows (all None None).rows refl;
      given_back = spoken_none given_back state.rows (all None None).rows refl;
      moved = spoken_none moved state.rows (all None None).rows refl;
    }
    spoken None (Some part) of to = record {
      charges = charges None (Some part) refl refl refl;
      reversed = spoken_none reversed state.rows (all None (Some part)).rows refl;
      given_back = gives None part to refl;
      moved = spoken_none moved state.rows (all None (Some part)).rows refl;
    }
    spoken (Some part) None of to = record {
      charges = charges (Some part) None refl refl
          (ap (λ (rest : List Row). version (Some part) None ∷ rest)
          (heard_without transferred (transfer_row part None) [] (quiet part None of (omega arith))));
      reversed = reverses part None of refl;
      given_back = spoken_none given_back state.rows (all (Some part) None).rows refl;
      moved = spoken_none moved state.rows (all (Some part) None).rows refl;
    }
    spoken (Some part) (Some other) of to = record {
      charges = charges (Some part) (Some other) refl refl
          (ap (λ (rest : List Row). version (Some part) (Some other) ∷ rest)
          (heard_without transferred (transfer_row part (Some other)) (fee_row (Some part) other ∷ []) (quiet part (Some other) of (omega arith))));
      reversed = reverses part (Some other) of refl;
      given_back = gives (Some part) other to refl;
      moved = spoken_none moved state.rows (all (Some part) (Some other)).rows refl;
    }

    -- ---- what they leave

    loose : IsLoose state.rows row.object
    loose =
        captured_is_loose state.rows row.object charge ready.sound.laws.held
        (ap (option_and_then (λ (r : Row). charge_in r.item)) found.latest ∙ ap charge_in found.is)
        (λ none. (let within_captured : charge.amount_captured ≤ charge.amount = fits.captured in omega arith))

    beside : (taken : Option TransferPart) (given : Option FeePart) → AllBeside state.rows (all taken given).rows
    beside None None = (tt, (tt, (loose, tt)))
    beside None (Some part) = (tt, (tt, (tt, (tt, (tt, (loose, (tt, tt)))))))
    beside (Some part) None = (tt, (tt, (tt, (tt, (tt, (loose, (tt, tt)))))))
    beside (Some part) (Some other) = (tt, (tt, (tt, (tt, (tt, (tt, (tt, (tt, (loose, (tt, (tt, tt)))))))))))
