-- The rows of a fee refund may be added, and say what was given back.
use Rattle.std.specs.Prelude.{neg_ℤ, option_map}
use Rattle.std.specs.List.{filter, list_all}
use Rattle.std.specs.Str.{is_utf8}
use Rattle.std.proofs.Common.{◌≡◌, ℕ, pos, ◌+◌, ◌≤◌, true, List, [], ◌∷◌, ◌++◌, Some, refl, sym, ap, ◌∙◌, subst, arith}
use Rattle.ph_base.specs.declared.ids.Kind.TheVariants as kind
use Rattle.ph_items.specs.declared.event_kinds.EventKind.TheVariants as event
use Rattle.ph_items.specs.declared.fee_refunds.FeeRefund.{FeeRefund}
use Rattle.ph_items.specs.declared.fees.Fee.{Fee}
use Rattle.ph_items.specs.declared.items.Item.{Item}
use Rattle.ph_items.specs.declared.items.Item.TheVariants as item
use Rattle.ph_items.specs.declared.metadata_pairs.MetadataPair.{MetadataPair}
use Rattle.ph_items.specs.declared.transactions.TxnType.TheVariants as sort
use Rattle.ph_items.specs.Accounts.{platform}
use Rattle.ph_items.specs.Items.{fee_refund_in}
use Rattle.ph_items.specs.Kinds.{kind_of}
use Rattle.ph_items.specs.Weights.{metadata_texts}
use Rattle.ph_rows.specs.declared.rows.Row.{Row}
use Rattle.ph_rows.specs.Batches.{BatchState, last_place}
use Rattle.ph_rows.specs.Views.{ViewState}
use Rattle.ph_facts.specs.Amounts.{given_back, given_back_of}
use Rattle.ph_facts.specs.Order.{IsInOrder}
use Rattle.ph_facts.specs.Origins.{origins_of}
use Rattle.ph_facts.proofs.AmountLemmas.{given_back_sum}
use Rattle.ph_facts.proofs.FollowLemmas.{MayStand}
use Rattle.ph_facts.proofs.OrderLemmas.{amounts_stand, origins_stand}
use Rattle.ph_facts.proofs.OriginLemmas.{have_begun-before}
use Rattle.ph_facts.proofs.PresentLemmas.{IsFee}
use Rattle.ph_facts.proofs.SpokenLemmas.{Spoken, spoken_added, spoken_among}
use Rattle.ph_facts.proofs.TallyLemmas.{speaks}
use Rattle.ph_charges.specs.NewRows.{NewRow}
use Rattle.ph_charges.proofs.NewRowLemmas.{AllStand, Begun, after, last_begun, still_begun, txn_stands}
use Rattle.ph_reversals.specs.FeeRefunds.{fee_refund_rows, fee_refund_txn, given_back_fee, left_of_fee, new_fee_refund, with_fee_refund, with_given_back}
use Rattle.ph_reversals.proofs.RoomLemmas.{HasRoom, room_further, room_new, room_told}

-- a batch has room with the refund of an application fee that has begun
pub room_fee_refund : (state : ViewState) (batch : BatchState) (object : ℕ) (fee : Fee) (amount : ℕ) (metadata : List MetadataPair)
    (room : ℕ) → IsInOrder state → HasRoom state batch (3 + room) → list_all is_utf8 (metadata_texts metadata) ≡ true
    → Begun (state.rows ++ batch.rows) kind.Fee object
    → HasRoom state (with_fee_refund object fee amount metadata batch) room
room_fee_refund state batch object fee amount metadata room order has texts begun =
    room_new state batch (fee_refund_rows number refund fee amount batch.at) 3 room order has refl stand
  where
    number : ℕ
    number = last_place batch + 1

    refund : FeeRefund
    refund = new_fee_refund number object fee amount metadata

    own : NewRow
    own = record { account = platform; item = item.FeeRefund refund }

    takes : NewRow
    takes = record { account = platform; item = item.Txn (fee_refund_txn number sort.ApplicationFeeRefund (neg_ℤ (pos amount)) fee batch.at) }

    one : BatchState
    one = after batch own

    made : Begun (state.rows ++ one.rows) kind.FeeRefund number
    made = last_begun state.rows batch own number has.underway.continues.began refl

    stand : AllStand state batch (fee_refund_rows number refund fee amount batch.at)
    stand = (
      record { texts = texts; within = tt; origins = (begun, tt); silent = λ event is. absurd (cc) },
      (
        txn_stands (state.rows ++ one.rows) (fee_refund_txn number sort.ApplicationFeeRefund (neg_ℤ (pos amount)) fee batch.at) made,
        (
          txn_stands (state.rows ++ (after one takes).rows) (fee_refund_txn number sort.Adjustment (pos amount) fee batch.at)
              (still_begun state.rows one takes kind.FeeRefund number made),
          tt,
        ),
      ),
    )

-- the version of an application fee of which an amount more is given back may stand
given_back_stands : (state : ViewState) (batch : BatchState) (row : Row) (fee : Fee) (amount : ℕ) → IsInOrder state
    → IsFee state.rows row fee → amount ≤ left_of_fee fee → MayStand (state.rows ++ batch.rows) (item.Fee (given_back_fee amount fee))
given_back_stands state batch row fee amount order found within =
    let fits : fee.amount_refunded ≤ fee.amount = amounts_stand state row (item.Fee fee) order found.stands found.is in
    record {
      texts = refl;
      within = omega arith;
      origins = have_begun-before state.rows batch.rows (origins_of (item.Fee fee))
          (origins_stand state row (item.Fee fee) order found.stands found.is);
      silent = λ event is. absurd (cc);
    }

-- a batch has room with it, and what is told of it
pub room_given_back : (state : ViewState) (batch : BatchState) (row : Row) (fee : Fee) (amount room : ℕ) → IsInOrder state
    → HasRoom state batch (1 + room) → IsFee state.rows row fee → amount ≤ left_of_fee fee
    → HasRoom state (with_given_back row.account row.object fee amount batch) room
room_given_back state batch row fee amount room order has found within =
    room_told state batch row.object row.account (item.Fee (given_back_fee amount fee)) event.FeeRefunded room
    (room_further state batch row (item.Fee (given_back_fee amount fee)) room order has found.stands
    (given_back_stands state batch row fee amount order found within)
    (record { kind = sym (ap kind_of found.is); changes = refl })) refl

-- rows of which a fee refund, and behind it a version of its application fee, alone have to do with what was given back, speak of it
-- where that version says what was given back before with the fee refund
pub fee_refund_spoken : (rows more : List Row) (made version : Row) (refund : FeeRefund) (fee : Fee)
    → filter (speaks given_back) more ≡ made ∷ version ∷ [] → made.item ≡ item.FeeRefund refund → version.item ≡ item.Fee fee
    → refund.fee ≡ version.object → fee.amount_refunded ≡ given_back_of version.object rows + refund.amount
    → Spoken given_back rows more
fee_refund_spoken rows more made version refund fee heard made_is version_is of says =
    spoken_among given_back rows more given_back_sum
    (subst (Spoken given_back rows) (sym heard)
    (spoken_added given_back rows made version refund.amount fee.amount_refunded given_back_sum
    (ap (λ (o : Item). option_map (λ (r : FeeRefund). record { object = r.fee; amount = r.amount }) (fee_refund_in o)) made_is
    ∙ ap (λ (n : ℕ). Some (record { object = n; amount = refund.amount })) of)
    (ap given_back.said made_is)
    (ap (λ (o : Item). option_map (λ (r : FeeRefund). record { object = r.fee; amount = r.amount }) (fee_refund_in o)) version_is)
    (ap given_back.said version_is) says))
