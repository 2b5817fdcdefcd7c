-- The rows of a reversal may be added, and say what was reversed.
use Rattle.std.specs.Prelude.{neg_ℤ, option_map}
use Rattle.std.specs.List.{filter, list_all}
use Rattle.std.specs.Str.{is_utf8}
use Rattle.std.proofs.Common.{◌≡◌, ℕ, pos, ◌+◌, ◌≤◌, true, List, [], ◌∷◌, ◌++◌, Option, Some, refl, sym, ap, ◌∙◌, subst, arith}
use Rattle.ph_base.specs.declared.ids.Kind.TheVariants as kind
use Rattle.ph_items.specs.declared.event_kinds.EventKind.TheVariants as event
use Rattle.ph_items.specs.declared.items.Item.{Item}
use Rattle.ph_items.specs.declared.items.Item.TheVariants as item
use Rattle.ph_items.specs.declared.metadata_pairs.MetadataPair.{MetadataPair}
use Rattle.ph_items.specs.declared.reversals.Reversal.{Reversal}
use Rattle.ph_items.specs.declared.transactions.TxnType.TheVariants as sort
use Rattle.ph_items.specs.declared.transfers.Transfer.{Transfer}
use Rattle.ph_items.specs.Accounts.{platform}
use Rattle.ph_items.specs.Items.{reversal_in}
use Rattle.ph_items.specs.Kinds.{kind_of}
use Rattle.ph_items.specs.Weights.{metadata_texts}
use Rattle.ph_rows.specs.declared.rows.Row.{Row}
use Rattle.ph_rows.specs.Batches.{BatchState, last_place}
use Rattle.ph_rows.specs.Views.{ViewState}
use Rattle.ph_facts.specs.Amounts.{reversed, reversed_of}
use Rattle.ph_facts.specs.Order.{IsInOrder}
use Rattle.ph_facts.specs.Origins.{HasOrigins, origins_of, refund_named}
use Rattle.ph_facts.proofs.AmountLemmas.{reversed_sum}
use Rattle.ph_facts.proofs.FollowLemmas.{MayStand}
use Rattle.ph_facts.proofs.OrderLemmas.{amounts_stand, origins_stand, texts_stand}
use Rattle.ph_facts.proofs.OriginLemmas.{have_begun-before}
use Rattle.ph_facts.proofs.PresentLemmas.{IsTransfer}
use Rattle.ph_facts.proofs.SpokenLemmas.{Spoken, spoken_added, spoken_among}
use Rattle.ph_facts.proofs.TallyLemmas.{speaks}
use Rattle.ph_charges.specs.NewRows.{NewRow}
use Rattle.ph_charges.proofs.NewRowLemmas.{AllStand, Begun, after, last_begun, still_begun, txn_stands}
use Rattle.ph_reversals.specs.Reversals.{left_of_transfer, new_reversal, reversal_rows, reversal_txn, reversed_transfer, with_reversal, with_reversed}
use Rattle.ph_reversals.proofs.RoomLemmas.{HasRoom, room_further, room_new, room_told}

-- a batch has room with the reversal of a transfer that has begun, by a refund that has or by none
pub room_reversal : (state : ViewState) (batch : BatchState) (object : ℕ) (transfer : Transfer) (amount : ℕ) (refund : Option ℕ)
    (metadata : List MetadataPair) (room : ℕ) → IsInOrder state → HasRoom state batch (3 + room)
    → list_all is_utf8 (metadata_texts metadata) ≡ true → Begun (state.rows ++ batch.rows) kind.Transfer object
    → HasOrigins (state.rows ++ batch.rows) (refund_named refund)
    → HasRoom state (with_reversal object transfer amount refund metadata batch) room
room_reversal state batch object transfer amount refund metadata room order has texts begun by =
    room_new state batch (reversal_rows number reversal transfer amount batch.at) 3 room order has refl stand
  where
    number : ℕ
    number = last_place batch + 1

    reversal : Reversal
    reversal = new_reversal number object transfer amount refund metadata

    own : NewRow
    own = record { account = platform; item = item.Reversal reversal }

    gives : NewRow
    gives = record { account = platform; item = item.Txn (reversal_txn number sort.Transfer (pos amount) transfer batch.at) }

    one : BatchState
    one = after batch own

    made : Begun (state.rows ++ one.rows) kind.Reversal number
    made = last_begun state.rows batch own number has.underway.continues.began refl

    stand : AllStand state batch (reversal_rows number reversal transfer amount batch.at)
    stand = (
      record { texts = texts; within = tt; origins = (begun, by); silent = λ event is. absurd (cc) },
      (
        txn_stands (state.rows ++ one.rows) (reversal_txn number sort.Transfer (pos amount) transfer batch.at) made,
        (
          txn_stands (state.rows ++ (after one gives).rows) (reversal_txn number sort.Adjustment (neg_ℤ (pos amount)) transfer batch.at)
              (still_begun state.rows one gives kind.Reversal number made),
          tt,
        ),
      ),
    )

-- the version of a transfer of which an amount more is reversed may stand
reversed_stands : (state : ViewState) (batch : BatchState) (row : Row) (transfer : Transfer) (amount : ℕ) → IsInOrder state
    → IsTransfer state.rows row transfer → amount ≤ left_of_transfer transfer
    → MayStand (state.rows ++ batch.rows) (item.Transfer (reversed_transfer amount transfer))
reversed_stands state batch row transfer amount order found within =
    let fits : transfer.amount_reversed ≤ transfer.amount = amounts_stand state row (item.Transfer transfer) order found.stands found.is in
    record {
      texts = texts_stand state row (item.Transfer transfer) order found.stands found.is;
      within = omega arith;
      origins = have_begun-before state.rows batch.rows (origins_of (item.Transfer transfer))
          (origins_stand state row (item.Transfer transfer) order found.stands found.is);
      silent = λ event is. absurd (cc);
    }

-- a batch has room with it, and what is told of it
pub room_reversed : (state : ViewState) (batch : BatchState) (row : Row) (transfer : Transfer) (amount room : ℕ) → IsInOrder state
    → HasRoom state batch (1 + room) → IsTransfer state.rows row transfer → amount ≤ left_of_transfer transfer
    → HasRoom state (with_reversed row.account row.object transfer amount batch) room
room_reversed state batch row transfer amount room order has found within =
    room_told state batch row.object row.account (item.Transfer (reversed_transfer amount transfer)) event.TransferReversed room
    (room_further state batch row (item.Transfer (reversed_transfer amount transfer)) room order has found.stands
    (reversed_stands state batch row transfer amount order found within)
    (record { kind = sym (ap kind_of found.is); changes = refl })) refl

-- rows of which a reversal, and behind it a version of its transfer, alone have to do with what was reversed, speak of it where that
-- version says what was reversed before with the reversal
pub reversal_spoken : (rows more : List Row) (made version : Row) (reversal : Reversal) (transfer : Transfer)
    → filter (speaks reversed) more ≡ made ∷ version ∷ [] → made.item ≡ item.Reversal reversal → version.item ≡ item.Transfer transfer
    → reversal.transfer ≡ version.object → transfer.amount_reversed ≡ reversed_of version.object rows + reversal.amount
    → Spoken reversed rows more
reversal_spoken rows more made version reversal transfer heard made_is version_is of says =
    spoken_among reversed rows more reversed_sum
    (subst (Spoken reversed rows) (sym heard)
    (spoken_added reversed rows made version reversal.amount transfer.amount_reversed reversed_sum
    (ap (λ (o : Item). option_map (λ (r : Reversal). record { object = r.transfer; amount = r.amount }) (reversal_in o)) made_is
    ∙ ap (λ (n : ℕ). Some (record { object = n; amount = reversal.amount })) of)
    (ap reversed.said made_is)
    (ap (λ (o : Item). option_map (λ (r : Reversal). record { object = r.transfer; amount = r.amount }) (reversal_in o)) version_is)
    (ap reversed.said version_is) says))
