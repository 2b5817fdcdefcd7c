-- The amounts that rows add up to: what was captured, what was refunded and what was transferred of a charge, what was reversed of a
-- transfer, what was given back of an application fee, and what a dispute has moved.
use Rattle.std.specs.Prelude.{ℕ, ◌+◌, ◌==◌, Bool, if◌then◌else◌, ℤ, pos, ◌+ℤ◌, ◌-ℤ◌, List, [], ◌∷◌, ◌++◌, Option, None, Some, option_map, option_and_then}
use Rattle.ph_items.specs.declared.charges.Charge.{Charge}
use Rattle.ph_items.specs.declared.disputes.Dispute.{Dispute}
use Rattle.ph_items.specs.declared.disputes.DisputeStatus.{DisputeStatus}
use Rattle.ph_items.specs.declared.disputes.DisputeStatus.TheVariants as status
use Rattle.ph_items.specs.declared.fee_refunds.FeeRefund.{FeeRefund}
use Rattle.ph_items.specs.declared.fees.Fee.{Fee}
use Rattle.ph_items.specs.declared.refunds.Refund.{Refund}
use Rattle.ph_items.specs.declared.reversals.Reversal.{Reversal}
use Rattle.ph_items.specs.declared.transactions.Txn.{Txn}
use Rattle.ph_items.specs.declared.transactions.TxnType.{TxnType}
use Rattle.ph_items.specs.declared.transactions.TxnType.TheVariants as sort
use Rattle.ph_items.specs.declared.transactions.TxnSource.{TxnSource}
use Rattle.ph_items.specs.declared.transactions.TxnSource.TheVariants as source
use Rattle.ph_items.specs.declared.transfers.Transfer.{Transfer}
use Rattle.ph_items.specs.Disputes.{dispute_fee}
use Rattle.ph_items.specs.Items.{charge_in, dispute_in, fee_in, fee_refund_in, refund_in, reversal_in, transfer_in, txn_in}
use Rattle.ph_items.specs.Transactions.{source_number}
use Rattle.ph_rows.specs.declared.rows.Row.{Row}
use Rattle.ph_facts.specs.Tallies.{Addition, Tally, sum_for}

-- what a transaction of a type adds to what was captured of its source: its amount, where the type is charge or payment
abbrev pub captured_by : TxnType → ℕ → ℤ → Option (Addition ℤ)
captured_by sort.Charge charge amount = Some (record { object = charge; amount = amount })
captured_by sort.Payment charge amount = Some (record { object = charge; amount = amount })
captured_by sort.Refund charge amount = None
captured_by sort.Transfer charge amount = None
captured_by sort.ApplicationFee charge amount = None
captured_by sort.ApplicationFeeRefund charge amount = None
captured_by sort.Adjustment charge amount = None

-- what was captured of a charge: the sum of the amounts of the transactions of type charge, or payment, whose source it is
abbrev pub captured : Tally ℤ
captured = record {
  nothing = pos 0;
  plus = λ first second. first +ℤ second;
  adds = λ row. option_and_then (λ (txn : Txn). captured_by txn.sort (source_number txn.source) txn.amount) (txn_in row.item);
  said = λ item. option_map (λ (charge : Charge). pos charge.amount_captured) (charge_in item);
}

abbrev pub captured_of : ℕ → List Row → ℤ
captured_of charge rows = sum_for captured charge rows

-- what was refunded of a charge: the sum of its refunds
abbrev pub refunded : Tally ℕ
refunded = record {
  nothing = 0;
  plus = λ first second. first + second;
  adds = λ row. option_map (λ (refund : Refund). record { object = refund.charge; amount = refund.amount }) (refund_in row.item);
  said = λ item. option_map (λ (charge : Charge). charge.amount_refunded) (charge_in item);
}

abbrev pub refunded_of : ℕ → List Row → ℕ
refunded_of charge rows = sum_for refunded charge rows

-- what a transfer draws on a charge, where it is drawn on one: its amount
abbrev pub drawn_by : Transfer → Option (Addition ℕ)
drawn_by transfer = option_map (λ (charge : ℕ). record { object = charge; amount = transfer.amount }) transfer.source

-- the row begins its object
abbrev pub is_first : Row → Bool
is_first row = row.object == row.place

-- what was transferred of a charge: the sum of the transfers that are drawn on it, each counted where it begins
abbrev pub transferred : Tally ℕ
transferred = record {
  nothing = 0;
  plus = λ first second. first + second;
  adds = λ row. option_and_then (λ (transfer : Transfer). if is_first row then drawn_by transfer else None) (transfer_in row.item);
  said = λ item. option_map (λ (charge : Charge). charge.amount_transferred) (charge_in item);
}

abbrev pub transferred_of : ℕ → List Row → ℕ
transferred_of charge rows = sum_for transferred charge rows

-- what was reversed of a transfer: the sum of its reversals
abbrev pub reversed : Tally ℕ
reversed = record {
  nothing = 0;
  plus = λ first second. first + second;
  adds = λ row. option_map (λ (reversal : Reversal). record { object = reversal.transfer; amount = reversal.amount }) (reversal_in row.item);
  said = λ item. option_map (λ (transfer : Transfer). transfer.amount_reversed) (transfer_in item);
}

abbrev pub reversed_of : ℕ → List Row → ℕ
reversed_of transfer rows = sum_for reversed transfer rows

-- what was given back of an application fee: the sum of its refunds
abbrev pub given_back : Tally ℕ
given_back = record {
  nothing = 0;
  plus = λ first second. first + second;
  adds = λ row. option_map (λ (refund : FeeRefund). record { object = refund.fee; amount = refund.amount }) (fee_refund_in row.item);
  said = λ item. option_map (λ (fee : Fee). fee.amount_refunded) (fee_in item);
}

abbrev pub given_back_of : ℕ → List Row → ℕ
given_back_of fee rows = sum_for given_back fee rows

-- what a transaction moves for a dispute
pub record Move : Type 0 where
  pub amount : ℤ
  pub fee : ℤ

-- what a dispute of an amount takes when it is opened: the amount, and the fee
abbrev pub taken_move : ℕ → Move
taken_move amount = record { amount = pos 0 -ℤ pos amount; fee = pos dispute_fee }

-- what it gives back when it is won: the amount, but not the fee
abbrev pub given_move : ℕ → Move
given_move amount = record { amount = pos amount; fee = pos 0 }

-- what a dispute of an amount has moved in a status: it takes once, and gives back once, when it is won
abbrev pub moves_in : DisputeStatus → ℕ → List Move
moves_in status.NeedsResponse amount = taken_move amount ∷ []
moves_in status.UnderReview amount = taken_move amount ∷ []
moves_in status.Won amount = taken_move amount ∷ given_move amount ∷ []
moves_in status.Lost amount = taken_move amount ∷ []

-- what a transaction from a source adds to what a dispute has moved: its own move, where the source is one
abbrev pub moved_by : TxnSource → Move → Option (Addition (List Move))
moved_by (source.Charge number) move = None
moved_by (source.Payment number) move = None
moved_by (source.Refund number) move = None
moved_by (source.Dispute number) move = Some (record { object = number; amount = move ∷ [] })
moved_by (source.Transfer number) move = None
moved_by (source.Reversal number) move = None
moved_by (source.Fee number) move = None
moved_by (source.FeeRefund number) move = None

-- what a dispute has moved: the moves of its transactions, in their order
abbrev pub moved : Tally (List Move)
moved = record {
  nothing = [];
  plus = λ first second. first ++ second;
  adds = λ row. option_and_then (λ (txn : Txn). moved_by txn.source (record { amount = txn.amount; fee = txn.fee })) (txn_in row.item);
  said = λ item. option_map (λ (dispute : Dispute). moves_in dispute.status dispute.amount) (dispute_in item);
}

abbrev pub moves_of : ℕ → List Row → List Move
moves_of dispute rows = sum_for moved dispute rows
