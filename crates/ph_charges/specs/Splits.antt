-- The split of what is captured of a charge: the rows that give it to the balances of accounts, in three kinds.
use Rattle.std.specs.Prelude.{ℕ, ◌+◌, ◌-◌, ◌==◌, ◌^◌, min, Bool, true, false, if◌then◌else◌, ℤ, pos, List, [], ◌∷◌, ◌++◌, Option, None, Some, unwrap_or, option_map}
use Rattle.ph_base.specs.declared.acquirer.Method.{Method}
use Rattle.ph_base.specs.declared.acquirer.Method.TheVariants as method
use Rattle.ph_money.specs.Fees.{fee_of}
use Rattle.ph_items.specs.declared.charges.Capture.{Capture}
use Rattle.ph_items.specs.declared.charges.Charge.{Charge}
use Rattle.ph_items.specs.declared.fees.Fee.{Fee}
use Rattle.ph_items.specs.declared.items.Item.TheVariants as item
use Rattle.ph_items.specs.declared.payment_methods.PaymentMethod.{PaymentMethod}
use Rattle.ph_items.specs.declared.transactions.Txn.{Txn}
use Rattle.ph_items.specs.declared.transactions.TxnSource.{TxnSource}
use Rattle.ph_items.specs.declared.transactions.TxnSource.TheVariants as source
use Rattle.ph_items.specs.declared.transactions.TxnType.{TxnType}
use Rattle.ph_items.specs.declared.transactions.TxnType.TheVariants as sort
use Rattle.ph_items.specs.declared.transfers.Transfer.{Transfer}
use Rattle.ph_items.specs.Accounts.{platform}
use Rattle.ph_charges.specs.NewRows.{NewRow}
use Rattle.ph_charges.specs.Transfers.{transfer_rows}

-- ---- when it is available, and what the platform takes of it

-- how long what is captured is pending: two days, in seconds
abbrev pub two_days : ℕ
two_days = 172800

-- whether what a method pays is available at once
abbrev pub is_at_once : Method → Bool
is_at_once method.Visa = false
is_at_once method.Declined = false
is_at_once method.NoFunds = false
is_at_once method.Challenge = false
is_at_once method.Authenticated = false
is_at_once method.Dispute = false
is_at_once method.Bypass = true
is_at_once (method.Slow asks) = false
is_at_once method.Lost = false

-- the moment two days after another; the last one that 64 bits hold stands for any later one, which no clock shows
abbrev pub after_two_days : ℕ → ℕ
after_two_days now = min (now + two_days) (2 ^ 64 - 1)

-- the moment from which what is captured now is available: at once, or (false) after two days
abbrev pub available_by : Bool → ℕ → ℕ
available_by true now = now
available_by false now = after_two_days now

-- the moment from which what is captured now by a payment method is available
abbrev pub available_from : Option PaymentMethod → ℕ → ℕ
available_from None now = available_by false now
available_from (Some method) now = available_by (is_at_once method.method) now

-- what the platform takes for itself of an amount that is captured of a charge: what is named, and no more than is captured
abbrev pub fee_taken : Charge → ℕ → ℕ
fee_taken charge amount = min (unwrap_or charge.application_fee_amount 0) amount

-- ---- the rows

-- a transaction of what is captured now of a charge: all that a split moves is available at one moment
abbrev pub split_txn : Charge → TxnType → ℤ → ℕ → TxnSource → ℕ → Txn
split_txn charge sort amount fee source now = record {
  sort = sort;
  amount = amount;
  fee = pos fee;
  currency = charge.currency;
  available_on = available_from charge.payment_method now;
  source = source;
}

-- the transaction of an amount that is captured now of a charge of an account, of which so much is kept
abbrev pub charge_row : ℕ → ℕ → Charge → ℕ → ℕ → ℕ → NewRow
charge_row account object charge amount kept now = record {
  account = account;
  item = item.Txn (split_txn charge sort.Charge (pos amount) kept (source.Charge object) now);
}

-- the transfer of a number, of an amount of a charge to a destination: its transaction and its payment stand behind it
abbrev pub split_transfer : ℕ → ℕ → ℕ → Charge → ℕ → ℕ → Transfer
split_transfer number destination object charge amount now = record {
  amount = amount;
  amount_reversed = 0;
  currency = charge.currency;
  destination = destination;
  payment = number + 2;
  source = Some object;
  transaction = number + 1;
  available_on = available_from charge.payment_method now;
  description = None;
  metadata = [];
  transfer_group = charge.transfer_group;
}

-- the application fee of a place, of a charge, that is taken from an account: its transaction stands behind it
abbrev pub split_fee : ℕ → ℕ → ℕ → Charge → ℕ → ℕ → Fee
split_fee place account object charge taken now = record {
  account = account;
  charge = object;
  amount = taken;
  amount_refunded = 0;
  currency = charge.currency;
  transaction = place + 1;
  available_on = available_from charge.payment_method now;
}

-- an application fee, and the transaction that gives it to the platform; nothing where nothing is taken
abbrev pub fee_rows : ℕ → ℕ → ℕ → Charge → ℕ → ℕ → List NewRow
fee_rows place account object charge taken now =
    if taken == 0 then [] else
    record { account = platform; item = item.Fee (split_fee place account object charge taken now) } ∷
    record { account = platform; item = item.Txn (split_txn charge sort.ApplicationFee (pos taken) 0 (source.Fee place) now) } ∷ []

-- ---- the three kinds, each of an amount that is captured now of the charge of a number, whose first row is that of a place

-- of a charge that the platform makes for itself: its transaction, less the processing fee
abbrev pub plain_split : ℕ → ℕ → Charge → ℕ → ℕ → List NewRow
plain_split account object charge amount now =
    charge_row account object charge amount (fee_of charge.currency amount) now ∷ []

-- of a charge of a connected account: its transaction, less the processing fee and the platform's, and the platform's fee
abbrev pub direct_split : ℕ → ℕ → ℕ → Charge → ℕ → ℕ → List NewRow
direct_split place account object charge amount now =
    charge_row account object charge amount (fee_of charge.currency amount + fee_taken charge amount) now ∷
    fee_rows (place + 1) account object charge (fee_taken charge amount) now

-- of a charge with a destination: its transaction, less the processing fee; the transfer of all of it; the payment, less the
-- platform's fee; and that fee
abbrev pub destination_split : ℕ → ℕ → ℕ → ℕ → Charge → ℕ → ℕ → List NewRow
destination_split place destination account object charge amount now =
    charge_row account object charge amount (fee_of charge.currency amount) now ∷
    (transfer_rows (place + 1) (split_transfer (place + 1) destination object charge amount now) (fee_taken charge amount) ++
    fee_rows (place + 5) destination object charge (fee_taken charge amount) now)

-- the kind of a split, by the destination of the charge, and by its account
abbrev pub split_to : Option ℕ → ℕ → ℕ → ℕ → Charge → ℕ → ℕ → List NewRow
split_to None place account object charge amount now =
    if account == platform then plain_split account object charge amount now
    else direct_split place account object charge amount now
split_to (Some destination) place account object charge amount now =
    destination_split place destination account object charge amount now

-- the split of an amount that is captured now of the charge of a number and an account
abbrev pub split_rows : ℕ → ℕ → ℕ → Charge → ℕ → ℕ → List NewRow
split_rows place account object charge amount now = split_to charge.destination place account object charge amount now

-- ---- what the charge keeps of it

-- the number of the application fee that stands at a place; none where nothing is taken
abbrev pub fee_at : ℕ → ℕ → Option ℕ
fee_at place taken = if taken == 0 then None else Some place

-- the number of the application fee in a split whose first row is that of a place
abbrev pub fee_in : Option ℕ → ℕ → ℕ → ℕ → Option ℕ
fee_in None place account taken = if account == platform then None else fee_at (place + 1) taken
fee_in (Some destination) place account taken = fee_at (place + 5) taken

-- the number of the transfer in such a split: its second row, where the charge has a destination
abbrev pub transfer_in : Option ℕ → ℕ → Option ℕ
transfer_in destination place = option_map (λ (account : ℕ). place + 1) destination

-- what a charge of an account keeps of its capture: the numbers of its transaction, which is the first row of the split, its
-- transfer and its fee
abbrev pub split_capture : ℕ → ℕ → Charge → ℕ → ℕ → Capture
split_capture place account charge amount now = record {
  transaction = place;
  available_on = available_from charge.payment_method now;
  transfer = transfer_in charge.destination place;
  fee = fee_in charge.destination place account (fee_taken charge amount);
}
