-- What a transaction moves on the balance of its account.
use Rattle.std.specs.Prelude.{ℕ, Bool, nat_le, nat_lt, if◌then◌else◌, Option, None, Some}
use Rattle.ph_money.specs.declared.currencies.Currency.{Currency}
use Rattle.ph_money.specs.declared.currencies.Currency.TheVariants.{Eur, Gbp, Jpy, Usd}
use Rattle.ph_items.specs.declared.items.Item.{Item}
use Rattle.ph_items.specs.declared.items.Item.TheVariants as item
use Rattle.ph_items.specs.declared.movements.Movement.{Movement}
use Rattle.ph_items.specs.declared.transactions.Txn.{Txn}
use Rattle.ph_items.specs.Transactions.{net_amount}

-- what a transaction moves
abbrev pub movement_by : Txn → Movement
movement_by txn = record { currency = txn.currency; net = net_amount txn; available_on = txn.available_on }

-- what an item moves on its account's balance: a transaction its amount less its fee, any other item nothing
abbrev pub movement_of : Item → Option Movement
movement_of (item.Account account) = None
movement_of (item.Intent intent) = None
movement_of (item.Attempt attempt) = None
movement_of (item.Charge charge) = None
movement_of (item.Refund refund) = None
movement_of (item.Dispute dispute) = None
movement_of (item.Transfer transfer) = None
movement_of (item.Reversal reversal) = None
movement_of (item.Fee fee) = None
movement_of (item.FeeRefund fee_refund) = None
movement_of (item.Txn txn) = Some (movement_by txn)
movement_of (item.Event event) = None

-- the place of a currency in the list of currencies
abbrev pub currency_number : Currency → ℕ
currency_number Eur = 0
currency_number Gbp = 1
currency_number Jpy = 2
currency_number Usd = 3

-- whether a movement counts at a time: for the available balance, or (false) for the pending one
abbrev pub counts : Bool → ℕ → Movement → Bool
counts available time movement =
    if available then nat_le movement.available_on time else nat_lt time movement.available_on
