-- The document of an account's balance.
use Rattle.std.specs.Prelude.{ℕ, Bool, true, false, ◌==◌, ◌&&◌, ℤ, List, [], ◌∷◌, map, Option, None, Some, codes}
use Rattle.std.specs.List.{filter, list_any}
use Rattle.ph_money.specs.declared.currencies.Currency.{Currency}
use Rattle.ph_money.specs.declared.currencies.Currency.TheVariants.{Usd}
use Rattle.ph_money.specs.Currencies.{code_of, currencies}
use Rattle.ph_rows.specs.declared.rows.Row.{Row}
use Rattle.ph_items.specs.declared.movements.Movement.{Movement}
use Rattle.ph_items.specs.Movements.{movement_of, currency_number}
use Rattle.ph_rows.specs.Balances.{balance_of}
use Rattle.ph_json.specs.declared.doc.Doc.{Doc}
use Rattle.ph_json.specs.declared.doc.Doc.TheVariants as doc
use Rattle.ph_json.specs.declared.doc.Doc.TheVariants.{Number, Text, Truth, Object}

-- something is moved in a currency
abbrev pub is_moved_in : Currency → Option Movement → Bool
is_moved_in currency None = false
is_moved_in currency (Some movement) = currency_number movement.currency == currency_number currency

-- a row is a transaction of an account in a currency
abbrev pub is_txn_of : ℕ → Currency → Row → Bool
is_txn_of account currency row = row.account == account && is_moved_in currency (movement_of row.item)

-- an account has transactions in a currency
abbrev pub has_txns : ℕ → List Row → Currency → Bool
has_txns account rows currency = list_any (is_txn_of account currency) rows

-- these currencies, or usd where there are none
abbrev pub or_usd : List Currency → List Currency
or_usd [] = Usd ∷ []
or_usd (currency ∷ others) = currency ∷ others

-- the currencies of an account's transactions, in the order of their codes, or usd where it has none
abbrev pub currencies_of : ℕ → List Row → List Currency
currencies_of account rows = or_usd (filter (has_txns account rows) currencies)

-- a sum in a currency
unfoldable pub sum_doc : ℤ → Currency → Doc
sum_doc sum currency = Object ((codes "amount", Number sum) ∷ (codes "currency", Text (code_of currency)) ∷ [])

-- the available or (false) the pending balances of an account in currencies, at a time
abbrev pub sum_docs : Bool → ℕ → ℕ → List Row → List Currency → List Doc
sum_docs available account time rows currencies =
    map (λ currency. sum_doc (balance_of available account currency time rows) currency) currencies

-- the document of the balance of an account at a time: a sum in each of its currencies
unfoldable pub balance_doc : ℕ → ℕ → List Row → Doc
balance_doc account time rows = Object (
    (codes "available", doc.List (sum_docs true account time rows (currencies_of account rows)))
    ∷ (codes "livemode", Truth false)
    ∷ (codes "object", Text (codes "balance"))
    ∷ (codes "pending", doc.List (sum_docs false account time rows (currencies_of account rows)))
    ∷ [])
