-- The currencies: their codes, and the terms of payments in them.
use Rattle.std.specs.Prelude.{ℕ, List, [], ◌∷◌, Option, codes, find}
use Rattle.std.specs.Str.{str_eq_ignore_ascii_case}
use Rattle.ph_money.specs.declared.currencies.Currency.{Currency}
use Rattle.ph_money.specs.declared.currencies.Currency.TheVariants.{Eur, Gbp, Jpy, Usd}
use Rattle.ph_money.specs.declared.currencies.Terms.{Terms}

-- the lower-case code of a currency
abbrev pub code_of : Currency → List ℕ
code_of Eur = codes "eur"
code_of Gbp = codes "gbp"
code_of Jpy = codes "jpy"
code_of Usd = codes "usd"

-- every currency
abbrev pub currencies : List Currency
currencies = Eur ∷ Gbp ∷ Jpy ∷ Usd ∷ []

-- the currency whose code a text is, ASCII case ignored
abbrev pub currency_of : List ℕ → Option Currency
currency_of text = find (λ currency. str_eq_ignore_ascii_case text (code_of currency)) currencies

-- the least amount of a payment, the fee's rate in hundredths of a percent, and the fee's fixed part
abbrev pub terms_of : Currency → Terms
terms_of Eur = record { minimum = 50; rate = 150; fixed = 25 }
terms_of Gbp = record { minimum = 30; rate = 150; fixed = 20 }
terms_of Jpy = record { minimum = 50; rate = 360; fixed = 0 }
terms_of Usd = record { minimum = 50; rate = 290; fixed = 30 }
