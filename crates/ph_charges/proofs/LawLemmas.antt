-- Nothing is lost in a split.
use Rattle.std.proofs.Common.{◌≡◌, ℕ, ℤ, pos, ◌-ℤ◌, ◌+ℤ◌, ◌+◌, Bool, true, false, cond, [], refl, arith}
use Rattle.std.specs.Prelude.{◌==◌, neg_ℤ}
use Rattle.std.proofs.lemmas.Bool.{eqb-true}
use Rattle.std.proofs.lemmas.Int.{ints}
use Rattle.ph_money.specs.Fees.{fee_of}
use Rattle.ph_items.specs.declared.charges.Charge.{Charge}
use Rattle.ph_charges.specs.Laws.{SplitsAreWhole, net_of_split}
use Rattle.ph_charges.specs.Splits.{fee_rows, fee_taken}
use Rattle.ph_charges.proofs.SplitLemmas.{by_kind, fee_pair}

-- what an application fee moves is what is taken
fee_whole : (place account object : ℕ) (charge : Charge) (taken now : ℕ)
    → net_of_split (fee_rows place account object charge taken now) ≡ pos taken
fee_whole place account object charge taken now = at (taken == 0) refl
  where
    at : (b : Bool) → (taken == 0) ≡ b → net_of_split (cond b [] (fee_pair place account object charge taken now)) ≡ pos taken
    at true e = let none : taken ≡ 0 = eqb-true taken 0 e in omega (arith, ints)
    at false e = omega (arith, ints)

-- what is captured, less the processing fee, whatever is handed on of it
plain_total : (c k : ℕ) → (pos c -ℤ pos k) +ℤ pos 0 ≡ pos c -ℤ pos k
plain_total c k = omega (arith, ints)

direct_total : (c k f : ℕ) (rest : ℤ) → rest ≡ pos f → (pos c -ℤ pos (k + f)) +ℤ rest ≡ pos c -ℤ pos k
direct_total c k f rest e = omega (arith, ints)

destination_total : (c k f : ℕ) (rest : ℤ) → rest ≡ pos f
    → (pos c -ℤ pos k) +ℤ ((neg_ℤ (pos c) -ℤ pos 0) +ℤ ((pos c -ℤ pos f) +ℤ rest)) ≡ pos c -ℤ pos k
destination_total c k f rest e = omega (arith, ints)

pub splits_whole : SplitsAreWhole
splits_whole place account object charge amount now =
    by_kind (λ split. net_of_split split ≡ pos amount -ℤ pos (fee_of charge.currency amount)) place account object charge amount now
    (plain_total amount (fee_of charge.currency amount))
    (direct_total amount (fee_of charge.currency amount) (fee_taken charge amount)
    (net_of_split (fee_rows (place + 1) account object charge (fee_taken charge amount) now))
    (fee_whole (place + 1) account object charge (fee_taken charge amount) now))
    (λ destination. destination_total amount (fee_of charge.currency amount) (fee_taken charge amount)
    (net_of_split (fee_rows (place + 5) destination object charge (fee_taken charge amount) now))
    (fee_whole (place + 5) destination object charge (fee_taken charge amount) now))
