-- The laws, as rows are added: what another kind of row leaves.
use Rattle.std.specs.Prelude.{◌||◌}
use Rattle.std.proofs.Common.{◌≡◌, ℕ, Bool, false, List, [], ◌∷◌, ◌++◌, refl, subst}
use Rattle.std.specs.List.{list_any}
use Rattle.std.proofs.lemmas.List.{append_assoc}
use Rattle.ph_rows.specs.declared.rows.Row.{Row}
use Rattle.ph_rows.specs.Views.{ViewState}
use Rattle.ph_rows.proofs.RowLemmas.{both_fail, first_fails, second_fails}
use Rattle.ph_facts.specs.Amounts.{captured, given_back, moved, refunded, reversed, transferred}
use Rattle.ph_facts.specs.Held.{AreHeld}
use Rattle.ph_facts.specs.Order.{IsInOrder}
use Rattle.ph_facts.specs.Sound.{KeepLaws}
use Rattle.ph_facts.specs.Tallies.{SaysSum, SaySums}
use Rattle.ph_facts.proofs.AmountLemmas.{captured_sum, given_back_sum, moved_sum, refunded_sum, reversed_sum, transferred_sum}
use Rattle.ph_facts.proofs.HeldLemmas.{AllBeside, held_beside}
use Rattle.ph_facts.proofs.SpokenLemmas.{Spoken, spoken_none, spoken_one, sums_spoken}
use Rattle.ph_facts.proofs.TallyLemmas.{speaks, touch_none, touches}

-- a row has to do with the amounts of charges
abbrev pub is_of_charges : Row → Bool
is_of_charges row = speaks captured row || (speaks refunded row || speaks transferred row)

-- or with those of transfers and application fees
abbrev pub is_of_returns : Row → Bool
is_of_returns row = speaks reversed row || speaks given_back row

-- or with no disputes'
abbrev pub is_of_payments : Row → Bool
is_of_payments row = is_of_charges row || is_of_returns row

-- a row has to do with amounts: with these, or with those of disputes
abbrev pub is_of_amounts : Row → Bool
is_of_amounts row = is_of_payments row || speaks moved row

-- a test that passes for one of two reasons passes for none of some rows, and so neither of the two does
pub first_of_none : (one other : Row → Bool) (rows : List Row) → list_any (λ row. one row || other row) rows ≡ false → list_any one rows ≡ false
first_of_none one other [] none = refl
first_of_none one other (row ∷ rows) none =
    let here = first_fails (one row || other row) (list_any (λ r. one r || other r) rows) none in
    both_fail (one row) (list_any one rows) (first_fails (one row) (other row) here)
    (first_of_none one other rows (second_fails (one row || other row) (list_any (λ r. one r || other r) rows) none))

pub second_of_none : (one other : Row → Bool) (rows : List Row) → list_any (λ row. one row || other row) rows ≡ false → list_any other rows ≡ false
second_of_none one other [] none = refl
second_of_none one other (row ∷ rows) none =
    let here = first_fails (one row || other row) (list_any (λ r. one r || other r) rows) none in
    both_fail (other row) (list_any other rows) (second_fails (one row) (other row) here)
    (second_of_none one other rows (second_fails (one row || other row) (list_any (λ r. one r || other r) rows) none))

-- and where neither passes, none does for one of the two
pub both_of_none : (one other : Row → Bool) (rows : List Row) → list_any one rows ≡ false → list_any other rows ≡ false
    → list_any (λ row. one row || other row) rows ≡ false
both_of_none one other [] first second = refl
both_of_none one other (row ∷ rows) first second =
    both_fail (one row || other row) (list_any (λ r. one r || other r) rows)
    (both_fail (one row) (other row) (first_fails (one row) (list_any one rows) first) (first_fails (other row) (list_any other rows) second))
    (both_of_none one other rows (second_fails (one row) (list_any one rows) first) (second_fails (other row) (list_any other rows) second))

-- ---- the laws on amounts, without what is held

pub record KeepAmounts (rows : List Row) : Type 0 where
  pub captured : SaySums captured rows
  pub refunded : SaySums refunded rows
  pub transferred : SaySums transferred rows
  pub reversed : SaySums reversed rows
  pub given_back : SaySums given_back rows
  pub moved : SaySums moved rows

pub amounts_kept : (rows : List Row) → KeepLaws rows → KeepAmounts rows
amounts_kept rows laws = record {
  captured = laws.captured;
  refunded = laws.refunded;
  transferred = laws.transferred;
  reversed = laws.reversed;
  given_back = laws.given_back;
  moved = laws.moved;
}

pub laws_by : (rows : List Row) → KeepAmounts rows → AreHeld rows → KeepLaws rows
laws_by rows amounts held = record {
  captured = amounts.captured;
  refunded = amounts.refunded;
  transferred = amounts.transferred;
  reversed = amounts.reversed;
  given_back = amounts.given_back;
  moved = amounts.moved;
  held = held;
}

-- with some rows more they are kept still
abbrev pub Kept : List Row → List Row → Type 0
Kept rows more = KeepAmounts rows → KeepAmounts (rows ++ more)

-- so they are with some and others
pub kept_both : (rows first second : List Row) → Kept rows first → Kept (rows ++ first) second → Kept rows (first ++ second)
kept_both rows first second one two amounts =
    subst (λ (all : List Row). KeepAmounts all) (append_assoc rows first second) (two (one amounts))

-- rows behind others speak of the amounts of charges
pub record ChargesSpoken (rows more : List Row) : Type 0 where
  pub captured : Spoken captured rows more
  pub refunded : Spoken refunded rows more
  pub transferred : Spoken transferred rows more

-- they speak of all amounts
pub record AreSpoken (rows more : List Row) : Type 0 where
  pub charges : ChargesSpoken rows more
  pub reversed : Spoken reversed rows more
  pub given_back : Spoken given_back rows more
  pub moved : Spoken moved rows more

-- the laws on amounts are kept with rows that speak of them
pub kept_spoken : (rows more : List Row) → AreSpoken rows more → Kept rows more
kept_spoken rows more spoken amounts = record {
  captured = sums_spoken captured rows more captured_sum spoken.charges.captured amounts.captured;
  refunded = sums_spoken refunded rows more refunded_sum spoken.charges.refunded amounts.refunded;
  transferred = sums_spoken transferred rows more transferred_sum spoken.charges.transferred amounts.transferred;
  reversed = sums_spoken reversed rows more reversed_sum spoken.reversed amounts.reversed;
  given_back = sums_spoken given_back rows more given_back_sum spoken.given_back amounts.given_back;
  moved = sums_spoken moved rows more moved_sum spoken.moved amounts.moved;
}

-- and so are all, where what is held is
pub laws_spoken : (rows more : List Row) → KeepLaws rows → AreSpoken rows more → AreHeld (rows ++ more) → KeepLaws (rows ++ more)
laws_spoken rows more laws spoken held = laws_by (rows ++ more) (kept_spoken rows more spoken (amounts_kept rows laws)) held

-- rows that have to do with no charges
pub charges_none : (rows more : List Row) → list_any is_of_charges more ≡ false → ChargesSpoken rows more
charges_none rows more none =
    let others = second_of_none (speaks captured) (λ row. speaks refunded row || speaks transferred row) more none in
    record {
      captured = spoken_none captured rows more
          (first_of_none (speaks captured) (λ row. speaks refunded row || speaks transferred row) more none);
      refunded = spoken_none refunded rows more (first_of_none (speaks refunded) (speaks transferred) more others);
      transferred = spoken_none transferred rows more (second_of_none (speaks refunded) (speaks transferred) more others);
    }

-- with no amounts but those of disputes
pub payments_none : (rows more : List Row) → list_any is_of_payments more ≡ false → Spoken moved rows more → AreSpoken rows more
payments_none rows more none moves =
    let returns = second_of_none is_of_charges is_of_returns more none in
    record {
      charges = charges_none rows more (first_of_none is_of_charges is_of_returns more none);
      reversed = spoken_none reversed rows more (first_of_none (speaks reversed) (speaks given_back) more returns);
      given_back = spoken_none given_back rows more (second_of_none (speaks reversed) (speaks given_back) more returns);
      moved = moves;
    }

-- with none at all
pub amounts_none : (rows more : List Row) → list_any is_of_amounts more ≡ false → AreSpoken rows more
amounts_none rows more none =
    payments_none rows more (first_of_none is_of_payments (speaks moved) more none)
    (spoken_none moved rows more (second_of_none is_of_payments (speaks moved) more none))

pub kept_none : (rows more : List Row) → list_any is_of_amounts more ≡ false → Kept rows more
kept_none rows more none = kept_spoken rows more (amounts_none rows more none)

-- rows that have to do with no amounts leave the laws on amounts
pub laws_held : (rows more : List Row) → list_any is_of_amounts more ≡ false → KeepLaws rows → AreHeld (rows ++ more)
    → KeepLaws (rows ++ more)
laws_held rows more none laws held = laws_spoken rows more laws (amounts_none rows more none) held

-- rows that have to do with no amounts and leave what is held leave the laws
pub laws_beside : (state : ViewState) (more : List Row) → IsInOrder state → IsInOrder (record state { rows = state.rows ++ more })
    → list_any is_of_amounts more ≡ false → AllBeside state.rows more → KeepLaws state.rows → KeepLaws (state.rows ++ more)
laws_beside state more before order none beside laws =
    laws_held state.rows more none laws (held_beside state more before order beside laws.held)

-- ---- the amounts of one charge

-- a row has to do with the amounts of a charge
abbrev pub touches_charge : ℕ → Row → Bool
touches_charge charge row = touches captured charge row || (touches refunded charge row || touches transferred charge row)

-- rows that have to do with no amounts have nothing to do with those of a charge
pub charge_untouched : (charge : ℕ) (more : List Row) → list_any is_of_amounts more ≡ false
    → list_any (touches_charge charge) more ≡ false
charge_untouched charge more none =
    let payments = first_of_none is_of_payments (speaks moved) more none in
    let charges = first_of_none is_of_charges is_of_returns more payments in
    let others = second_of_none (speaks captured) (λ row. speaks refunded row || speaks transferred row) more charges in
    both_of_none (touches captured charge) (λ row. touches refunded charge row || touches transferred charge row) more
    (touch_none captured charge more (first_of_none (speaks captured) (λ row. speaks refunded row || speaks transferred row) more charges))
    (both_of_none (touches refunded charge) (touches transferred charge) more
    (touch_none refunded charge more (first_of_none (speaks refunded) (speaks transferred) more others))
    (touch_none transferred charge more (second_of_none (speaks refunded) (speaks transferred) more others)))

-- the present version of a charge says its amounts
pub record SaysSums (charge : ℕ) (rows : List Row) : Type 0 where
  pub captured : SaysSum captured charge rows
  pub refunded : SaysSum refunded charge rows
  pub transferred : SaysSum transferred charge rows

-- rows that have to do with one charge alone, which says its amounts
pub charges_one : (rows more : List Row) (charge : ℕ) → ((other : ℕ) → (other ≡ charge → ⊥) → list_any (touches_charge other) more ≡ false)
    → SaysSums charge (rows ++ more) → ChargesSpoken rows more
charges_one rows more charge apart says = record {
  captured = spoken_one captured rows more charge
      (λ other differs. first_of_none (touches captured other) (λ row. touches refunded other row || touches transferred other row) more (apart other differs))
      says.captured;
  refunded = spoken_one refunded rows more charge
      (λ other differs. first_of_none (touches refunded other) (touches transferred other) more (behind other (apart other differs)))
      says.refunded;
  transferred = spoken_one transferred rows more charge
      (λ other differs. second_of_none (touches refunded other) (touches transferred other) more (behind other (apart other differs)))
      says.transferred;
}
  where
    behind : (other : ℕ) → list_any (touches_charge other) more ≡ false
        → list_any (λ row. touches refunded other row || touches transferred other row) more ≡ false
    behind other none =
        second_of_none (touches captured other) (λ row. touches refunded other row || touches transferred other row) more none
