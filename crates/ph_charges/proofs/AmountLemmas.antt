-- Objects to whose amounts rows have added nothing.
use Rattle.std.proofs.Common.{◌≡◌, ℕ, ◌<◌, false, pos, List, ◌++◌, length, ◌∙◌}
use Rattle.std.specs.Prelude.{◌||◌}
use Rattle.std.specs.List.{list_any}
use Rattle.ph_rows.specs.declared.rows.Row.{Row}
use Rattle.ph_rows.specs.Views.{ViewState}
use Rattle.ph_facts.specs.Amounts.{captured, captured_of, given_back, given_back_of, moved, refunded, refunded_of, reversed, reversed_of, transferred, transferred_of}
use Rattle.ph_facts.specs.Sound.{IsSound}
use Rattle.ph_facts.proofs.AmountLemmas.{captured_named, captured_sum, given_back_named, given_back_sum, refunded_named, refunded_sum, reversed_named, reversed_sum, transferred_named, transferred_sum}
use Rattle.ph_facts.proofs.LawLemmas.{charge_untouched, first_of_none, is_of_amounts, is_of_charges, is_of_payments, is_of_returns, second_of_none}
use Rattle.ph_facts.proofs.TallyLemmas.{speaks, sum_beside, sum_later, touch_none, touches}

-- nothing was captured, refunded or transferred of a charge in rows
pub record IsFree (n : ℕ) (rows : List Row) : Type 0 where
  pub captured : captured_of n rows ≡ pos 0
  pub refunded : refunded_of n rows ≡ 0
  pub transferred : transferred_of n rows ≡ 0

-- nothing was added to any amount of an object
pub record IsUnused (n : ℕ) (rows : List Row) : Type 0 where
  pub charge : IsFree n rows
  pub reversed : reversed_of n rows ≡ 0
  pub given_back : given_back_of n rows ≡ 0

-- nor in more rows that have to do with no amounts
pub free_with : (n : ℕ) (rows more : List Row) → IsFree n rows → list_any is_of_amounts more ≡ false → IsFree n (rows ++ more)
free_with n rows more free none =
    let apart = charge_untouched n more none in
    let behind = second_of_none (touches captured n) (λ row. touches refunded n row || touches transferred n row) more apart in
    record {
      captured = sum_beside captured n rows more captured_sum
          (first_of_none (touches captured n) (λ row. touches refunded n row || touches transferred n row) more apart) ∙ free.captured;
      refunded = sum_beside refunded n rows more refunded_sum (first_of_none (touches refunded n) (touches transferred n) more behind) ∙ free.refunded;
      transferred = sum_beside transferred n rows more transferred_sum (second_of_none (touches refunded n) (touches transferred n) more behind) ∙ free.transferred;
    }

pub unused_with : (n : ℕ) (rows more : List Row) → IsUnused n rows → list_any is_of_amounts more ≡ false → IsUnused n (rows ++ more)
unused_with n rows more unused none =
    let payments = first_of_none is_of_payments (speaks moved) more none in
    let returns = second_of_none is_of_charges is_of_returns more payments in
    record {
      charge = free_with n rows more unused.charge none;
      reversed = sum_beside reversed n rows more reversed_sum
          (touch_none reversed n more (first_of_none (speaks reversed) (speaks given_back) more returns)) ∙ unused.reversed;
      given_back = sum_beside given_back n rows more given_back_sum
          (touch_none given_back n more (second_of_none (speaks reversed) (speaks given_back) more returns)) ∙ unused.given_back;
    }

-- nothing was given back of it with rows that have to do with no application fees
pub given_back_beside : (n : ℕ) (rows more : List Row) → IsUnused n rows → list_any (speaks given_back) more ≡ false
    → given_back_of n (rows ++ more) ≡ 0
given_back_beside n rows more unused none =
    sum_beside given_back n rows more given_back_sum (touch_none given_back n more none) ∙ unused.given_back

-- so it is with what is made after a sound view
pub new_is_unused : (state : ViewState) (number : ℕ) → IsSound state → length state.rows < number → IsUnused number state.rows
new_is_unused state number sound later = record {
  charge = record {
    captured = sum_later captured state number captured_sum captured_named sound.order later;
    refunded = sum_later refunded state number refunded_sum refunded_named sound.order later;
    transferred = sum_later transferred state number transferred_sum transferred_named sound.order later;
  };
  reversed = sum_later reversed state number reversed_sum reversed_named sound.order later;
  given_back = sum_later given_back state number given_back_sum given_back_named sound.order later;
}

-- and with rows more that have to do with no amounts
pub later_is_unused : (state : ViewState) (front : List Row) (number : ℕ) → IsSound state → length state.rows < number
    → list_any is_of_amounts front ≡ false → IsUnused number (state.rows ++ front)
later_is_unused state front number sound later none =
    unused_with number state.rows front (new_is_unused state number sound later) none
