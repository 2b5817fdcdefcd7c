-- The laws of money, of sound rows.
use Rattle.std.proofs.Common.{◌≡◌, ℕ, ◌+◌, ◌≤◌, ◌∷◌, Option, None, Some, Bool, true, false, cond, nat_le, nat_lt, List, [], refl, sym, ap, ◌∙◌, subst, arith, ℤ, pos, ◌+ℤ◌, ◌≤ℤ◌}
use Rattle.std.specs.List.{filter}
use Rattle.std.proofs.lemmas.Bool.Decides.{nat_tests}
use Rattle.std.proofs.lemmas.Int.{ints}
use Rattle.std.specs.Prelude.{option_and_then}
use Rattle.ph_items.specs.declared.charges.Charge.{Charge}
use Rattle.ph_items.specs.declared.disputes.DisputeStatus.{DisputeStatus}
use Rattle.ph_items.specs.declared.disputes.DisputeStatus.TheVariants as dispute_status
use Rattle.ph_items.specs.declared.fees.Fee.{Fee}
use Rattle.ph_items.specs.declared.intents.Intent.{Intent}
use Rattle.ph_items.specs.declared.items.Item.{Item}
use Rattle.ph_items.specs.declared.items.Item.TheVariants as item
use Rattle.ph_items.specs.Items.{charge_in}
use Rattle.ph_items.specs.declared.movements.Movement.{Movement}
use Rattle.ph_items.specs.declared.transfers.Transfer.{Transfer}
use Rattle.ph_rows.specs.declared.rows.Row.{Row}
use Rattle.ph_rows.specs.Rows.{latest_of}
use Rattle.ph_items.specs.Movements.{counts}
use Rattle.ph_rows.specs.Balances.{movements_of, net_of}
use Rattle.ph_facts.specs.Order.{AmountsFit, IsWithin}
use Rattle.ph_facts.specs.Sound.{IsSound}
use Rattle.ph_facts.specs.Amounts.{Move, captured, captured_of, given_back, given_back_of, moved, moves_in, refunded, refunded_of, reversed, reversed_of, transferred, transferred_of}
use Rattle.ph_facts.proofs.OrderLemmas.{amounts_stand}
use Rattle.ph_facts.proofs.PresentLemmas.{charge_found}
use Rattle.ph_facts.proofs.SoundLemmas.{latest_of_sound}
use Rattle.ph_facts.specs.Held.{Holds, IsHeldBy, charge_of}
use Rattle.ph_rows.specs.Views.{ViewState}
use Rattle.ph_book.specs.Laws.{AmountsAreSums, BalancesAreSums, IsLeftOf, DisputesMoveOnce, FeeRefundsFit, RefundsFit, ReversalsFit, TransfersFit, amount_of, taken_in}

-- what counts at a time and what doesn't are all
net_parts : (time : ℕ) (movements : List Movement)
    → net_of (filter (counts true time) movements) +ℤ net_of (filter (counts false time) movements) ≡ net_of movements
net_parts time [] = refl
net_parts time (movement ∷ movements) = at (nat_le movement.available_on time) (nat_lt time movement.available_on) (apart movement.available_on) (net_parts time movements)
  where
    apart : (moment : ℕ) → nat_lt time moment ≡ cond (nat_le moment time) false true
    apart moment = split (nat_le moment time) refl
      where
        split : (b : Bool) → nat_le moment time ≡ b → nat_lt time moment ≡ cond b false true
        split true e = grind (arith, nat_tests)
        split false e = grind (arith, nat_tests)

    at : (by_now later : Bool) → later ≡ cond by_now false true
        → net_of (filter (counts true time) movements) +ℤ net_of (filter (counts false time) movements) ≡ net_of movements
        → net_of (cond by_now (movement ∷ filter (counts true time) movements) (filter (counts true time) movements))
        +ℤ net_of (cond later (movement ∷ filter (counts false time) movements) (filter (counts false time) movements)) ≡ net_of (movement ∷ movements)
    at true later e rest = rw e (omega (arith, ints))
    at false later e rest = rw e (omega (arith, ints))

pub balances_sum : (rows : List Row) → BalancesAreSums rows
balances_sum rows account currency time = net_parts time (movements_of account currency rows)

-- what is held for a payment intent is what is left of its charge
held_left : (state : ViewState) → IsSound state → (object : ℕ) (intent : Intent) (latest : Option ℕ) → intent.latest_charge ≡ latest
    → IsHeldBy object intent (option_and_then (charge_of state.rows) latest) → IsLeftOf object state.rows intent
held_left state sound object intent None same held = absurd held
held_left state sound object intent (Some number) same held = at (charge_of state.rows number) refl held
  where
    in_row : (charge : Charge) → charge_of state.rows number ≡ Some charge → Holds object intent charge → (found : Option Row)
        → latest_of number state.rows ≡ found → option_and_then (λ (r : Row). charge_in r.item) found ≡ Some charge
        → IsLeftOf object state.rows intent
    in_row charge known holds None latest e = absurd (cc)
    in_row charge known holds (Some row) latest e =
        let is = (charge_found state number row charge sound latest e).0.is in
        let sum : pos charge.amount_captured ≡ captured_of number state.rows =
        sound.laws.captured number row (pos charge.amount_captured) latest (ap captured.said is) in
        let left : intent.amount_capturable + charge.amount_captured ≡ charge.amount = holds.amount in
        record {
          number = number;
          charge = charge;
          latest = same;
          version = known;
          pays = holds.sort;
          left = omega (arith, ints);
        }

    at : (found : Option Charge) → charge_of state.rows number ≡ found → IsHeldBy object intent found → IsLeftOf object state.rows intent
    at None e h = absurd h
    at (Some charge) e h = in_row charge e h (latest_of number state.rows) refl e

pub sound_disputes : (state : ViewState) → IsSound state → DisputesMoveOnce state.rows
sound_disputes state sound object row dispute found is =
    sym (sound.laws.moved object row (moves_in dispute.status dispute.amount) found (ap moved.said is))

-- the transactions of a dispute take together what it has taken
moves_take : (found : DisputeStatus) (amount : ℕ) → amount_of (moves_in found amount) +ℤ taken_in found amount ≡ pos 0
moves_take dispute_status.NeedsResponse amount = omega (arith, ints)
moves_take dispute_status.UnderReview amount = omega (arith, ints)
moves_take dispute_status.Won amount = omega (arith, ints)
moves_take dispute_status.Lost amount = omega (arith, ints)

-- the present versions of charges, transfers, application fees, payment intents and disputes say their amounts
pub sound_amounts : (state : ViewState) → IsSound state → AmountsAreSums state.rows
sound_amounts state sound = record {
  captured = λ object row charge found is. sound.laws.captured object row (pos charge.amount_captured) found (ap captured.said is);
  refunded = λ object row charge found is. sound.laws.refunded object row charge.amount_refunded found (ap refunded.said is);
  transferred = λ object row charge found is. sound.laws.transferred object row charge.amount_transferred found (ap transferred.said is);
  reversed = λ object row transfer found is. sound.laws.reversed object row transfer.amount_reversed found (ap reversed.said is);
  given_back = λ object row fee found is. sound.laws.given_back object row fee.amount_refunded found (ap given_back.said is);
  capturable = λ object row intent found is waits. held_left state sound object intent intent.latest_charge refl (sound.laws.held object row intent found is waits);
  disputed = λ object row dispute found is. ap (λ (moves : List Move). amount_of moves +ℤ taken_in dispute.status dispute.amount)
      (sound_disputes state sound object row dispute found is) ∙ moves_take dispute.status dispute.amount;
}

-- what was captured of a charge is more than a sum that is within its captured amount
within_captured : (rows : List Row) (object sum amount captured_amount : ℕ) → pos captured_amount ≡ captured_of object rows
    → amount ≡ sum → amount ≤ captured_amount → pos sum ≤ℤ captured_of object rows
within_captured rows object sum amount captured_amount captures sums within =
    subst (λ (z : ℤ). pos sum ≤ℤ z) captures (subst (λ n. pos n ≤ℤ pos captured_amount) sums (least within))
  where
    least : {a b : ℕ} → a ≤ b → pos a ≤ℤ pos b
    least h = omega (arith, ints)

-- the amounts of a present version fit one another
fit_in : (state : ViewState) (object : ℕ) (row : Row) (content : Item) → IsSound state → latest_of object state.rows ≡ Some row
    → row.item ≡ content → AmountsFit content
fit_in state object row content sound found is =
    amounts_stand state row content sound.order (latest_of_sound state object row sound found).0 is

pub sound_refunds : (state : ViewState) → IsSound state → RefundsFit state.rows
sound_refunds state sound object row charge found is =
    let sums = sound_amounts state sound in
    let fits : IsWithin charge = fit_in state object row (item.Charge charge) sound found is in
    within_captured state.rows object (refunded_of object state.rows) charge.amount_refunded charge.amount_captured
    (sums.captured object row charge found is) (sums.refunded object row charge found is) fits.refunded

pub sound_transfers : (state : ViewState) → IsSound state → TransfersFit state.rows
sound_transfers state sound object row charge found is =
    let sums = sound_amounts state sound in
    let fits : IsWithin charge = fit_in state object row (item.Charge charge) sound found is in
    within_captured state.rows object (transferred_of object state.rows) charge.amount_transferred charge.amount_captured
    (sums.captured object row charge found is) (sums.transferred object row charge found is) fits.transferred

pub sound_reversals : (state : ViewState) → IsSound state → ReversalsFit state.rows
sound_reversals state sound object row transfer found is =
    let sums = sound_amounts state sound in
    subst (λ n. n ≤ transfer.amount) (sums.reversed object row transfer found is)
    (fit_in state object row (item.Transfer transfer) sound found is)

pub sound_fee_refunds : (state : ViewState) → IsSound state → FeeRefundsFit state.rows
sound_fee_refunds state sound object row fee found is =
    let sums = sound_amounts state sound in
    subst (λ n. n ≤ fee.amount) (sums.given_back object row fee found is)
    (fit_in state object row (item.Fee fee) sound found is)
