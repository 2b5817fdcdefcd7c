-- The simulated acquirer meets the rules of a link, and its laws.
use Rattle.std.proofs.Common.{◌≡◌, ℕ, zero, suc, ◌+◌, ◌^◌, ◌<◌, ◌≤◌, ◌==◌, inl, Bool, true, false, ◌&&◌, nat_lt, List, [], ◌∷◌, ◌++◌, length, drop, take, set, get_or, None, Result, Ok, Err, refl, sym, ap, ◌∙◌, arith}
use Rattle.std.proofs.lemmas.Bool.Decides.{nat_tests}
use Rattle.std.proofs.lemmas.List.{at_drop_more, length-append, length-drop, length-take, set_split, take_all, take_at, take_more_set}
use Rattle.ph_base.specs.declared.acquirer.Method.{Method}
use Rattle.ph_base.specs.declared.acquirer.Method.TheVariants as method
use Rattle.ph_items.specs.declared.orders.Order.{Order}
use Rattle.ph_bank.specs.declared.asking.Asked.{Asked}
use Rattle.ph_bank.specs.declared.asking.AskFailed.{AskFailed}
use Rattle.ph_bank.specs.declared.simulated.Remembered.{Remembered}
use Rattle.ph_bank.specs.Laws.{IsAnsweredAlike, drops_oldest, is_oldest}
use Rattle.ph_bank.specs.Links.{AsksOnce}
use Rattle.ph_bank.specs.Patiences.{next_count}
use Rattle.ph_bank.specs.Simulation.{IsPlace, Simulated, after_ask, answer_to, count_of, counted, faults_after, is_remembered, link_of, memory_after}

-- ---- the rules of a link

asks_by : (faults : ℕ) (order : Order) (answer : Result Asked AskFailed) → faults < 2 ^ 64
    → AsksOnce (record { asked = None; decisions = None; faults = faults }) (record { asked = None; decisions = None; faults = faults_after answer faults }) order answer
asks_by faults order (Ok answer) small = record { asked = refl; decided = tt; kept = refl; faults = omega arith }
asks_by faults order (Err e) small = record { asked = inl refl; decisions = refl; rose = omega arith; faults = omega arith }

pub simulation_asks : (simulated : Simulated) (order : Order) → simulated.faults < 2 ^ 64
    → AsksOnce (link_of simulated) (link_of (after_ask simulated order)) order (answer_to simulated order)
simulation_asks simulated order small = asks_by simulated.faults order (answer_to simulated order) small

-- ---- answered as at first

pub answered_alike : (method : Method) → IsAnsweredAlike method
answered_alike method.Visa = record { one_ruling = λ a b r s h k. cc; again = λ a b r le h. h }
answered_alike method.Declined = record { one_ruling = λ a b r s h k. cc; again = λ a b r le h. h }
answered_alike method.NoFunds = record { one_ruling = λ a b r s h k. cc; again = λ a b r le h. h }
answered_alike method.Challenge = record { one_ruling = λ a b r s h k. cc; again = λ a b r le h. h }
answered_alike method.Authenticated = record { one_ruling = λ a b r s h k. cc; again = λ a b r le h. h }
answered_alike method.Dispute = record { one_ruling = λ a b r s h k. cc; again = λ a b r le h. h }
answered_alike method.Bypass = record { one_ruling = λ a b r s h k. cc; again = λ a b r le h. h }
answered_alike (method.Slow n) = record {
  one_ruling = λ a b r s h k. grind (arith, nat_tests);
  again = λ a b r le h. grind (arith, nat_tests);
}
answered_alike method.Lost = record { one_ruling = λ a b r s h k. cc; again = λ a b r le h. cc }

-- ---- the count of a reference that is remembered

-- what holds of a reference before and after
record Stays (memory now : List Remembered) (reference : ℕ) : Type 0 where
  remembered : is_remembered now reference ≡ true
  asks : count_of memory reference ≤ count_of now reference

counted_stays : (memory : List Remembered) (asked reference : ℕ) → count_of memory reference < 2 ^ 64 → is_remembered memory reference ≡ true
    → Stays memory (counted memory asked) reference
counted_stays [] asked reference small h = cc
counted_stays (first ∷ memory) asked reference small h =
    at (counted_stays memory asked reference) (first.reference == asked) refl (first.reference == reference) refl
  where
    at : (count_of memory reference < 2 ^ 64 → is_remembered memory reference ≡ true → Stays memory (counted memory asked) reference)
        → (this : Bool) → (first.reference == asked) ≡ this → (that : Bool) → (first.reference == reference) ≡ that
        → Stays (first ∷ memory) (counted (first ∷ memory) asked) reference
    at rest true e true f =
        let fits : first.asks < 2 ^ 64 = rw f at small in record { remembered = rw (e, f) refl; asks = rw (e, f) (omega arith) }
    at rest true e false f = record { remembered = rw (e, f) (rw f at h); asks = rw (e, f) (omega arith) }
    at rest false e true f = record { remembered = rw (e, f) refl; asks = rw (e, f) (omega arith) }
    at rest false e false f =
        let more = rest (rw f at small) (rw f at h) in record { remembered = rw (e, f) more.remembered; asks = rw (e, f) more.asks }

pushed_stays : (memory : List Remembered) (last : Remembered) (reference : ℕ) → is_remembered memory reference ≡ true
    → Stays memory (memory ++ last ∷ []) reference
pushed_stays [] last reference h = cc
pushed_stays (first ∷ memory) last reference h = at (pushed_stays memory last reference) (first.reference == reference) refl
  where
    at : (is_remembered memory reference ≡ true → Stays memory (memory ++ last ∷ []) reference) → (test : Bool)
        → (first.reference == reference) ≡ test → Stays (first ∷ memory) ((first ∷ memory) ++ last ∷ []) reference
    at rest true e = record { remembered = rw e refl; asks = rw e (omega arith) }
    at rest false e = let more = rest (rw e at h) in record { remembered = rw e more.remembered; asks = rw e more.asks }

-- the oldest dropped, which is another
dropped_stays : (memory : List Remembered) (last : Remembered) (reference : ℕ) → is_remembered memory reference ≡ true → is_oldest memory reference ≡ false
    → Stays memory (drop 1 memory ++ last ∷ []) reference
dropped_stays [] last reference h other = cc
dropped_stays (first ∷ memory) last reference h other =
    let more = pushed_stays memory last reference (rw other at h) in record { remembered = more.remembered; asks = rw other more.asks }

pub stays : (memory : List Remembered) (asked reference : ℕ) → count_of memory reference < 2 ^ 64 → is_remembered memory reference ≡ true
    → (drops_oldest memory asked && is_oldest memory reference) ≡ false
    → (is_remembered (memory_after memory asked) reference ≡ true) × (count_of memory reference ≤ count_of (memory_after memory asked) reference)
stays memory asked reference small h kept = at (is_remembered memory asked) refl (nat_lt (length memory) 32) refl
  where
    both : (now : List Remembered) → Stays memory now reference → (is_remembered now reference ≡ true) × (count_of memory reference ≤ count_of now reference)
    both now s = (s.remembered, s.asks)

    at : (known : Bool) → is_remembered memory asked ≡ known → (fits : Bool) → nat_lt (length memory) 32 ≡ fits
        → (is_remembered (memory_after memory asked) reference ≡ true) × (count_of memory reference ≤ count_of (memory_after memory asked) reference)
    at true e fits f = rw e (both (counted memory asked) (counted_stays memory asked reference small h))
    at false e true f = rw (e, f) (both _ (pushed_stays memory (record { reference = asked; asks = 1 }) reference h))
    at false e false f = rw (e, f) (both _ (dropped_stays memory (record { reference = asked; asks = 1 }) reference h (rw (e, f) at kept)))

-- ---- the place of a reference

-- the reference at this place, and at none before it
pub place_found : (memory : List Remembered) (reference at : ℕ) (none : Remembered) → at < length memory
    → (get_or memory at none).reference ≡ reference
    → is_remembered (drop at memory) reference ≡ is_remembered memory reference
    → count_of (drop at memory) reference ≡ count_of memory reference
    → take at memory ++ counted (drop at memory) reference ≡ counted memory reference → IsPlace memory reference at
place_found memory reference at none within has known asks counts =
    let here : ((get_or memory at none).reference == reference) ≡ true = grind (arith, nat_tests) in
    let count : count_of memory reference ≡ (get_or memory at none).asks =
    sym asks ∙ at_drop_more (λ l. count_of l reference) memory at none within ∙ rw here refl in
    let again : counted (drop at memory) reference
    ≡ (record { reference = (get_or memory at none).reference; asks = next_count (get_or memory at none).asks }) ∷ drop (at + 1) memory =
    at_drop_more (λ l. counted l reference) memory at none within ∙ rw here refl in
    let next : at + 1 ≡ suc at = omega arith in record {
      within = within;
      remembered = sym known ∙ at_drop_more (λ l. is_remembered l reference) memory at none within ∙ rw here refl;
      counts = sym counts ∙ ap (λ (l : List Remembered). take at memory ++ l) (again ∙ rw (has, ← count, next) refl)
          ∙ sym (set_split memory at (record { reference = reference; asks = next_count (count_of memory reference) }) within);
    }

-- ---- one ask more

take-set_front : (len at : ℕ) (memory : List Remembered) (new : Remembered) → at < len → take len (set memory at new) ≡ set (take len memory) at new
take-set_front zero at memory new lt = absurd (omega arith)
take-set_front (suc len) at [] new lt = refl
take-set_front (suc len) zero (first ∷ memory) new lt = refl
take-set_front (suc len) (suc at) (first ∷ memory) new lt = ap (λ (l : List Remembered). first ∷ l) (take-set_front len at memory new (omega arith))

pub remember_again : (memory : List Remembered) (len at reference asks more : ℕ) → IsPlace (take len memory) reference at
    → asks ≡ count_of (take len memory) reference → more ≡ next_count asks
    → take len (set memory at (record { reference = reference; asks = more })) ≡ memory_after (take len memory) reference
remember_again memory len at reference asks more place count next =
    let inside : at < len = omega (arith, place.within, length-take len memory) in
    take-set_front len at memory (record { reference = reference; asks = more }) inside
    ∙ rw (next, count, place.remembered) (sym place.counts)

pub remember_oldest : (memory : List Remembered) (len reference : ℕ) → length memory ≡ 32 → len ≤ 32 → 32 ≤ len
    → is_remembered (take len memory) reference ≡ false
    → take len (set (drop 1 memory ++ take 1 memory) 31 (record { reference = reference; asks = 1 })) ≡ memory_after (take len memory) reference
remember_oldest memory len reference width most full none =
    let is : len ≡ 32 = omega arith in
    let all : take 32 memory ≡ memory = take_all 32 memory (omega arith) in
    let unknown : is_remembered memory reference ≡ false = rw (is, all) at none in
    let over : nat_lt (length memory) 32 ≡ false = grind (arith, nat_tests) in
    let rest : length (drop 1 memory) ≡ 31 = omega (arith, length-drop 1 memory) in
    let wide : 31 < length (drop 1 memory ++ take 1 memory) = omega (arith, length-append (drop 1 memory) (take 1 memory), width, rest, length-take 1 memory) in
    rw (is, all, unknown, over)
    (take_more_set (drop 1 memory ++ take 1 memory) 31 (record { reference = reference; asks = 1 }) wide
    ∙ ap (λ (l : List Remembered). l ++ (record { reference = reference; asks = 1 }) ∷ []) (take_at (drop 1 memory) (take 1 memory) 31 rest))
