-- The least free number, found from any number in front of which all are taken.
use Rattle.std.proofs.Common.{◌≡◌, ℕ, zero, suc, ◌+◌, ◌-◌, ◌<◌, ◌≤◌, true, cond, List, length, refl, sym, ◌∙◌, arith, add-one}
use Rattle.ph_form.specs.declared.leaf.Leaf.{Leaf}
use Rattle.ph_form.specs.Index.{AreTaken}
use Rattle.ph_form.specs.Leaves.{is_free, free_from, least_free}

-- one number on
pub free_more : (leaves : List Leaf) (beginning : List ℕ) (n count : ℕ) → n < count
    → free_from leaves beginning n (count - n) ≡ cond (is_free leaves beginning n) n (free_from leaves beginning (n + 1) (count - (n + 1)))
free_more leaves beginning n count h = let e : count - n ≡ suc (count - (n + 1)) = omega arith in rw e refl

-- numbers that are taken are passed
pub free_past : (leaves : List Leaf) (beginning : List ℕ) (n : ℕ) → AreTaken leaves beginning n → n ≤ length leaves
    → least_free leaves beginning ≡ free_from leaves beginning n (length leaves - n)
free_past leaves beginning zero taken small = let e : length leaves - 0 ≡ length leaves = omega arith in rw e refl
free_past leaves beginning (suc n) taken small =
    free_past leaves beginning n (λ m h. taken m (omega arith)) (omega arith)
    ∙ free_more leaves beginning n (length leaves) (omega arith)
    ∙ rw (taken n (omega arith), add-one) refl

-- the number that is free, after those that are taken
pub least_here : (leaves : List Leaf) (beginning : List ℕ) (n : ℕ) → AreTaken leaves beginning n → n < length leaves → is_free leaves beginning n ≡ true
    → n ≡ least_free leaves beginning
least_here leaves beginning n taken small free =
    sym (free_past leaves beginning n taken (omega arith) ∙ free_more leaves beginning n (length leaves) small ∙ rw free refl)

-- where each leaf takes a number, the next one is free
pub least_last : (leaves : List Leaf) (beginning : List ℕ) (n : ℕ) → AreTaken leaves beginning n → n ≡ length leaves → n ≡ least_free leaves beginning
least_last leaves beginning n taken last = sym (free_past leaves beginning n taken (omega arith) ∙ (let e : length leaves - n ≡ 0 = omega arith in rw e refl))
