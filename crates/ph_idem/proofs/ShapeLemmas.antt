-- Shapes that are the same.
use Rattle.std.proofs.Common.{◌≡◌, Bool, true, false, List, IsTrue, refl, sym, ◌∙◌}
use Rattle.ph_form.specs.declared.leaf.Leaf.{Leaf}
use Rattle.ph_form.proofs.EntryLemmas.{same_leaves}
use Rattle.ph_idem.specs.Shapes.{is_same_form}

-- a test that is true exactly where two forms are equal is the one of their leaves
pub form_test : (b : Bool) (xs ys : List Leaf) → (IsTrue b → xs ≡ ys) → (xs ≡ ys → IsTrue b) → b ≡ is_same_form xs ys
form_test b xs ys there back = at b (is_same_form xs ys) refl refl there back
  where
    at : (one other : Bool) → b ≡ one → is_same_form xs ys ≡ other → (IsTrue b → xs ≡ ys) → (xs ≡ ys → IsTrue b) → b ≡ is_same_form xs ys
    at true true e f there back = e ∙ sym f
    at false false e f there back = e ∙ sym f
    at true false e f there back = e ∙ sym ((same_leaves (is_same_form xs ys) xs ys refl).1 (there e))
    at false true e f there back = back ((same_leaves (is_same_form xs ys) xs ys refl).0 f) ∙ sym f
