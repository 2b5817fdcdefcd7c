-- Rows that speak of amounts where a version of another object stands between what is added and the version that says it.
use Rattle.std.specs.Prelude.{◌||◌}
use Rattle.std.proofs.Common.{◌≡◌, ℕ, Bool, true, false, eqb, List, [], ◌∷◌, ◌++◌, refl, sym, ◌∙◌, subst}
use Rattle.std.proofs.lemmas.Bool.{eqb-false, eqb-true}
use Rattle.std.proofs.lemmas.List.{append_assoc}
use Rattle.ph_rows.specs.declared.rows.Row.{Row}
use Rattle.ph_rows.proofs.RowLemmas.{both_fail}
use Rattle.ph_facts.specs.Tallies.{SaysSum, Tally}
use Rattle.ph_facts.proofs.SpokenLemmas.{Spoken}
use Rattle.ph_facts.proofs.TallyLemmas.{IsSum, sum_stays, touches}

-- of a test that fails and one that passes the second, where one of the two passes
either : (a b : Bool) → (a || (b || false)) ≡ true → a ≡ false → (b || false) ≡ true
either true b e fails = absurd (cc)
either false b e fails = e

-- a row that adds to an object, a version of another, and the version of the object
pub spoken_around : {A : Type 0} (tally : Tally A) (rows : List Row) (adding middle version : Row) → IsSum A tally
    → Spoken tally (rows ++ adding ∷ []) (middle ∷ []) → SaysSum tally version.object (rows ++ adding ∷ middle ∷ version ∷ [])
    → ((other : ℕ) → (other ≡ version.object → ⊥) → touches tally other adding ≡ false)
    → ((other : ℕ) → (other ≡ version.object → ⊥) → touches tally other version ≡ false)
    → Spoken tally rows (adding ∷ middle ∷ version ∷ [])
spoken_around {A} tally rows adding middle version sum between says quiet apart object touched = at (eqb object version.object) refl
  where
    at : (b : Bool) → eqb object version.object ≡ b → SaysSum tally object (rows ++ adding ∷ middle ∷ version ∷ [])
    at true e = subst (λ (k : ℕ). SaysSum tally k (rows ++ adding ∷ middle ∷ version ∷ [])) (sym (eqb-true object version.object e)) says
    at false e =
        let differs = eqb-false object version.object e in
        let last = apart object differs in
        let rest : (touches tally object adding || (touches tally object middle || false)) ≡ true =
        subst (λ (b : Bool). (touches tally object adding || (touches tally object middle || (b || false))) ≡ true) last touched in
        let middle_says = between object (either (touches tally object adding) (touches tally object middle) rest (quiet object differs)) in
        subst (SaysSum tally object) (append_assoc (rows ++ adding ∷ []) (middle ∷ []) (version ∷ []) ∙ append_assoc rows (adding ∷ []) (middle ∷ version ∷ []))
        (sum_stays tally object ((rows ++ adding ∷ []) ++ middle ∷ []) (version ∷ []) sum
        (both_fail (touches tally object version) false last refl) middle_says)
