-- The faults of bytes exclude each other.
use Rattle.std.proofs.Common.{◌≡◌, ℕ, ◌+◌, ◌⊎◌, inl, inr, List, [], ◌∷◌, ◌++◌, length, refl, sym, ap, subst, ◌∙◌, append_assoc, arith}
use Rattle.std.proofs.lemmas.List.{append-nil}
use Rattle.ph_lines.specs.Lines.{First, Wants, Long, Has, first, Leads}
use Rattle.ph_lines.proofs.TextLemmas.{same_line}
use Rattle.ph_history.specs.Grammar.{CanBegin, AreWhole, LeavesForm, IsBadAt, IsCut}
use Rattle.ph_history.proofs.GrammarLemmas.{whole_refused}

-- lines that bytes begin with, and more of them behind those
record Further (front lines : List (List ℕ)) (rest end : List ℕ) : Type 0 where
  pub more : List (List ℕ)
  pub parts : lines ≡ front ++ more
  pub leads : Leads rest more end

further_one : {xs ys : List (List ℕ)} {r s : List ℕ} (x y : List ℕ) → x ≡ y → Further xs ys r s → Further (x ∷ xs) (y ∷ ys) r s
further_one {xs} {ys} x y same f = record {
  more = f.more;
  parts = ap (λ ls. y ∷ ls) f.parts ∙ ap (λ l. l ∷ (xs ++ f.more)) (sym same);
  leads = f.leads;
}

-- of two lists of lines that the same bytes begin with, one goes further
one_further : (bytes : List ℕ) (xs ys : List (List ℕ)) (r s : List ℕ) → Leads bytes xs r → Leads bytes ys s → Further xs ys r s ⊎ Further ys xs s r
one_further bytes [] ys r s a b = inl (record { more = ys; parts = refl; leads = subst (λ t. Leads t ys s) a b })
one_further bytes (x ∷ xs) [] r s a b = inr (record { more = x ∷ xs; parts = refl; leads = subst (λ t. Leads t (x ∷ xs) r) b a })
one_further bytes (x ∷ xs) (y ∷ ys) r s a b =
    let same = same_line x a.0 y b.0 (sym a.1 ∙ b.1) in
    cases same.0 (one_further a.0 xs ys r s a.2 (subst (λ t. Leads t ys s) (sym same.1) b.2))
  where
    cases : x ≡ y → Further xs ys r s ⊎ Further ys xs s r → Further (x ∷ xs) (y ∷ ys) r s ⊎ Further (y ∷ ys) (x ∷ xs) s r
    cases same (inl f) = inl (further_one x y same f)
    cases same (inr f) = inr (further_one y x (sym same) f)

-- what begins a text with lines behind a line begins one with that line
fewer : (front more : List (List ℕ)) (line : List ℕ) → CanBegin (front ++ line ∷ more) → CanBegin (front ++ line ∷ [])
fewer front more line begins = record {
  history = begins.history;
  more = more ++ begins.more;
  text = append_assoc front (line ∷ []) (more ++ begins.more) ∙ sym (append_assoc front (line ∷ more) begins.more) ∙ begins.text;
  fits = begins.fits;
}

-- where the form is left, no line follows with which a text goes on
none_follows : (lines more : List (List ℕ)) (rest line after : List ℕ) → LeavesForm lines rest → first rest ≡ Has line after → CanBegin (lines ++ line ∷ more) → ⊥
none_follows lines more rest line after (inl long) has begins = absurd (let both : Has line after ≡ Long = sym has ∙ long in cc)
none_follows lines more rest line after (inr (inl other)) has begins =
    let same = same_line line after other.0 other.1 (sym has ∙ other.2) in
    other.3 (subst (λ l. CanBegin (lines ++ l ∷ [])) same.0 (fewer lines more line begins))
none_follows lines more rest line after (inr (inr whole)) has begins =
    whole_refused whole.0.history line (subst (λ ls. CanBegin (ls ++ line ∷ [])) whole.0.text (fewer lines more line begins))

-- bytes leave the form at one line
pub bad_line_one : (bytes : List ℕ) (a b : ℕ) → IsBadAt bytes a → IsBadAt bytes b → a ≡ b
bad_line_one bytes a b x y = cases (one_further bytes x.lines y.lines x.rest y.rest x.leads y.leads)
  where
    same : (front lines : List (List ℕ)) (rest end : List ℕ) → LeavesForm front rest → CanBegin lines → (f : Further front lines rest end) → length lines ≡ length front
    same front lines rest end leaves begins f = at f.more f.parts f.leads
      where
        at : (more : List (List ℕ)) → lines ≡ front ++ more → Leads rest more end → length lines ≡ length front
        at [] parts leads = ap length (parts ∙ append-nil front)
        at (line ∷ more) parts leads = absurd (none_follows front more rest line leads.0 leaves leads.1 (subst CanBegin parts begins))

    cases : Further x.lines y.lines x.rest y.rest ⊎ Further y.lines x.lines y.rest x.rest → a ≡ b
    cases (inl f) = let size = same x.lines y.lines x.rest y.rest x.leaves y.begins f in let one = x.place in let other = y.place in omega arith
    cases (inr f) = let size = same y.lines x.lines y.rest x.rest y.leaves x.begins f in let one = x.place in let other = y.place in omega arith

-- bytes that are cut leave the form nowhere
pub cut_not_bad : (bytes : List ℕ) (at : ℕ) → IsCut bytes → IsBadAt bytes at → ⊥
cut_not_bad bytes place cut bad = cases (one_further bytes cut.lines bad.lines cut.rest bad.rest cut.leads bad.leads)
  where
    both_here : (lines : List (List ℕ)) (rest : List ℕ) → first rest ≡ Wants → (AreWhole lines → ⊥) → LeavesForm lines rest → ⊥
    both_here lines rest wants open_part (inl long) = absurd (let both : Wants ≡ Long = sym wants ∙ long in cc)
    both_here lines rest wants open_part (inr (inl other)) = absurd (let both : Wants ≡ Has other.0 other.1 = sym wants ∙ other.2 in cc)
    both_here lines rest wants open_part (inr (inr whole)) = open_part whole.0

    cut_first : (more : List (List ℕ)) → bad.lines ≡ cut.lines ++ more → Leads cut.rest more bad.rest → ⊥
    cut_first [] parts leads =
        both_here bad.lines bad.rest (sym (ap first leads) ∙ cut.open_end) (λ whole. cut.not_whole (subst AreWhole (parts ∙ append-nil cut.lines) whole)) bad.leaves
    cut_first (line ∷ more) parts leads = absurd (let both : Has line leads.0 ≡ Wants = sym leads.1 ∙ cut.open_end in cc)

    bad_first : (more : List (List ℕ)) → cut.lines ≡ bad.lines ++ more → Leads bad.rest more cut.rest → ⊥
    bad_first [] parts leads =
        both_here bad.lines bad.rest (ap first leads ∙ cut.open_end) (λ whole. cut.not_whole (subst AreWhole (sym (append-nil bad.lines) ∙ sym parts) whole)) bad.leaves
    bad_first (line ∷ more) parts leads = none_follows bad.lines more bad.rest line leads.0 bad.leaves leads.1 (subst CanBegin parts cut.begins)

    cases : Further cut.lines bad.lines cut.rest bad.rest ⊎ Further bad.lines cut.lines bad.rest cut.rest → ⊥
    cases (inl f) = cut_first f.more f.parts f.leads
    cases (inr f) = bad_first f.more f.parts f.leads
