-- Workers before and after, place by place.
use Rattle.std.proofs.Common.{◌≡◌, ◌≢◌, ℕ, suc, ◌+◌, ◌<◌, ◌≤◌, List, [], ◌∷◌, length, get_or, set, slice_index_or, refl, sym, subst, ◌∙◌, ⊎_elim, arith, length-set, get_or-set_same, get_or-set_other}
use Rattle.std.proofs.lemmas.Bool.{cases_eq}
use Rattle.std.proofs.lemmas.List.{get_or_default}
use Rattle.std.specs.Prelude.{All}
use Rattle.std.specs.List.{AllZip}
use Rattle.std.proofs.lemmas.List.Elements.{All-nil, All-cons, All-head, All-tail}

-- what holds at each place holds place by place
pub zip_from_places : {A : Type 0} (R : A → A → Type 0) (xs ys : List A) → length xs ≡ length ys
    → ((i : ℕ) (d : A) → i < length xs → R (slice_index_or xs i d) (slice_index_or ys i d)) → AllZip R xs ys
zip_from_places R [] [] long at = tt
zip_from_places R [] (y ∷ ys) long at = omega (arith, long)
zip_from_places R (x ∷ xs) [] long at = omega (arith, long)
zip_from_places R (x ∷ xs) (y ∷ ys) long at =
    (at 0 x (omega arith), zip_from_places R xs ys (omega (arith, long)) (λ i d inside. at (suc i) d (omega (arith, inside))))

-- the same, where at each place it is said of two that are those
pub zip_from_changes : {A : Type 0} (R : A → A → Type 0) (xs ys : List A) → length xs ≡ length ys
    → ((i : ℕ) (d : A) → i < length xs → (x : A) × (y : A) × (x ≡ slice_index_or xs i d) × (y ≡ slice_index_or ys i d) × R x y) → AllZip R xs ys
zip_from_changes R xs ys long at = zip_from_places R xs ys long
    (λ i d inside. let t = at i d inside in subst (λ y. R (slice_index_or xs i d) y) t.3 (subst (λ x. R x t.1) t.2 t.4))

-- what was done to the first of them, one after another; the others are as they were
pub record Changed {A : Type 0} (R : A → A → Type 0) (xs ys : List A) (done : ℕ) : Type 0 where
  pub long : length ys ≡ length xs
  pub changed : (k : ℕ) (d : A) → k < done → R (get_or xs k d) (get_or ys k d)
  pub others : (k : ℕ) (d : A) → done ≤ k → get_or ys k d ≡ get_or xs k d

pub changed_none : {A : Type 0} (R : A → A → Type 0) (xs : List A) → Changed R xs xs 0
changed_none R xs = record { long = refl; changed = λ k d below. absurd (omega (arith, below)); others = λ k d above. refl }

pub changed_more : {A : Type 0} (R : A → A → Type 0) (xs ys : List A) (i : ℕ) (y d : A) → Changed R xs ys i → i < length ys → R (get_or ys i d) y
    → Changed R xs (set ys i y) (i + 1)
changed_more R xs ys i y e so_far inside now = record {
  long = length-set ys i y ∙ so_far.long;
  changed = λ k d below. ⊎_elim
      (λ same. subst (λ j. R (get_or xs j d) (get_or (set ys i y) j d)) (sym same)
      (subst (R (get_or xs i d)) (sym (get_or-set_same ys i y d inside))
      (subst (λ z. R z y) (get_or_default ys i e d inside ∙ so_far.others i d (omega arith)) now)))
      (λ other. subst (R (get_or xs k d)) (sym (get_or-set_other ys i k y d other)) (so_far.changed k d (omega (arith, below, other))))
      (cases_eq k i);
  others = λ k d above. get_or-set_other ys i k y d (let other : k ≢ i = omega (arith, above) in other) ∙ so_far.others k d (omega (arith, above));
}

pub changed_weaker : {A : Type 0} (R S : A → A → Type 0) (xs ys : List A) (i : ℕ) → ((x y : A) → R x y → S x y) → Changed R xs ys i → Changed S xs ys i
changed_weaker R S xs ys i gives so_far = record {
  long = so_far.long;
  changed = λ k d below. gives _ _ (so_far.changed k d below);
  others = so_far.others;
}

pub changed_all : {A : Type 0} (R : A → A → Type 0) (xs ys : List A) (i : ℕ) → length xs ≤ i → Changed R xs ys i → AllZip R xs ys
changed_all R xs ys i all so_far = zip_from_places R xs ys (sym so_far.long) (λ k d inside. so_far.changed k d (omega (arith, inside, all)))

-- what three relations give behind one another
pub zip_thrice : {A B C D : Type 0} (R : A → B → Type 0) (S : B → C → Type 0) (T : C → D → Type 0) (U : A → D → Type 0)
    (ws : List A) (xs : List B) (ys : List C) (zs : List D) → ((w : A) (x : B) (y : C) (z : D) → R w x → S x y → T y z → U w z)
    → AllZip R ws xs → AllZip S xs ys → AllZip T ys zs → AllZip U ws zs
zip_thrice R S T U [] [] [] [] all r s t = tt
zip_thrice R S T U [] [] [] (z ∷ zs) all r s t = absurd t
zip_thrice R S T U [] [] (y ∷ ys) zs all r s t = absurd s
zip_thrice R S T U [] (x ∷ xs) ys zs all r s t = absurd r
zip_thrice R S T U (w ∷ ws) [] ys zs all r s t = absurd r
zip_thrice R S T U (w ∷ ws) (x ∷ xs) [] zs all r s t = absurd s
zip_thrice R S T U (w ∷ ws) (x ∷ xs) (y ∷ ys) [] all r s t = absurd t
zip_thrice R S T U (w ∷ ws) (x ∷ xs) (y ∷ ys) (z ∷ zs) all r s t =
    (all w x y z r.0 s.0 t.0, zip_thrice R S T U ws xs ys zs all r.1 s.1 t.1)

-- where the relation carries a fact of the first over to the second, it holds of each second
pub all_after_zip : {A B : Type 0} (R : A → B → Type 0) (P : A → Type 0) (Q : B → Type 0) (xs : List A) (ys : List B)
    → ((x : A) (y : B) → P x → R x y → Q y) → All P xs → AllZip R xs ys → All Q ys
all_after_zip R P Q [] [] carries all zip = All-nil Q
all_after_zip R P Q [] (y ∷ ys) carries all zip = absurd zip
all_after_zip R P Q (x ∷ xs) [] carries all zip = absurd zip
all_after_zip R P Q (x ∷ xs) (y ∷ ys) carries all zip =
    All-cons Q y ys (carries x y (All-head P x xs all) zip.0) (all_after_zip R P Q xs ys carries (All-tail P x xs all) zip.1)

-- where the relation gives a fact of the second, it holds of each
pub all_of_zip : {A B : Type 0} (R : A → B → Type 0) (Q : B → Type 0) (xs : List A) (ys : List B)
    → ((x : A) (y : B) → R x y → Q y) → AllZip R xs ys → All Q ys
all_of_zip R Q [] [] gives zip = All-nil Q
all_of_zip R Q [] (y ∷ ys) gives zip = absurd zip
all_of_zip R Q (x ∷ xs) [] gives zip = absurd zip
all_of_zip R Q (x ∷ xs) (y ∷ ys) gives zip = All-cons Q y ys (gives x y zip.0) (all_of_zip R Q xs ys gives zip.1)

-- what holds of everything holds of each of a list
pub all_any : {A : Type 0} (P : A → Type 0) (xs : List A) → ((x : A) → P x) → All P xs
all_any P [] any = All-nil P
all_any P (x ∷ xs) any = All-cons P x xs (any x) (all_any P xs any)
