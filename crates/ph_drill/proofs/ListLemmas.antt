-- Texts that are written piece by piece, one for each element of a list.
use Rattle.std.specs.Prelude.{slice_get, cond}
use Rattle.std.specs.List.{flat_map, filter}
use Rattle.std.proofs.Common.{◌≡◌, ℕ, ◌+◌, Bool, true, false, List, [], ◌∷◌, ◌++◌, Some, take, drop, get_or, refl, sym, ap, subst, ◌∙◌}
use Rattle.std.proofs.lemmas.Grind.{flat_map-append}
use Rattle.std.proofs.lemmas.List.{take_more, append-nil, take-append-drop}
use Rattle.std.proofs.lemmas.Option.{slice_get_within, get_or_from_slice_get}
use Rattle.ph_io.specs.Told.{SinkState}
use Rattle.ph_io.specs.Writes.{Takes, TakesFront}
use Rattle.ph_io.proofs.DeviceLemmas.{takes_twice, takes_then_front, front_of_more}

-- the pieces of one element more
pieces_more : {X : Type 0} (piece : X → List ℕ) (xs : List X) (i : ℕ) (x : X) → slice_get xs i ≡ Some x
    → flat_map piece (take (i + 1) xs) ≡ flat_map piece (take i xs) ++ piece x
pieces_more {X} piece xs i x here =
    let within = slice_get_within xs i x here in
    ap (flat_map piece) (take_more xs i x within)
    ∙ flat_map-append piece (take i xs) (get_or xs i x ∷ [])
    ∙ ap (λ (more : List ℕ). flat_map piece (take i xs) ++ more) (append-nil (piece (get_or xs i x)))
    ∙ ap (λ (element : X). flat_map piece (take i xs) ++ piece element) (get_or_from_slice_get xs i x x here)

-- a piece more was written
pub takes_piece : {old between new : SinkState} {X : Type 0} (piece : X → List ℕ) (xs : List X) (i : ℕ) (x : X) → slice_get xs i ≡ Some x
    → Takes old between (flat_map piece (take i xs)) → Takes between new (piece x) → Takes old new (flat_map piece (take (i + 1) xs))
takes_piece {old} {between} {new} piece xs i x here before last =
    subst (Takes old new) (sym (pieces_more piece xs i x here)) (takes_twice before last)

-- an element has no piece
pub takes_no_piece : {old new : SinkState} {X : Type 0} (piece : X → List ℕ) (xs : List X) (i : ℕ) (x : X) → slice_get xs i ≡ Some x → piece x ≡ []
    → Takes old new (flat_map piece (take i xs)) → Takes old new (flat_map piece (take (i + 1) xs))
takes_no_piece {old} {new} piece xs i x here none before =
    subst (Takes old new)
    (sym (pieces_more piece xs i x here ∙ ap (λ more. flat_map piece (take i xs) ++ more) none ∙ append-nil (flat_map piece (take i xs)))) before

-- a write within the pieces failed
pub front_of_pieces : {old between new : SinkState} {X : Type 0} (piece : X → List ℕ) (xs : List X) (i : ℕ) (x : X) → slice_get xs i ≡ Some x
    → Takes old between (flat_map piece (take i xs)) → TakesFront between new (piece x) → TakesFront old new (flat_map piece xs)
front_of_pieces {old} {between} {new} piece xs i x here before last =
    subst (TakesFront old new)
    (ap (λ front. front ++ flat_map piece (drop (i + 1) xs)) (sym (pieces_more piece xs i x here))
    ∙ sym (flat_map-append piece (take (i + 1) xs) (drop (i + 1) xs))
    ∙ ap (flat_map piece) (take-append-drop (i + 1) xs))
    (front_of_more (flat_map piece (drop (i + 1) xs)) (takes_then_front before last))

-- the pieces of the elements that pass a test are those of all, where the others have none
pub filtered_pieces : {X : Type 0} (test : X → Bool) (piece : X → List ℕ) (xs : List X)
    → flat_map piece (filter test xs) ≡ flat_map (λ x. cond (test x) (piece x) []) xs
filtered_pieces test piece [] = refl
filtered_pieces {X} test piece (x ∷ xs) = by_case (test x) (filtered_pieces test piece xs)
  where
    by_case : (passes : Bool) → flat_map piece (filter test xs) ≡ flat_map (λ (y : X). cond (test y) (piece y) []) xs
        → flat_map piece (cond passes (x ∷ filter test xs) (filter test xs))
        ≡ cond passes (piece x) [] ++ flat_map (λ (y : X). cond (test y) (piece y) []) xs
    by_case true rest = ap (λ more. piece x ++ more) rest
    by_case false rest = rest
