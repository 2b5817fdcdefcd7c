-- Deliveries that are renewed one after another.
use Rattle.std.proofs.Common.{◌≡◌, ℕ, ◌+◌, ◌-◌, ◌<◌, List, [], ◌∷◌, ◌++◌, length, map, take, drop, set, get_or, sym, ap, ◌∙◌, append_assoc, arith}
use Rattle.std.proofs.lemmas.List.{drop_more, get_or_at, length-map, length-take-le, map_more, set-append_right}

module _ {X : Type 0} (f : X → X) where
  front : (xs : List X) (at : ℕ) → at < length xs → length (map f (take at xs)) ≡ at
  front xs at within = length-map (take at xs) f ∙ length-take-le at xs (omega arith)

  -- where the first of a list are renewed, one more is renewed by a write
  pub one_more :
      (xs : List X) (at : ℕ) (d : X) → at < length xs →
      set (map f (take at xs) ++ drop at xs) at (f (get_or xs at d))
      ≡ map f (take (at + 1) xs) ++ drop (at + 1) xs
  one_more xs at d within =
      let none_left : at - at ≡ 0 = omega arith in
      let new = f (get_or xs at d) in
      set-append_right (map f (take at xs)) (drop at xs) at at new (front xs at within) (omega arith)
      ∙ ap (λ place. map f (take at xs) ++ set (drop at xs) place new) none_left
      ∙ ap (λ rest. map f (take at xs) ++ set rest 0 new) (drop_more xs at d within)
      ∙ sym (append_assoc (map f (take at xs)) (new ∷ []) (drop (at + 1) xs))
      ∙ ap (λ renewed. renewed ++ drop (at + 1) xs) (sym (map_more f xs at d within))

  -- the next of them is still what it was
  still_there :
      (xs : List X) (at : ℕ) (d : X) → at < length xs →
      get_or (map f (take at xs) ++ drop at xs) at d ≡ get_or xs at d
  still_there xs at d within =
      ap (λ (rest : List X). get_or (map f (take at xs) ++ rest) at d) (drop_more xs at d within)
      ∙ get_or_at (map f (take at xs)) (get_or xs at d) (drop (at + 1) xs) d at (front xs at within)

  -- so a write of what is read there, renewed, renews one more
  pub renews_one :
      (now old : List X) (at : ℕ) (d new : X) → at < length old →
      now ≡ map f (take at old) ++ drop at old → new ≡ f (get_or now at d) →
      set now at new ≡ map f (take (at + 1) old) ++ drop (at + 1) old
  renews_one now old at d new within same written =
      ap (λ (xs : List X). set xs at new) same
      ∙ ap (λ (x : X). set (map f (take at old) ++ drop at old) at x)
      (written ∙ ap (λ (xs : List X). f (get_or xs at d)) same ∙ ap f (still_there old at d within))
      ∙ one_more old at d within
