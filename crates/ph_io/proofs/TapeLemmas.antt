-- A read of a list by a place in it.
use Rattle.std.proofs.Common.{◌≡◌, ℕ, ◌+◌, ◌-◌, ◌≤◌, List, ◌++◌, length, take, drop, sym, ap, ◌∙◌, arith}
use Rattle.std.proofs.lemmas.List.{take-append-drop, take_at, drop-drop, length-take-le, length-drop}
use Rattle.std.specs.List.{slice_range}
use Rattle.std.proofs.Math.Seq.{take-add}

-- the first n bytes of the room stand between what lies before the place `at` and what lies behind
-- them
pub record ReadAt (bytes room : List ℕ) (at n : ℕ) : Type 0 where
  pub taken : take (at + n) bytes ≡ take at bytes ++ take n room
  pub left : drop at bytes ≡ take n room ++ drop (at + n) bytes

-- a read that copies the n bytes from the place `at` on to the front of the room
pub read_at :
    (bytes seen piece rest : List ℕ) (at n : ℕ) → at + n ≤ length bytes → seen ≡ bytes →
    piece ≡ slice_range seen at (at + n) → ReadAt bytes (piece ++ rest) at n
read_at bytes seen piece rest at n inside same_bytes copied =
    let size : at + n - at ≡ n = omega arith in
    let same : piece ≡ take n (drop at bytes) =
    copied ∙ ap (λ k. take k (drop at seen)) size ∙ ap (λ bs. take n (drop at bs)) same_bytes in
    let long : length piece ≡ n =
    ap length same ∙ length-take-le n (drop at bytes) (omega (arith, length-drop at bytes)) in
    let front : take n (drop at bytes) ≡ take n (piece ++ rest) =
    sym same ∙ sym (take_at piece rest n long) in
    record {
      taken = take-add at n bytes ∙ ap (λ ys. take at bytes ++ ys) front;
      left =
          sym (take-append-drop n (drop at bytes))
          ∙ ap (λ ys. take n (drop at bytes) ++ ys) (drop-drop n at bytes)
          ∙ ap (λ ys. ys ++ drop (at + n) bytes) front;
    }
