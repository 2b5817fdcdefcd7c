-- A tally with one entry more.
use Rattle.std.proofs.Common.{◌≡◌, ℕ, ◌+◌, ◌*◌, ◌<◌, ◌≤◌, max, List, [], ◌∷◌, ◌++◌, length, arith}
use Rattle.ph_lock.specs.Histories.{AllBelow}
use Rattle.ph_lock.specs.Tallies.{caller_of, sum_of, AllSmall, top_of}

pub sum-append : (xs : List (ℕ × ℕ)) (e : ℕ × ℕ) → sum_of (xs ++ e ∷ []) ≡ sum_of xs + e.1
sum-append [] e = omega arith
sum-append (x ∷ xs) e = let t = sum-append xs e in omega arith

pub sum_small : (xs : List (ℕ × ℕ)) → AllSmall xs → sum_of xs ≤ length xs * 4294967296
sum_small [] all = omega arith
sum_small (x ∷ xs) all = let t = sum_small xs all.1 in let l : x.1 < 4294967296 = all.0 in omega arith

pub small-append : (xs : List (ℕ × ℕ)) (e : ℕ × ℕ) → AllSmall xs → e.1 < 4294967296 → AllSmall (xs ++ e ∷ [])
small-append [] e all l = (l, tt)
small-append (x ∷ xs) e all l = (all.0, small-append xs e all.1 l)

pub top-append : (xs : List (ℕ × ℕ)) (e : ℕ × ℕ) → top_of (xs ++ e ∷ []) ≡ max (top_of xs) (e.0 + 1)
top-append [] e = omega arith
top-append (x ∷ xs) e = let t = top-append xs e in omega arith

below_more : (n m : ℕ) (xs : List (ℕ × ℕ)) → n ≤ m → AllBelow caller_of n xs → AllBelow caller_of m xs
below_more n m [] le all = tt
below_more n m (x ∷ xs) le all = let l : x.0 < n = all.0 in (omega arith, below_more n m xs le all.1)

pub all_below : (xs : List (ℕ × ℕ)) → AllBelow caller_of (top_of xs) xs
all_below [] = tt
all_below (x ∷ xs) = (omega arith, below_more (top_of xs) (max (x.0 + 1) (top_of xs)) xs (omega arith) (all_below xs))

pub length-append_one : (xs : List (ℕ × ℕ)) (e : ℕ × ℕ) → length (xs ++ e ∷ []) ≡ length xs + 1
length-append_one [] e = omega arith
length-append_one (x ∷ xs) e = let t = length-append_one xs e in omega arith
