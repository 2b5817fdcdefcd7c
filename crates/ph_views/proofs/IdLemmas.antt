-- The last sixteen digits of a number.
use Rattle.std.proofs.Common.{◌≡◌, ℕ, suc, zero, ◌+◌, ◌*◌, ◌/◌, ◌%◌, ◌^◌, ◌<◌, [], ◌∷◌, ◌++◌, refl, ap, ◌∙◌, arith}
use Rattle.std.proofs.Math.Arith.{mod-mul}
use Rattle.std.proofs.Math.Nat.{pow-suc}
use Rattle.std.proofs.lemmas.Nat.{div-mul-add, mod-mul-add}
use Rattle.ph_base.specs.Numbers.{padded}

power_is_above : (k : ℕ) → 0 < 10 ^ k
power_is_above zero = omega arith
power_is_above (suc k) = let above = power_is_above k in let power : 10 ^ suc k ≡ 10 * 10 ^ k = omega arith in omega arith

-- the last digits of a number are those of what is left of it behind them
padded_rest : (k n : ℕ) → padded k (n % 10 ^ k) ≡ padded k n
unfolding padded
padded_rest zero n = refl
padded_rest (suc k) n =
    let last : n % 10 < 10 = omega arith in
    let rest : n % 10 ^ suc k ≡ (n / 10 % 10 ^ k) * 10 + n % 10 = ap (λ m. n % m) (pow-suc 10 k) ∙ mod-mul n (power_is_above k) (omega arith) in
    let front : n % 10 ^ suc k / 10 ≡ n / 10 % 10 ^ k = ap (λ m. m / 10) rest ∙ div-mul-add (n / 10 % 10 ^ k) 10 (n % 10) last in
    let digit : n % 10 ^ suc k % 10 ≡ n % 10 = ap (λ m. m % 10) rest ∙ mod-mul-add (n / 10 % 10 ^ k) 10 (n % 10) last in
    rw (front, digit) (ap (λ digits. digits ++ (48 + n % 10) ∷ []) (padded_rest k (n / 10)))

-- sixteen digits of a number are those of what is left of it behind sixteen
pub padded_sixteen : (n : ℕ) → padded 16 (n % 10000000000000000) ≡ padded 16 n
padded_sixteen n = padded_rest 16 n
