-- What a signature header is for.
use Rattle.std.specs.Prelude.{◌≡◌, ℕ, ◌+◌, ◌<◌, ◌≤◌, ◌^◌, List, Contains}
use Rattle.ph_sign.specs.Signatures.{signature_header}
use Rattle.ph_sign.specs.Verdicts.{verdict_of}
use Rattle.ph_sign.specs.declared.verdicts.Verdict.TheVariants.{Good}

-- a header is good under each of its secrets, until the tolerance has passed since its moment
abbrev pub HeaderIsGood : Type 0
HeaderIsGood = (secrets : List (List ℕ)) (t : ℕ) (body secret : List ℕ) (now tolerance : ℕ)
    → t < 2 ^ 64 → Contains secrets secret → now ≤ t + tolerance
    → verdict_of (signature_header secrets t body) secret body now tolerance ≡ Good
