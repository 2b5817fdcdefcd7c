-- The verdict on a header whose moment and first signature are known.
use Rattle.std.proofs.Common.{◌≡◌, ℕ, Bool, cond, List, [], ◌∷◌, Some, refl, ap, ◌∙◌, codes}
use Rattle.std.specs.List.{list_any}
use Rattle.std.specs.Option.{option_and_then}
use Rattle.std.specs.Str.{bytes_eq}
use Rattle.ph_base.specs.Numbers.{number_in}
use Rattle.ph_sign.specs.Signatures.{signature_of}
use Rattle.ph_sign.specs.Verdicts.{first_of, is_old, judged, moment_of, values_of, verdict_of}
use Rattle.ph_sign.specs.declared.verdicts.Verdict.{Verdict}
use Rattle.ph_sign.specs.declared.verdicts.Verdict.TheVariants.{Good, Mismatch, Old}

-- by two tests: whether a signature is the secret's, and whether it is old
abbrev pub by_tests : Bool → Bool → Verdict
by_tests signed old = cond signed (cond old Old Good) Mismatch

pub judged_some : (t : ℕ) (signatures : List (List ℕ)) (first secret body : List ℕ) (now tolerance : ℕ) → Some first ≡ first_of signatures
    → judged (Some t) signatures secret body now tolerance
    ≡ by_tests (list_any (λ value. bytes_eq value (signature_of secret t body)) signatures) (is_old t now tolerance)
judged_some t [] first secret body now tolerance h = cc
judged_some t (value ∷ values) first secret body now tolerance h = refl

-- the verdict of `verify`, past a header's moment and first signature
pub verdict_at : (header secret body text first : List ℕ) (t now tolerance : ℕ) (signed old : Bool)
    → Some text ≡ first_of (values_of (codes "t") header) → Some t ≡ number_in text
    → Some first ≡ first_of (values_of (codes "v1") header)
    → signed ≡ list_any (λ value. bytes_eq value (signature_of secret t body)) (values_of (codes "v1") header)
    → old ≡ is_old t now tolerance
    → by_tests signed old ≡ verdict_of header secret body now tolerance
verdict_at header secret body text first t now tolerance signed old moment number some sign age =
    let at : Some t ≡ moment_of header = number ∙ ap (option_and_then number_in) moment in
    let judge = judged_some t (values_of (codes "v1") header) first secret body now tolerance some in
    rw (← at, judge, sign, age) refl
