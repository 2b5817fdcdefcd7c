-- The verdict on a signature header.
use Rattle.std.specs.Prelude.{ℕ, ◌-◌, ◌==◌, ◌&&◌, Bool, is_some, position, List, [], ◌∷◌, nat_lt, if◌then◌else◌, Option, Some, None, option_and_then, codes}
use Rattle.std.specs.List.{list_any, filter_map, slice_split, before_first, after_first}
use Rattle.std.specs.Str.{bytes_eq}
use Rattle.ph_base.specs.Numbers.{number_in}
use Rattle.ph_sign.specs.Signatures.{signature_of}
use Rattle.ph_sign.specs.declared.verdicts.Verdict.{Verdict}
use Rattle.ph_sign.specs.declared.verdicts.Verdict.TheVariants.{Good, Malformed, Mismatch, Old}

abbrev pub is_comma : ℕ → Bool
is_comma b = b == 44

abbrev pub is_equals : ℕ → Bool
is_equals b = b == 61

-- the value of an item that has this name: it is cut at its first `=`, and one without `=` is passed over
abbrev pub value_in : List ℕ → List ℕ → Option (List ℕ)
value_in name item =
    if is_some (position is_equals item) && bytes_eq (before_first is_equals item) name
    then Some (after_first is_equals item) else None

-- the values of the items of this name, in order: the header is cut at its commas
abbrev pub values_of : List ℕ → List ℕ → List (List ℕ)
values_of name header = filter_map (value_in name) (slice_split is_comma header)

-- the first of some values
abbrev pub first_of : List (List ℕ) → Option (List ℕ)
first_of [] = None
first_of (value ∷ values) = Some value

-- the moment of a header: the number that its first item named `t` gives
abbrev pub moment_of : List ℕ → Option ℕ
moment_of header = option_and_then number_in (first_of (values_of (codes "t") header))

-- the moment is more than the tolerance ago
abbrev pub is_old : ℕ → ℕ → ℕ → Bool
is_old t now tolerance = nat_lt t now && nat_lt tolerance (now - t)

-- the verdict, by the moment and the signatures of a header
abbrev pub judged : Option ℕ → List (List ℕ) → List ℕ → List ℕ → ℕ → ℕ → Verdict
judged None signatures secret body now tolerance = Malformed
judged (Some t) [] secret body now tolerance = Malformed
judged (Some t) (first ∷ others) secret body now tolerance =
    if list_any (λ value. bytes_eq value (signature_of secret t body)) (first ∷ others)
    then (if is_old t now tolerance then Old else Good)
    else Mismatch

-- the verdict on a header for this secret and body, at a moment and with a tolerance in seconds
abbrev pub verdict_of : List ℕ → List ℕ → List ℕ → ℕ → ℕ → Verdict
verdict_of header secret body now tolerance =
    judged (moment_of header) (values_of (codes "v1") header) secret body now tolerance
