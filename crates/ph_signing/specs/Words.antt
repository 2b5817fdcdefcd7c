-- What the words of the command line ask for.
use Rattle.std.specs.Prelude.{ℕ, nat_le, bytes_eq, if◌then◌else◌, List, [], ◌∷◌, codes, Option, Some, None}
use Rattle.ph_base.specs.Numbers.{number_in}
use Rattle.ph_items.specs.Clocks.{clock_limit}
use Rattle.ph_signing.specs.declared.words.Times.{Times}

-- what the words may ask for
pub data Asked : Type 0 where
  -- the header of a body under a secret at a moment
  Sign : List ℕ → ℕ → Asked
  -- the verdict on a body under a secret with a header, at a moment and with a tolerance
  Verify : List ℕ → List ℕ → ℕ → ℕ → Asked
  -- something else
  Other : Asked

-- a moment, where a clock shows it
abbrev pub shown : Option ℕ → Option ℕ
shown None = None
shown (Some moment) = if nat_le moment clock_limit then Some moment else None

-- the moment of a `sign`, where the command is that and its moment is one that a clock shows
abbrev pub sign_moment : List ℕ → List ℕ → Option ℕ
sign_moment word t = if bytes_eq word (codes "sign") then shown (number_in t) else None

-- two numbers, where both are
abbrev pub times_of : Option ℕ → Option ℕ → Option Times
times_of None tolerance = None
times_of (Some now) None = None
times_of (Some now) (Some tolerance) = Some (record { now = now; tolerance = tolerance })

-- the moment and the tolerance of a `verify`, where the command is that and both are numbers
abbrev pub verify_times : List ℕ → List ℕ → List ℕ → Option Times
verify_times word now tolerance =
    if bytes_eq word (codes "verify") then times_of (number_in now) (number_in tolerance) else None

abbrev pub sign_at : List ℕ → Option ℕ → Asked
sign_at secret None = Other
sign_at secret (Some t) = Sign secret t

abbrev pub verify_at : List ℕ → List ℕ → Option Times → Asked
verify_at secret header None = Other
verify_at secret header (Some times) = Verify secret header times.now times.tolerance

-- what the words ask for: `sign SECRET T`, `verify SECRET HEADER NOW TOLERANCE`, or something else
abbrev pub asked_by : List (List ℕ) → Asked
asked_by [] = Other
asked_by (word ∷ []) = Other
asked_by (word ∷ secret ∷ []) = Other
asked_by (word ∷ secret ∷ t ∷ []) = sign_at secret (sign_moment word t)
asked_by (word ∷ secret ∷ header ∷ now ∷ []) = Other
asked_by (word ∷ secret ∷ header ∷ now ∷ tolerance ∷ []) =
    verify_at secret header (verify_times word now tolerance)
asked_by (word ∷ secret ∷ header ∷ now ∷ tolerance ∷ more ∷ words) = Other
