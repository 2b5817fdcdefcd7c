-- Attempts by the doings that began them, and the confirmations that they belong to, read off the past.
use Rattle.std.specs.Prelude.{ℕ, suc, ◌==◌, if◌then◌else◌, List, [], ◌∷◌, length, Option, Some, None}
use Rattle.ph_facts.specs.Touches.{Confirms, Authenticates}
use Rattle.ph_doings.specs.Doings.{Doing, Leaves, Puts, Edits, Begins, Resumes, Parks, Settles}

-- the reference of the attempt that a doing begins
abbrev pub begun_by : Doing → Option ℕ
begun_by Leaves = None
begun_by (Puts intent status) = None
begun_by (Edits intent status) = None
begun_by (Begins cause intent flight) = Some flight.order.reference
begun_by (Resumes intent flight) = None
begun_by (Parks intent flight) = None
begun_by (Settles intent flight capture ruling) = None

-- the reference of the attempt that the doing of a place began
abbrev pub begun_at : List Doing → ℕ → Option ℕ
begun_at [] place = None
begun_at (doing ∷ past) place = if place == suc (length past) then begun_by doing else begun_at past place

-- the last confirmation of a payment intent after the doing of a place
abbrev pub confirmation_after : Doing → ℕ → ℕ → ℕ → ℕ
confirmation_after Leaves place intent old = old
confirmation_after (Puts of status) place intent old = old
confirmation_after (Edits of status) place intent old = old
confirmation_after (Begins Confirms of flight) place intent old = if intent == of then place else old
confirmation_after (Begins Authenticates of flight) place intent old = old
confirmation_after (Resumes of flight) place intent old = old
confirmation_after (Parks of flight) place intent old = old
confirmation_after (Settles of flight capture ruling) place intent old = old

-- the place of the last confirmation of a payment intent, or 0
abbrev pub confirmation_of : List Doing → ℕ → ℕ
confirmation_of [] intent = 0
confirmation_of (doing ∷ past) intent = confirmation_after doing (suc (length past)) intent (confirmation_of past intent)

-- the attempts of a confirmation after the doing of a place, where `current` is the last confirmation of each payment intent
-- before it: a confirmation begins the first, and each authentication before the next confirmation a further one
abbrev pub attempts_with : Doing → ℕ → (ℕ → ℕ) → ℕ → List ℕ → List ℕ
attempts_with Leaves place current confirmation old = old
attempts_with (Puts intent status) place current confirmation old = old
attempts_with (Edits intent status) place current confirmation old = old
attempts_with (Begins Confirms intent flight) place current confirmation old =
    if confirmation == place then flight.order.reference ∷ [] else old
attempts_with (Begins Authenticates intent flight) place current confirmation old =
    if confirmation == current intent then flight.order.reference ∷ old else old
attempts_with (Resumes intent flight) place current confirmation old = old
attempts_with (Parks intent flight) place current confirmation old = old
attempts_with (Settles intent flight capture ruling) place current confirmation old = old

-- the attempts of the confirmation of a place, newest first
abbrev pub attempts_of_confirmation : List Doing → ℕ → List ℕ
attempts_of_confirmation [] confirmation = []
attempts_of_confirmation (doing ∷ past) confirmation =
    attempts_with doing (suc (length past)) (confirmation_of past) confirmation (attempts_of_confirmation past confirmation)

-- all but the first
abbrev pub all_but_first : List ℕ → List ℕ
all_but_first [] = []
all_but_first (first ∷ others) = others
