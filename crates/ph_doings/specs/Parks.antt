-- Parked attempts, in the order of their last parks, read off the past. Places count from 1.
use Rattle.std.specs.Prelude.{ℕ, suc, ◌==◌, ◌&&◌, if◌then◌else◌, List, [], ◌∷◌, ◌++◌, length, Option, Some, None}
use Rattle.ph_items.specs.declared.orders.Order.{Order}
use Rattle.ph_doings.specs.Doings.{Doing, Leaves, Puts, Edits, Begins, Resumes, Parks, Settles}
use Rattle.ph_doings.specs.Standings.{is_parked, standing_of}

-- the place of the last park of an attempt after the doing of a place
abbrev pub last_park_after : Doing → ℕ → ℕ → ℕ → ℕ
last_park_after Leaves place reference old = old
last_park_after (Puts intent status) place reference old = old
last_park_after (Edits intent status) place reference old = old
last_park_after (Begins cause intent flight) place reference old = old
last_park_after (Resumes intent flight) place reference old = old
last_park_after (Parks intent flight) place reference old = if reference == flight.order.reference then place else old
last_park_after (Settles intent flight capture ruling) place reference old = old

-- the place of the last park of an attempt, or 0
abbrev pub parked_at : List Doing → ℕ → ℕ
parked_at [] reference = 0
parked_at (doing ∷ past) reference = last_park_after doing (suc (length past)) reference (parked_at past reference)

-- the order of the attempt that the doing of a place parks, where after the past it is parked, and since that doing
abbrev pub parked_since : List Doing → Doing → ℕ → List Order
parked_since past Leaves place = []
parked_since past (Puts intent status) place = []
parked_since past (Edits intent status) place = []
parked_since past (Begins cause intent flight) place = []
parked_since past (Resumes intent flight) place = []
parked_since past (Parks intent flight) place =
    if is_parked (standing_of past flight.order.reference) && place == parked_at past flight.order.reference
    then flight.order ∷ [] else []
parked_since past (Settles intent flight capture ruling) place = []

-- the orders of the attempts that are parked after the past since one of these doings, with which it began
abbrev pub parked_among : List Doing → List Doing → List Order
parked_among past [] = []
parked_among past (doing ∷ older) = parked_among past older ++ parked_since past doing (suc (length older))

-- the orders of the parked attempts, in the order of their last parks
abbrev pub parked_attempts : List Doing → List Order
parked_attempts past = parked_among past past

-- the first, where there is one
abbrev pub first_in : List Order → Option Order
first_in [] = None
first_in (first ∷ others) = Some first

-- the order of the parked attempt whose last park stands earliest
abbrev pub first_parked : List Doing → Option Order
first_parked past = first_in (parked_attempts past)
