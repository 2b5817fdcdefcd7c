-- When each doing may come.
use Rattle.std.specs.Prelude.{◌≡◌, suc, true, List, [], ◌∷◌, length, Some}
use Rattle.ph_doings.specs.Doings.{Doing, Leaves, Puts, Edits, Begins, Resumes, Parks, Settles}
use Rattle.ph_doings.specs.Runs.{Flies, live_run}
use Rattle.ph_doings.specs.Standings.{Live, Parked, NotBegun, Stands, standing_of}
use Rattle.ph_facts.specs.Statuses.{may_begin, may_put}
use Rattle.ph_doings.specs.Statuses.{status_of}

-- what may come after the past: whatever leaves all as it is; a payment intent put where the table says, or edited at its
-- status; an attempt that hasn't begun, of a payment intent that may be confirmed or waits for its customer; a parked attempt
-- taken up again with its order; and the end of a live run, by its own caller. A run has the number of the place where it begins
abbrev pub MayDo : List Doing → Doing → Type 0
MayDo past Leaves = Unit {0}
MayDo past (Puts intent status) = may_put (status_of past intent) status ≡ true
MayDo past (Edits intent status) = status_of past intent ≡ Some status
MayDo past (Begins cause intent flight) = (flight.run ≡ suc (length past))
    × (standing_of past flight.order.reference ≡ NotBegun) × (may_begin cause (status_of past intent) ≡ true)
MayDo past (Resumes intent flight) = (flight.run ≡ suc (length past))
    × (standing_of past flight.order.reference ≡ Stands intent flight.order Parked)
MayDo past (Parks intent flight) = (live_run past flight.run ≡ Flies flight)
    × (standing_of past flight.order.reference ≡ Stands intent flight.order Live)
MayDo past (Settles intent flight capture ruling) = (live_run past flight.run ≡ Flies flight)
    × (standing_of past flight.order.reference ≡ Stands intent flight.order Live)

-- each of these doings might come after those before it
abbrev pub IsLawful : List Doing → Type 0
IsLawful [] = Unit {0}
IsLawful (doing ∷ past) = MayDo past doing × IsLawful past
