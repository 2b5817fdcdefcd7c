-- The newest attempt of each payment intent and the newest run of each attempt, by which what holds is said with plain equations.
use Rattle.std.specs.Prelude.{ℕ, ◌==◌, Bool, true, false, if◌then◌else◌, List, [], ◌∷◌, Option, Some, None}
use Rattle.ph_items.specs.declared.orders.Order.{Order}
use Rattle.ph_doings.specs.Doings.{Doing, Leaves, Puts, Edits, Begins, Resumes, Parks, Settles}
use Rattle.ph_doings.specs.Runs.{Run, NoRun, Flies}
use Rattle.ph_doings.specs.Standings.{Live, Parked, Settled, Standing, NotBegun, Stands}

-- the newest attempt of a payment intent after a doing
abbrev pub last_after : Doing → ℕ → ℕ → ℕ
last_after Leaves intent old = old
last_after (Puts of status) intent old = old
last_after (Edits of status) intent old = old
last_after (Begins cause of flight) intent old = if intent == of then flight.order.reference else old
last_after (Resumes of flight) intent old = old
last_after (Parks of flight) intent old = old
last_after (Settles of flight capture ruling) intent old = old

-- the newest attempt of a payment intent, or 0
abbrev pub last_of : List Doing → ℕ → ℕ
last_of [] intent = 0
last_of (doing ∷ past) intent = last_after doing intent (last_of past intent)

-- the newest run of an attempt after a doing
abbrev pub newest_run_after : Doing → ℕ → ℕ → ℕ
newest_run_after Leaves reference old = old
newest_run_after (Puts intent status) reference old = old
newest_run_after (Edits intent status) reference old = old
newest_run_after (Begins cause intent flight) reference old = if reference == flight.order.reference then flight.run else old
newest_run_after (Resumes intent flight) reference old = if reference == flight.order.reference then flight.run else old
newest_run_after (Parks intent flight) reference old = old
newest_run_after (Settles intent flight capture ruling) reference old = old

-- the newest run of an attempt, or 0
abbrev pub run_of : List Doing → ℕ → ℕ
run_of [] reference = 0
run_of (doing ∷ past) reference = newest_run_after doing reference (run_of past reference)

-- the order of a run that is live
abbrev pub order_flown : Run → Option Order
order_flown NoRun = None
order_flown (Flies flight) = Some flight.order

-- the attempt has begun
abbrev pub has_begun : Standing → Bool
has_begun NotBegun = false
has_begun (Stands intent order state) = true

-- the order of an attempt that is live
abbrev pub live_order : Standing → Option Order
live_order NotBegun = None
live_order (Stands intent order Live) = Some order
live_order (Stands intent order Parked) = None
live_order (Stands intent order (Settled ruling)) = None
