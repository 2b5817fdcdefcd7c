-- The attempts that aren't settled, and what each step leaves of them: it drops at most one, and puts at most one behind the
-- others.
use Rattle.std.specs.Prelude.{ℕ, ◌==◌, ◌&&◌, Bool, true, false, not, List, [], ◌∷◌, ◌++◌, Option, option_map}
use Rattle.std.specs.List.{filter, find, list_any}
use Rattle.ph_items.specs.declared.orders.Order.{Order}
use Rattle.ph_attempts.specs.declared.flights.Flight.{Flight}
use Rattle.ph_attempts.specs.declared.flights.Attempt.{Attempt}
use Rattle.ph_attempts.specs.declared.flights.Attempt.TheVariants.{Live, Parked}

-- an attempt begins, is taken up again, is parked or is settled, by this run of it
pub data Step : Type 0 where
  Begins Resumes Parks Settles : Flight → Step

-- the run that a step is of
abbrev pub flight_of : Step → Flight
flight_of (Begins flight) = flight
flight_of (Resumes flight) = flight
flight_of (Parks flight) = flight
flight_of (Settles flight) = flight

-- it is the same run of the same caller
abbrev pub is_same_run : Flight → Flight → Bool
is_same_run flight other = flight.run == other.run && flight.caller == other.caller

-- the attempt is live by this run of this caller
abbrev pub is_live_as : Flight → Attempt → Bool
is_live_as flight (Live other) = is_same_run flight other
is_live_as flight (Parked order) = false

-- it is the parked attempt of this reference
abbrev pub is_parked_under : ℕ → Attempt → Bool
is_parked_under reference (Live flight) = false
is_parked_under reference (Parked order) = reference == order.reference

-- an attempt is live by this run of this caller
abbrev pub has_live : Flight → List Attempt → Bool
has_live flight attempts = list_any (is_live_as flight) attempts

-- the attempt of this reference is parked
abbrev pub has_parked : ℕ → List Attempt → Bool
has_parked reference attempts = list_any (is_parked_under reference) attempts

-- all but what is live by this run of this caller
abbrev pub without_live : Flight → List Attempt → List Attempt
without_live flight attempts = filter (λ attempt. not (is_live_as flight attempt)) attempts

-- all but the parked attempt of this reference
abbrev pub without_parked : ℕ → List Attempt → List Attempt
without_parked reference attempts = filter (λ attempt. not (is_parked_under reference attempt)) attempts

-- the attempts after a step: a begin only adds, an end drops the run of its own number and caller, and a resume the parked
-- attempt of its reference
abbrev pub after : List Attempt → Step → List Attempt
after attempts (Begins flight) = attempts ++ Live flight ∷ []
after attempts (Resumes flight) = without_parked flight.order.reference attempts ++ Live flight ∷ []
after attempts (Parks flight) = without_live flight attempts ++ Parked flight.order ∷ []
after attempts (Settles flight) = without_live flight attempts

-- the live runs
abbrev pub live_in : List Attempt → List Flight
live_in [] = []
live_in (Live flight ∷ attempts) = flight ∷ live_in attempts
live_in (Parked order ∷ attempts) = live_in attempts

-- the orders of the parked attempts
abbrev pub parked_in : List Attempt → List Order
parked_in [] = []
parked_in (Live flight ∷ attempts) = parked_in attempts
parked_in (Parked order ∷ attempts) = order ∷ parked_in attempts

abbrev pub is_parked : Attempt → Bool
is_parked (Live flight) = false
is_parked (Parked order) = true

-- the reference of an attempt
abbrev pub reference_of : Attempt → ℕ
reference_of (Live flight) = flight.order.reference
reference_of (Parked order) = order.reference

-- the order of an attempt
abbrev pub order_of : Attempt → Order
order_of (Live flight) = flight.order
order_of (Parked order) = order

-- the reference of the first that is parked
abbrev pub first_parked : List Attempt → Option ℕ
first_parked attempts = option_map reference_of (find is_parked attempts)
