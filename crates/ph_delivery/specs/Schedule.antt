-- How far a delivery is, and when it is sent again.
use Rattle.std.specs.Prelude.{ℕ, ◌+◌, ◌==◌, if◌then◌else◌, Option, Some, None}
use Rattle.ph_delivery.specs.declared.outcome.Outcome.{Outcome}
use Rattle.ph_delivery.specs.declared.outcome.Outcome.TheVariants as outcome
use Rattle.ph_delivery.specs.declared.delivery.Delivery.{Delivery}
use Rattle.ph_delivery.specs.declared.delivery.DeliveryState.{DeliveryState}
use Rattle.ph_delivery.specs.declared.delivery.DeliveryState.TheVariants.{Due, Out, Accepted, GivenUp}

-- a delivery is due from the moment of its event on
abbrev pub begun_at : ℕ → Delivery
begun_at at = record { tries = 0; state = Due at }

-- how many seconds after so many attempts that failed the next one is due, where there is one
abbrev pub wait_after : ℕ → Option ℕ
wait_after tries =
    if tries == 1 then Some 60
    else if tries == 2 then Some 3600
    else if tries == 3 then Some 10800
    else None

-- a delivery that wasn't accepted is due again after a wait, or is given up
abbrev pub due_after : Option ℕ → ℕ → DeliveryState
due_after (Some wait) now = Due (now + wait)
due_after None now = GivenUp

-- the moment from which on it is to be sent
abbrev pub moment_in : DeliveryState → Option ℕ
moment_in (Due moment) = Some moment
moment_in (Out moment) = None
moment_in Accepted = None
moment_in GivenUp = None

abbrev pub moment_of : Delivery → Option ℕ
moment_of delivery = moment_in delivery.state

-- one that is due is out once it was taken
abbrev pub taken_in : DeliveryState → DeliveryState
taken_in (Due moment) = Out moment
taken_in (Out moment) = Out moment
taken_in Accepted = Accepted
taken_in GivenUp = GivenUp

abbrev pub taken_of : Delivery → Delivery
taken_of delivery = record delivery { state = taken_in delivery.state }

-- a delivery that was due from a moment on and was sent the tries-th time: accepted, due again or
-- given up; one that was dropped is due as before, and wasn't sent
abbrev pub settled : Outcome → ℕ → ℕ → ℕ → Delivery
settled outcome.Accepted now moment tries = record { tries = tries + 1; state = Accepted }
settled (outcome.Refused status) now moment tries =
    record { tries = tries + 1; state = due_after (wait_after (tries + 1)) now }
settled outcome.Unreached now moment tries =
    record { tries = tries + 1; state = due_after (wait_after (tries + 1)) now }
settled outcome.Dropped now moment tries = record { tries = tries; state = Due moment }

-- what is told of one that isn't out changes nothing
abbrev pub told_in : DeliveryState → Outcome → ℕ → ℕ → Delivery
told_in (Out moment) outcome now tries = settled outcome now moment tries
told_in (Due moment) outcome now tries = record { tries = tries; state = Due moment }
told_in Accepted outcome now tries = record { tries = tries; state = Accepted }
told_in GivenUp outcome now tries = record { tries = tries; state = GivenUp }

-- the delivery once an outcome was told at a moment
abbrev pub told_of : Outcome → ℕ → Delivery → Delivery
told_of outcome now delivery = told_in delivery.state outcome now delivery.tries
