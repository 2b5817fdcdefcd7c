-- Where each attempt stands, read off the past.
use Rattle.std.specs.Prelude.{ℕ, ◌==◌, ◌&&◌, Bool, true, false, if◌then◌else◌, List, [], ◌∷◌}
use Rattle.ph_base.specs.declared.acquirer.Ruling.{Ruling}
use Rattle.ph_base.specs.declared.acquirer.Ruling.TheVariants as ruling
use Rattle.ph_items.specs.declared.orders.Order.{Order}
use Rattle.ph_doings.specs.Doings.{Doing, Leaves, Puts, Edits, Begins, Resumes, Parks, Settles}

-- a run of the attempt is live; it waits to be taken up again; it is settled with a ruling
pub data State : Type 0 where
  Live Parked : State
  Settled : Ruling → State

-- where an attempt stands: it hasn't begun, or it is of a payment intent, under an order, in a state
pub data Standing : Type 0 where
  NotBegun : Standing
  Stands : (intent : ℕ) → Order → State → Standing

-- where an attempt stands after a doing
abbrev pub standing_after : Doing → ℕ → Standing → Standing
standing_after Leaves reference old = old
standing_after (Puts intent status) reference old = old
standing_after (Edits intent status) reference old = old
standing_after (Begins cause intent flight) reference old =
    if reference == flight.order.reference then Stands intent flight.order Live else old
standing_after (Resumes intent flight) reference old =
    if reference == flight.order.reference then Stands intent flight.order Live else old
standing_after (Parks intent flight) reference old =
    if reference == flight.order.reference then Stands intent flight.order Parked else old
standing_after (Settles intent flight capture ruling) reference old =
    if reference == flight.order.reference then Stands intent flight.order (Settled ruling) else old

-- where the attempt of a reference stands
abbrev pub standing_of : List Doing → ℕ → Standing
standing_of [] reference = NotBegun
standing_of (doing ∷ past) reference = standing_after doing reference (standing_of past reference)

-- no acquirer has ruled on the attempt yet
abbrev pub is_unsettled : State → Bool
is_unsettled Live = true
is_unsettled Parked = true
is_unsettled (Settled ruling) = false

-- it is an attempt of this payment intent that isn't settled
abbrev pub is_unsettled_of : ℕ → Standing → Bool
is_unsettled_of intent NotBegun = false
is_unsettled_of intent (Stands of order state) = intent == of && is_unsettled state

-- the attempt is settled with a challenge
abbrev pub is_challenged : Standing → Bool
is_challenged NotBegun = false
is_challenged (Stands intent order Live) = false
is_challenged (Stands intent order Parked) = false
is_challenged (Stands intent order (Settled ruling.Approved)) = false
is_challenged (Stands intent order (Settled (ruling.Declined decline))) = false
is_challenged (Stands intent order (Settled ruling.Challenge)) = true

-- the attempt waits to be taken up again
abbrev pub is_parked : Standing → Bool
is_parked NotBegun = false
is_parked (Stands intent order Live) = false
is_parked (Stands intent order Parked) = true
is_parked (Stands intent order (Settled ruling)) = false

-- it is an attempt of this payment intent that is settled with an approval
abbrev pub is_approved_of : ℕ → Standing → Bool
is_approved_of intent NotBegun = false
is_approved_of intent (Stands of order Live) = false
is_approved_of intent (Stands of order Parked) = false
is_approved_of intent (Stands of order (Settled ruling.Approved)) = intent == of
is_approved_of intent (Stands of order (Settled (ruling.Declined decline))) = false
is_approved_of intent (Stands of order (Settled ruling.Challenge)) = false
