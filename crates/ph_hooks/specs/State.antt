-- The deliveries that a book keeps.
use Rattle.std.specs.Prelude.{ℕ, ◌==◌, if◌then◌else◌, List, [], map}
use Rattle.ph_delivery.specs.declared.delivery.Delivery.{Delivery}
use Rattle.ph_hooks.specs.declared.waiting.Waiting.{Waiting}

-- the deliveries in the order in which they were added, and the numbers of the endpoints that were
-- deleted
pub record HooksState : Type 0 where
  pub deliveries : List Waiting
  pub deleted : List ℕ

-- no delivery was added yet
abbrev pub empty : HooksState
empty = record { deliveries = []; deleted = [] }

-- one of this number is as far as this, and another stays as it is
abbrev pub renewed : ℕ → Delivery → Waiting → Waiting
renewed number delivery waiting =
    if waiting.number == number then record waiting { delivery = delivery } else waiting

-- those of this number are as far as this
abbrev pub all_renewed : ℕ → Delivery → List Waiting → List Waiting
all_renewed number delivery waitings = map (renewed number delivery) waitings
