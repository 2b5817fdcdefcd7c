-- The charge that a refund names: by its own id, or as the latest charge of a payment intent.
use Rattle.std.specs.Prelude.{ℕ, List, Option, None, Some, codes, option_and_then}
use Rattle.ph_base.specs.declared.ids.Kind.TheVariants as kind
use Rattle.ph_facts.specs.Outcomes.{Outcome, Refuses}
use Rattle.ph_errors.specs.Table.{error_of, NoSuchObject, ParameterMissing}
use Rattle.ph_rows.specs.declared.rows.Row.{Row}
use Rattle.ph_items.specs.declared.charges.Charge.{Charge}
use Rattle.ph_items.specs.Items.{charge_in, latest_charge_in}
use Rattle.ph_rows.specs.Names.{object_named}
use Rattle.ph_rows.specs.Rows.{latest_of}

-- the present version of the latest charge of the payment intent in a row, where it has one
abbrev pub latest_version_in : List Row → Row → Option Row
latest_version_in rows row = option_and_then (λ number. latest_of number rows) (latest_charge_in row.item)

-- the present version of the latest charge of the payment intent whose printed id a text is
abbrev pub latest_charge_named : List Row → List ℕ → Option Row
latest_charge_named rows text = option_and_then (latest_version_in rows) (object_named rows kind.Intent text)

-- what is made of a version of a charge, where there is one; else the parameter names none
abbrev pub made_of : (Row → Charge → Outcome) → List ℕ → Row → Option Charge → Outcome
made_of operation param row None = Refuses (error_of (NoSuchObject param))
made_of operation param row (Some charge) = operation row charge

-- what is made of a row and its version of a charge, where there is one; else the parameter names none
abbrev pub made_of_row : (Row → Charge → Outcome) → List ℕ → Option Row → Outcome
made_of_row operation param None = Refuses (error_of (NoSuchObject param))
made_of_row operation param (Some row) = made_of operation param row (charge_in row.item)

-- what is made of the charge that one of two parameters names; where not exactly one of them is there, it is refused as
-- its request is
abbrev pub made_at : (Row → Charge → Outcome) → List Row → Option (List ℕ) → Option (List ℕ) → Outcome
made_at operation rows (Some charge) None = made_of_row operation (codes "charge") (object_named rows kind.Charge charge)
made_at operation rows None (Some intent) = made_of_row operation (codes "payment_intent") (latest_charge_named rows intent)
made_at operation rows None None = Refuses (error_of (ParameterMissing (codes "charge")))
made_at operation rows (Some charge) (Some intent) = Refuses (error_of (ParameterMissing (codes "charge")))
