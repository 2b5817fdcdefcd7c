-- The destination of a payment intent: the connected account to which what is captured goes.
use Rattle.std.specs.Prelude.{ℕ, List, Option, None, Some, Result, Ok, Err, codes}
use Rattle.ph_accounts.specs.Naming.{connected_named}
use Rattle.ph_errors.specs.declared.api_error.ApiError.{ApiError}
use Rattle.ph_errors.specs.Table.{error_of, NoSuchObject}
use Rattle.ph_facts.specs.Outcomes.{Outcome, Refuses}
use Rattle.ph_rows.specs.declared.rows.Row.{Row}

-- the destination that was found, or the error of one that isn't there
abbrev pub to_found : Option ℕ → Result (Option ℕ) ApiError
to_found None = Err (error_of (NoSuchObject (codes "transfer_data[destination]")))
to_found (Some account) = Ok (Some account)

-- the destination that a create names, or none where it names none
abbrev pub destination_of : List Row → Option (List ℕ) → Result (Option ℕ) ApiError
destination_of rows None = Ok None
destination_of rows (Some text) = to_found (connected_named rows text)

-- what is made with it, or its error
abbrev pub with_destination : (Option ℕ → Outcome) → Result (Option ℕ) ApiError → Outcome
with_destination make (Ok destination) = make destination
with_destination make (Err error) = Refuses error
