-- The transfer.
use Rattle.std.specs.Prelude.{ℕ, ◌+◌, ◌==◌, int_lt, if◌then◌else◌, pos, List, Option, None, Some, codes}
use Rattle.ph_accounts.specs.Naming.{connected_named}
use Rattle.ph_base.specs.declared.ids.Kind.TheVariants as kind
use Rattle.ph_calls.specs.declared.call.CreateTransfer.{CreateTransfer}
use Rattle.ph_errors.specs.Table.{error_of, BalanceInsufficient, InvalidValue, NoSuchObject, PlatformOnly}
use Rattle.ph_facts.specs.Outcomes.{Outcome, Refuses, Adds}
use Rattle.ph_facts.specs.Touches.{Untouched}
use Rattle.ph_items.specs.declared.charges.Capture.{Capture}
use Rattle.ph_items.specs.declared.charges.Charge.{Charge}
use Rattle.ph_items.specs.Accounts.{platform}
use Rattle.ph_items.specs.Items.{charge_in}
use Rattle.ph_items.specs.Movements.{currency_number}
use Rattle.ph_rows.specs.declared.rows.Row.{Row}
use Rattle.ph_rows.specs.Balances.{available_of}
use Rattle.ph_rows.specs.Batches.{BatchState, last_place}
use Rattle.ph_rows.specs.Names.{object_named}
use Rattle.ph_transfers.specs.Entry.{Drawn, left_to_transfer, with_transfer}
use Rattle.ph_transfers.specs.Found.{is_too_much, made_of_row}

-- the transfer to an account, drawn on a charge or not; the answer is the transfer
abbrev pub transfer_made : CreateTransfer → ℕ → Option Drawn → BatchState → Outcome
transfer_made call destination drawn batch =
    Adds Untouched (last_place batch + 1) (with_transfer call destination drawn batch)

-- the transfer out of the platform's balance: no more than is available of it now
abbrev pub transfer_of_balance : ℕ → List Row → CreateTransfer → BatchState → ℕ → Outcome
transfer_of_balance now rows call batch destination =
    if int_lt (available_of platform call.currency now rows) (pos call.amount) then Refuses (error_of BalanceInsufficient)
    else transfer_made call destination None batch

-- the transfer drawn on a captured charge, of no more than is left of it
abbrev pub transfer_left : CreateTransfer → BatchState → ℕ → Drawn → Outcome
transfer_left call batch destination drawn =
    if is_too_much (left_to_transfer drawn.charge) call.amount then Refuses (error_of (InvalidValue (codes "amount")))
    else transfer_made call destination (Some drawn) batch

-- the same, in the charge's currency
abbrev pub transfer_drawn : CreateTransfer → BatchState → ℕ → Drawn → Outcome
transfer_drawn call batch destination drawn =
    if currency_number call.currency == currency_number drawn.charge.currency then transfer_left call batch destination drawn
    else Refuses (error_of (InvalidValue (codes "currency")))

-- the transfer drawn on a charge with this capture, or none: one that isn't captured is no source
abbrev pub transfer_by : CreateTransfer → BatchState → ℕ → Row → Charge → Option Capture → Outcome
transfer_by call batch destination row charge None = Refuses (error_of (NoSuchObject (codes "source_transaction")))
transfer_by call batch destination row charge (Some capture) =
    transfer_drawn call batch destination (record { row = row; charge = charge; capture = capture })

-- the transfer drawn on the charge whose version a row has
abbrev pub transfer_of : CreateTransfer → BatchState → ℕ → Row → Charge → Outcome
transfer_of call batch destination row charge = transfer_by call batch destination row charge charge.capture

-- the transfer to an account, where this is made of the charge that it is drawn on: of the card charge that a text names, whatever
-- the charge's account; out of the balance where none is named
abbrev pub transfer_from : (ℕ → Row → Charge → Outcome) → ℕ → List Row → CreateTransfer → BatchState → ℕ → Option (List ℕ) → Outcome
transfer_from drawn now rows call batch destination None = transfer_of_balance now rows call batch destination
transfer_from drawn now rows call batch destination (Some text) =
    made_of_row (drawn destination) charge_in (codes "source_transaction") (object_named rows kind.Charge text)

-- the same to the connected account that was found, where one was
abbrev pub transfer_to : (ℕ → Row → Charge → Outcome) → ℕ → List Row → CreateTransfer → BatchState → Option ℕ → Outcome
transfer_to drawn now rows call batch None = Refuses (error_of (NoSuchObject (codes "destination")))
transfer_to drawn now rows call batch (Some destination) =
    transfer_from drawn now rows call batch destination call.source_transaction

-- the same by an account at a time: only the platform makes transfers
abbrev pub transfer_with : (ℕ → Row → Charge → Outcome) → ℕ → List Row → ℕ → CreateTransfer → BatchState → Outcome
transfer_with drawn now rows account call batch =
    if account == platform then transfer_to drawn now rows call batch (connected_named rows call.destination)
    else Refuses (error_of PlatformOnly)

-- the transfer by an account at a time
abbrev pub transfer_outcome : ℕ → List Row → ℕ → CreateTransfer → BatchState → Outcome
transfer_outcome now rows account call batch = transfer_with (transfer_of call batch) now rows account call batch
