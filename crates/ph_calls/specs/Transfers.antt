-- The create of a transfer, and of a reversal of one.
use Rattle.std.specs.Prelude.{ℕ, List, Option, Some}
use Rattle.ph_errors.specs.declared.api_error.ApiError.{ApiError}
use Rattle.ph_money.specs.declared.currencies.Currency.{Currency}
use Rattle.ph_kinds.specs.declared.metadata.Meta.{Meta}
use Rattle.ph_calls.specs.Check.{zero_error}
use Rattle.ph_calls.specs.declared.call.CreateTransfer.{CreateTransfer}
use Rattle.ph_calls.specs.declared.call.ReverseTransfer.{ReverseTransfer}

-- the transfer
abbrev pub create_transfer :
    ℕ → Currency → List ℕ → Option (List ℕ) → Option (List ℕ) → Option Meta → Option (List ℕ) → CreateTransfer
create_transfer amount currency destination source_transaction description metadata transfer_group = record {
  amount = amount;
  currency = currency;
  destination = destination;
  source_transaction = source_transaction;
  description = description;
  metadata = metadata;
  transfer_group = transfer_group;
}

-- its further check: an amount of 0
abbrev pub create_transfer_error : CreateTransfer → Option ApiError
create_transfer_error c = zero_error (Some c.amount)

-- the reversal of the transfer with this id
abbrev pub reverse_transfer : List ℕ → Option ℕ → Option Meta → ReverseTransfer
reverse_transfer id amount metadata = record { id = id; amount = amount; metadata = metadata }

-- its further check: an amount of 0
abbrev pub reverse_transfer_error : ReverseTransfer → Option ApiError
reverse_transfer_error c = zero_error c.amount
