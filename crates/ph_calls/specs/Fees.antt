-- The create of a refund of an application fee.
use Rattle.std.specs.Prelude.{ℕ, List, Option}
use Rattle.ph_errors.specs.declared.api_error.ApiError.{ApiError}
use Rattle.ph_kinds.specs.declared.metadata.Meta.{Meta}
use Rattle.ph_calls.specs.Check.{zero_error}
use Rattle.ph_calls.specs.declared.call.RefundFee.{RefundFee}

-- the refund of the application fee with this id
abbrev pub refund_fee : List ℕ → Option ℕ → Option Meta → RefundFee
refund_fee id amount metadata = record { id = id; amount = amount; metadata = metadata }

-- its further check: an amount of 0
abbrev pub refund_fee_error : RefundFee → Option ApiError
refund_fee_error c = zero_error c.amount
