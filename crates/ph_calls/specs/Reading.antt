-- Reading a request as a call.
use Rattle.std.specs.Prelude.{ℕ, List, [], Option, map, unwrap_or, Result, Ok, Err}
use Rattle.ph_errors.specs.declared.api_error.ApiError.{ApiError}
use Rattle.ph_errors.specs.Table.{Problem, UnrecognizedUrl, BadName, Clash, TooDeep, NoMemory, error_of}
use Rattle.ph_form.specs.declared.fault.FormFault.{FormFault}
use Rattle.ph_form.specs.declared.fault.FormFault.TheVariants as fault
use Rattle.ph_form.specs.declared.leaf.Leaf.{Leaf}
use Rattle.ph_form.specs.Leaves.{leaves_of}
use Rattle.ph_form.specs.Pairs.{pairs_in}
use Rattle.ph_http.specs.declared.message.Raw.{Raw}
use Rattle.ph_calls.specs.declared.row.Name.{Name}
use Rattle.ph_calls.specs.declared.row.Name.TheVariants as name
use Rattle.ph_calls.specs.declared.call.Call.{Call}
use Rattle.ph_calls.specs.declared.call.Call.TheVariants as call
use Rattle.ph_calls.specs.Accounts.{create_account}
use Rattle.ph_calls.specs.Check.{unless_error}
use Rattle.ph_calls.specs.Clock.{set_clock, set_clock_error}
use Rattle.ph_calls.specs.Disputes.{send_evidence}
use Rattle.ph_calls.specs.Fees.{refund_fee, refund_fee_error}
use Rattle.ph_calls.specs.Intents.{authenticate_intent, cancel_intent, capture_intent, confirm_intent, create_intent, create_intent_error, update_intent}
use Rattle.ph_calls.specs.Refunds.{create_refund, create_refund_error}
use Rattle.ph_calls.specs.Routes.{Route, Nowhere, To, route_in}
use Rattle.ph_calls.specs.Parameters.{given, name_of, unknown_error, with_value}
use Rattle.ph_calls.specs.Table.{params_of, table}
use Rattle.ph_calls.specs.Transfers.{create_transfer, create_transfer_error, reverse_transfer, reverse_transfer_error}

-- the problem of a form that can't be read; the definition of a form never wants memory
abbrev pub fault_of : FormFault → Problem
fault_of (fault.BadName at) = BadName at
fault_of (fault.Clash at) = Clash at
fault_of (fault.TooDeep at) = TooDeep at
fault_of fault.NoMemory = NoMemory

-- a call, or the error in its place
abbrev pub as_call : {X : Type 0} → (X → Call) → Result X ApiError → Result Call ApiError
as_call call (Ok made) = Ok (call made)
as_call call (Err error) = Err error

-- a call, unless its first further check fails
abbrev pub checked : {X : Type 0} → (X → Option ApiError) → (X → Call) → X → Result Call ApiError
checked error call made = unless_error (error made) (Ok (call made))

-- the call of an account that an id and a form make, or the error of the first parameter, or further check, that has one
abbrev pub call_of : ℕ → Name → List ℕ → List Leaf → Result Call ApiError
call_of account name.CreateIntent id leaves =
    with_value (given (params_of name.CreateIntent) create_intent leaves) (checked (create_intent_error account) call.CreateIntent)
call_of account name.UpdateIntent id leaves = as_call call.UpdateIntent (given (params_of name.UpdateIntent) (update_intent id) leaves)
call_of account name.ConfirmIntent id leaves = as_call call.ConfirmIntent (given (params_of name.ConfirmIntent) (confirm_intent id) leaves)
call_of account name.CaptureIntent id leaves = as_call call.CaptureIntent (given (params_of name.CaptureIntent) (capture_intent id) leaves)
call_of account name.CancelIntent id leaves = as_call call.CancelIntent (given (params_of name.CancelIntent) (cancel_intent id) leaves)
call_of account name.CreateRefund id leaves =
    with_value (given (params_of name.CreateRefund) create_refund leaves) (checked create_refund_error call.CreateRefund)
call_of account name.SendEvidence id leaves = as_call call.SendEvidence (given (params_of name.SendEvidence) (send_evidence id) leaves)
call_of account name.CloseDispute id leaves = Ok (call.CloseDispute (record { id = id }))
call_of account name.CreateAccount id leaves = as_call call.CreateAccount (given (params_of name.CreateAccount) create_account leaves)
call_of account name.CreateTransfer id leaves =
    with_value (given (params_of name.CreateTransfer) create_transfer leaves) (checked create_transfer_error call.CreateTransfer)
call_of account name.ReverseTransfer id leaves =
    with_value (given (params_of name.ReverseTransfer) (reverse_transfer id) leaves) (checked reverse_transfer_error call.ReverseTransfer)
call_of account name.RefundFee id leaves =
    with_value (given (params_of name.RefundFee) (refund_fee id) leaves) (checked refund_fee_error call.RefundFee)
call_of account (name.Retrieve kind) id leaves = Ok (call.Retrieve (record { kind = kind; id = id }))
call_of account name.GetBalance id leaves = Ok (call.GetBalance (record {}))
call_of account name.SetClock id leaves = with_value (given (params_of name.SetClock) set_clock leaves) (checked set_clock_error call.SetClock)
call_of account name.Authenticate id leaves = as_call call.Authenticate (given (params_of name.Authenticate) (authenticate_intent id) leaves)

-- what a request of this call by an account, with this id and form, is read as
abbrev pub reading_by : ℕ → Name → List ℕ → Result (List Leaf) FormFault → Result Call ApiError
reading_by account name id (Err fault) = Err (error_of (fault_of fault))
reading_by account name id (Ok leaves) = unless_error (unknown_error (map name_of (params_of name)) leaves) (call_of account name id leaves)

-- what a request by an account with this route and form is read as
abbrev pub reading_at : ℕ → Route → Result (List Leaf) FormFault → Result Call ApiError
reading_at account Nowhere form = Err (error_of UnrecognizedUrl)
reading_at account (To line id) form = reading_by account line.call id form

-- the form of a request: that of its query and its body
abbrev pub form_of : Raw → Result (List Leaf) FormFault
form_of raw = leaves_of (pairs_in (unwrap_or raw.query []) raw.body)

-- what a request by an account is read as: a call, or its first error
abbrev pub reading_of : ℕ → Raw → Result Call ApiError
reading_of account raw = reading_at account (route_in table raw.method raw.path) (form_of raw)
