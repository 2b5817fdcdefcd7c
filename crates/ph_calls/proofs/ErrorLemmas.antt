-- The errors of requests that are no calls have few statuses.
use Rattle.std.proofs.Common.{◌≡◌, ℕ, Bool, true, false, cond, not, ◌&&◌, is_none, nat_lt, List, [], ◌∷◌, map, Option, Some, None, option_map, Result, Ok, Err, IfErr, IfSome, find, inl, inr, refl, codes}
use Rattle.ph_errors.specs.declared.api_error.ApiError.{ApiError}
use Rattle.ph_errors.specs.Table.{UnrecognizedUrl, BadName, Clash, TooDeep, ParameterUnknown, ParameterMissing, ParameterInvalidInteger, AmountTooSmall, AmountTooLarge, InvalidValue, NoSuchPaymentMethod, NoMemory, error_of}
use Rattle.ph_form.specs.declared.fault.FormFault.{FormFault}
use Rattle.ph_form.specs.declared.fault.FormFault.TheVariants as fault
use Rattle.ph_form.specs.declared.leaf.Leaf.{Leaf}
use Rattle.ph_http.specs.declared.message.Raw.{Raw}
use Rattle.ph_items.specs.Clocks.{clock_limit}
use Rattle.ph_kinds.specs.declared.flaw.Flaw.{Flaw}
use Rattle.ph_kinds.specs.declared.flaw.Flaw.TheVariants as flaw
use Rattle.ph_kinds.specs.Kind.{Kind}
use Rattle.ph_kinds.specs.Kinds.{Value}
use Rattle.ph_kinds.specs.Values.{value_at}
use Rattle.ph_money.specs.Currencies.{terms_of}
use Rattle.ph_calls.specs.declared.call.Call.{Call}
use Rattle.ph_calls.specs.declared.call.Call.TheVariants as call
use Rattle.ph_calls.specs.declared.call.CreateIntent.{CreateIntent}
use Rattle.ph_calls.specs.declared.call.CreateRefund.{CreateRefund}
use Rattle.ph_calls.specs.declared.call.SetClock.{SetClock}
use Rattle.ph_calls.specs.declared.row.Name.{Name}
use Rattle.ph_calls.specs.declared.row.Name.TheVariants as name
use Rattle.ph_calls.specs.Accounts.{create_account}
use Rattle.ph_calls.specs.Check.{IsNoCall, first_that_holds, is_zero, unless_error, zero_error}
use Rattle.ph_calls.specs.Clock.{set_clock, set_clock_error}
use Rattle.ph_calls.specs.Disputes.{send_evidence}
use Rattle.ph_calls.specs.Fees.{refund_fee, refund_fee_error}
use Rattle.ph_calls.specs.Intents.{authenticate_intent, cancel_intent, capture_intent, confirm_intent, connect_checks, create_intent, create_intent_error, update_intent}
use Rattle.ph_calls.specs.Parameters.{Parameter, Must, May, Ignored, Takes, given, is_known, may, must, name_of, unknown_error, unless_flawed, unless_missing, with_value}
use Rattle.ph_calls.specs.Reading.{as_call, call_of, checked, fault_of, form_of, reading_at, reading_by, reading_of}
use Rattle.ph_calls.specs.Refunds.{create_refund, create_refund_error, names_one}
use Rattle.ph_calls.specs.Routes.{Route, Nowhere, To, route_in}
use Rattle.ph_calls.specs.Table.{params_of, table}
use Rattle.ph_calls.specs.Transfers.{create_transfer, create_transfer_error, reverse_transfer, reverse_transfer_error}

-- the errors of the table
at_400 : (error : ApiError) → error.status ≡ 400 → IsNoCall error
at_400 error e = inl e

missing_error : (param : List ℕ) → IsNoCall (error_of (ParameterMissing param))
unfolding error_of
missing_error param = at_400 (error_of (ParameterMissing param)) refl

integer_error : (param : List ℕ) → IsNoCall (error_of (ParameterInvalidInteger param))
unfolding error_of
integer_error param = at_400 (error_of (ParameterInvalidInteger param)) refl

value_error : (param : List ℕ) → IsNoCall (error_of (InvalidValue param))
unfolding error_of
value_error param = at_400 (error_of (InvalidValue param)) refl

small_error : IsNoCall (error_of AmountTooSmall)
unfolding error_of
small_error = at_400 (error_of AmountTooSmall) refl

unknown_name_error : (param : List ℕ) → IsNoCall (error_of (ParameterUnknown param))
unfolding error_of
unknown_name_error param = at_400 (error_of (ParameterUnknown param)) refl

memory_error : IsNoCall (error_of NoMemory)
unfolding error_of
memory_error = inr (inr refl)

url_error : IsNoCall (error_of UnrecognizedUrl)
unfolding error_of
url_error = inr (inl refl)

fault_error : (fault : FormFault) → IsNoCall (error_of (fault_of fault))
unfolding error_of
fault_error (fault.BadName at) = at_400 (error_of (BadName at)) refl
fault_error (fault.Clash at) = at_400 (error_of (Clash at)) refl
fault_error (fault.TooDeep at) = at_400 (error_of (TooDeep at)) refl
fault_error fault.NoMemory = memory_error

-- a parameter
flawed_refused : {X : Type 0} (param : List ℕ) (read : Result X Flaw) → IfErr (unless_flawed param read) IsNoCall
unfolding error_of
flawed_refused param (Ok value) = tt
flawed_refused param (Err flaw.InvalidInteger) = integer_error param
flawed_refused param (Err flaw.AmountTooLarge) = at_400 (error_of (AmountTooLarge param)) refl
flawed_refused param (Err flaw.InvalidValue) = value_error param
flawed_refused param (Err flaw.NoSuchPaymentMethod) = at_400 (error_of (NoSuchPaymentMethod param)) refl
flawed_refused param (Err flaw.NoMemory) = memory_error

may_refused : (k : Kind) (param : List ℕ) (leaves : List Leaf) → IfErr (may k param leaves) IsNoCall
unfolding may
may_refused k param leaves = flawed_refused param (value_at k param leaves)

must_refused : (k : Kind) (param : List ℕ) (leaves : List Leaf) → IfErr (must k param leaves) IsNoCall
must_refused k param leaves = at (may k param leaves) (may_refused k param leaves)
  where
    at : (read : Result (Option (Value k)) ApiError) → IfErr read IsNoCall → IfErr (unless_missing param read) IsNoCall
    at (Ok (Some value)) h = tt
    at (Ok None) h = missing_error param
    at (Err error) h = h

with_refused : {X Y : Type 0} (read : Result X ApiError) (make : X → Result Y ApiError) → IfErr read IsNoCall
    → ((x : X) → IfErr (make x) IsNoCall) → IfErr (with_value read make) IsNoCall
with_refused (Ok x) make q h = h x
with_refused (Err error) make q h = q

given_refused : (X : Type 0) (params : List Parameter) (make : Takes params X) (leaves : List Leaf) → IfErr (given params make leaves) IsNoCall
unfolding given
given_refused X [] made leaves = tt
given_refused X (Must param k ∷ params) make leaves =
    with_refused (must k param leaves) (λ value. given params (make value) leaves) (must_refused k param leaves)
    (λ value. given_refused X params (make value) leaves)
given_refused X (May param k ∷ params) make leaves =
    with_refused (may k param leaves) (λ value. given params (make value) leaves) (may_refused k param leaves)
    (λ value. given_refused X params (make value) leaves)
given_refused X (Ignored param ∷ params) make leaves = given_refused X params make leaves

-- further checks
abbrev AllNoCall : List (Bool × ApiError) → Type 0
AllNoCall [] = Unit {0}
AllNoCall (check ∷ checks) = IsNoCall check.1 × AllNoCall checks

checks_refused : (checks : List (Bool × ApiError)) → AllNoCall checks → IfSome (first_that_holds checks) IsNoCall
checks_refused [] all = tt
checks_refused (check ∷ checks) all = at check.0 (checks_refused checks all.1)
  where
    at : (t : Bool) → IfSome (first_that_holds checks) IsNoCall → IfSome (cond t (Some check.1) (first_that_holds checks)) IsNoCall
    at true others = all.0
    at false others = others

unless_refused : {X : Type 0} (error : Option ApiError) (made : Result X ApiError) → IfSome error IsNoCall → IfErr made IsNoCall
    → IfErr (unless_error error made) IsNoCall
unless_refused None made e h = h
unless_refused (Some error) made e h = e

create_refused : (account : ℕ) (c : CreateIntent) → IfSome (create_intent_error account c) IsNoCall
create_refused account c =
    let checks : List (Bool × ApiError) =
    (nat_lt c.amount (terms_of c.currency).minimum, error_of AmountTooSmall) ∷
    (c.confirm && is_none c.payment_method, error_of (ParameterMissing (codes "payment_method"))) ∷ connect_checks account c in
    let of_fee = value_error (codes "application_fee_amount") in
    let all : AllNoCall checks =
    (small_error, (missing_error (codes "payment_method"), (of_fee, (of_fee, (value_error (codes "transfer_data[destination]"), tt))))) in
    checks_refused checks all

refund_refused : (c : CreateRefund) → IfSome (create_refund_error c) IsNoCall
refund_refused c =
    let checks : List (Bool × ApiError) =
    (not (names_one c), error_of (ParameterMissing (codes "charge"))) ∷ (is_zero c.amount, error_of (InvalidValue (codes "amount"))) ∷ [] in
    let all : AllNoCall checks = (missing_error (codes "charge"), (value_error (codes "amount"), tt)) in
    checks_refused checks all

zero_refused : (amount : Option ℕ) → IfSome (zero_error amount) IsNoCall
zero_refused amount =
    let checks : List (Bool × ApiError) = (is_zero amount, error_of (InvalidValue (codes "amount"))) ∷ [] in
    let all : AllNoCall checks = (value_error (codes "amount"), tt) in
    checks_refused checks all

clock_refused : (c : SetClock) → IfSome (set_clock_error c) IsNoCall
clock_refused c =
    let checks : List (Bool × ApiError) = (nat_lt clock_limit c.now, error_of (ParameterInvalidInteger (codes "now"))) ∷ [] in
    let all : AllNoCall checks = (integer_error (codes "now"), tt) in
    checks_refused checks all

-- a call without further checks, and one with some
as_refused : {X : Type 0} (call : X → Call) (read : Result X ApiError) → IfErr read IsNoCall → IfErr (as_call call read) IsNoCall
as_refused call (Ok c) h = tt
as_refused call (Err error) h = h

checked_refused : {X : Type 0} (error : X → Option ApiError) (call : X → Call) (read : Result X ApiError) → IfErr read IsNoCall
    → ((c : X) → IfSome (error c) IsNoCall) → IfErr (with_value read (checked error call)) IsNoCall
checked_refused error call (Ok c) h e = unless_refused (error c) (Ok (call c)) (e c) tt
checked_refused error call (Err refused) h e = h

call_refused : (account : ℕ) (n : Name) (id : List ℕ) (leaves : List Leaf) → IfErr (call_of account n id leaves) IsNoCall
call_refused account name.CreateIntent id leaves =
    checked_refused (create_intent_error account) call.CreateIntent (given (params_of name.CreateIntent) create_intent leaves)
    (given_refused _ (params_of name.CreateIntent) create_intent leaves) (create_refused account)
call_refused account name.UpdateIntent id leaves =
    as_refused call.UpdateIntent (given (params_of name.UpdateIntent) (update_intent id) leaves) (given_refused _ (params_of name.UpdateIntent) (update_intent id) leaves)
call_refused account name.ConfirmIntent id leaves =
    as_refused call.ConfirmIntent (given (params_of name.ConfirmIntent) (confirm_intent id) leaves) (given_refused _ (params_of name.ConfirmIntent) (confirm_intent id) leaves)
call_refused account name.CaptureIntent id leaves =
    as_refused call.CaptureIntent (given (params_of name.CaptureIntent) (capture_intent id) leaves) (given_refused _ (params_of name.CaptureIntent) (capture_intent id) leaves)
call_refused account name.CancelIntent id leaves =
    as_refused call.CancelIntent (given (params_of name.CancelIntent) (cancel_intent id) leaves) (given_refused _ (params_of name.CancelIntent) (cancel_intent id) leaves)
call_refused account name.CreateRefund id leaves =
    checked_refused create_refund_error call.CreateRefund (given (params_of name.CreateRefund) create_refund leaves)
    (given_refused _ (params_of name.CreateRefund) create_refund leaves) refund_refused
call_refused account name.SendEvidence id leaves =
    as_refused call.SendEvidence (given (params_of name.SendEvidence) (send_evidence id) leaves) (given_refused _ (params_of name.SendEvidence) (send_evidence id) leaves)
call_refused account name.CloseDispute id leaves = tt
call_refused account name.CreateAccount id leaves =
    as_refused call.CreateAccount (given (params_of name.CreateAccount) create_account leaves) (given_refused _ (params_of name.CreateAccount) create_account leaves)
call_refused account name.CreateTransfer id leaves =
    checked_refused create_transfer_error call.CreateTransfer (given (params_of name.CreateTransfer) create_transfer leaves)
    (given_refused _ (params_of name.CreateTransfer) create_transfer leaves) (λ c. zero_refused (Some c.amount))
call_refused account name.ReverseTransfer id leaves =
    checked_refused reverse_transfer_error call.ReverseTransfer (given (params_of name.ReverseTransfer) (reverse_transfer id) leaves)
    (given_refused _ (params_of name.ReverseTransfer) (reverse_transfer id) leaves) (λ c. zero_refused c.amount)
call_refused account name.RefundFee id leaves =
    checked_refused refund_fee_error call.RefundFee (given (params_of name.RefundFee) (refund_fee id) leaves)
    (given_refused _ (params_of name.RefundFee) (refund_fee id) leaves) (λ c. zero_refused c.amount)
call_refused account (name.Retrieve kind) id leaves = tt
call_refused account name.GetBalance id leaves = tt
call_refused account name.SetClock id leaves =
    checked_refused set_clock_error call.SetClock (given (params_of name.SetClock) set_clock leaves)
    (given_refused _ (params_of name.SetClock) set_clock leaves) clock_refused
call_refused account name.Authenticate id leaves =
    as_refused call.Authenticate (given (params_of name.Authenticate) (authenticate_intent id) leaves) (given_refused _ (params_of name.Authenticate) (authenticate_intent id) leaves)

-- a name that no parameter has
unknown_refused : (found : Option Leaf) → IfSome (option_map (λ (leaf : Leaf). error_of (ParameterUnknown leaf.name)) found) IsNoCall
unknown_refused None = tt
unknown_refused (Some leaf) = unknown_name_error leaf.name

by_refused : (account : ℕ) (n : Name) (id : List ℕ) (form : Result (List Leaf) FormFault) → IfErr (reading_by account n id form) IsNoCall
by_refused account n id (Err fault) = fault_error fault
by_refused account n id (Ok leaves) =
    unless_refused (unknown_error (map name_of (params_of n)) leaves) (call_of account n id leaves)
    (unknown_refused (find (λ (leaf : Leaf). not (is_known (map name_of (params_of n)) leaf.name)) leaves)) (call_refused account n id leaves)

at_refused : (account : ℕ) (route : Route) (form : Result (List Leaf) FormFault) → IfErr (reading_at account route form) IsNoCall
at_refused account Nowhere form = url_error
at_refused account (To line id) form = by_refused account line.call id form

-- whatever a request says, the error that it is refused by
pub reading_refused : (account : ℕ) (raw : Raw) → IfErr (reading_of account raw) IsNoCall
reading_refused account raw = at_refused account (route_in table raw.method raw.path) (form_of raw)
