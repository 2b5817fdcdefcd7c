-- The table of calls.
use Rattle.std.specs.Prelude.{ℕ, List, [], ◌∷◌, codes}
use Rattle.ph_base.specs.declared.ids.Kind.TheVariants as object
use Rattle.ph_kinds.specs.Kind.{Amount, Number, Currency, Truth, Text, Id, Method, Metadata, AccountType, CaptureMethod, CancellationReason, RefundReason, Authentication}
use Rattle.ph_calls.specs.declared.row.Name.{Name}
use Rattle.ph_calls.specs.declared.row.Name.TheVariants.{CreateIntent, UpdateIntent, ConfirmIntent, CaptureIntent, CancelIntent, CreateRefund, SendEvidence, CloseDispute, CreateAccount, CreateTransfer, ReverseTransfer, RefundFee, Retrieve, GetBalance, SetClock, Authenticate}
use Rattle.ph_calls.specs.declared.row.Path.{Path}
use Rattle.ph_calls.specs.declared.row.Path.TheVariants.{Plain, WithId}
use Rattle.ph_calls.specs.declared.row.TableRow.{TableRow}
use Rattle.ph_calls.specs.Parameters.{Parameter, Must, May, Ignored}

-- the path of a call: one text, or an id between two texts
pub data Place : Type 0 where
  One : List ℕ → Place
  Between : List ℕ → List ℕ → Place

-- a row of the table: a method and a path, and the call that they are of
pub record Line : Type 0 where
  pub method : List ℕ
  pub path : Place
  pub call : Name

abbrev get : Place → Name → Line
get path call = record { method = codes "GET"; path = path; call = call }

abbrev post : Place → Name → Line
post path call = record { method = codes "POST"; path = path; call = call }

-- the calls
unfoldable pub table : List Line
table =
    post (One (codes "/v1/payment_intents")) CreateIntent ∷
    get (Between (codes "/v1/payment_intents/") []) (Retrieve object.Intent) ∷
    post (Between (codes "/v1/payment_intents/") []) UpdateIntent ∷
    post (Between (codes "/v1/payment_intents/") (codes "/confirm")) ConfirmIntent ∷
    post (Between (codes "/v1/payment_intents/") (codes "/capture")) CaptureIntent ∷
    post (Between (codes "/v1/payment_intents/") (codes "/cancel")) CancelIntent ∷
    get (Between (codes "/v1/charges/") []) (Retrieve object.Charge) ∷
    post (One (codes "/v1/refunds")) CreateRefund ∷
    get (Between (codes "/v1/refunds/") []) (Retrieve object.Refund) ∷
    get (Between (codes "/v1/disputes/") []) (Retrieve object.Dispute) ∷
    post (Between (codes "/v1/disputes/") []) SendEvidence ∷
    post (Between (codes "/v1/disputes/") (codes "/close")) CloseDispute ∷
    post (One (codes "/v1/accounts")) CreateAccount ∷
    get (Between (codes "/v1/accounts/") []) (Retrieve object.Account) ∷
    post (One (codes "/v1/transfers")) CreateTransfer ∷
    get (Between (codes "/v1/transfers/") []) (Retrieve object.Transfer) ∷
    post (Between (codes "/v1/transfers/") (codes "/reversals")) ReverseTransfer ∷
    get (Between (codes "/v1/application_fees/") []) (Retrieve object.Fee) ∷
    post (Between (codes "/v1/application_fees/") (codes "/refunds")) RefundFee ∷
    get (One (codes "/v1/balance")) GetBalance ∷
    get (Between (codes "/v1/balance_transactions/") []) (Retrieve object.Txn) ∷
    post (One (codes "/_host/clock")) SetClock ∷
    post (Between (codes "/_host/payment_intents/") (codes "/authenticate")) Authenticate ∷ []

-- the parameters of each call, in the order in which they are checked
abbrev pub params_of : Name → List Parameter
params_of CreateIntent =
    Must (codes "amount") Amount ∷
    Must (codes "currency") Currency ∷
    May (codes "payment_method") Method ∷
    May (codes "confirm") Truth ∷
    May (codes "capture_method") CaptureMethod ∷
    May (codes "description") (Text 1000) ∷
    May (codes "metadata") Metadata ∷
    May (codes "application_fee_amount") Amount ∷
    May (codes "transfer_data[destination]") Id ∷
    May (codes "transfer_group") (Text 255) ∷
    Ignored (codes "automatic_payment_methods") ∷
    Ignored (codes "payment_method_types") ∷
    Ignored (codes "return_url") ∷
    Ignored (codes "receipt_email") ∷
    Ignored (codes "statement_descriptor") ∷
    Ignored (codes "statement_descriptor_suffix") ∷
    Ignored (codes "off_session") ∷
    Ignored (codes "use_stripe_sdk") ∷ []
params_of UpdateIntent =
    May (codes "amount") Amount ∷
    May (codes "currency") Currency ∷
    May (codes "payment_method") Method ∷
    May (codes "description") (Text 1000) ∷
    May (codes "metadata") Metadata ∷
    May (codes "application_fee_amount") Amount ∷
    May (codes "transfer_group") (Text 255) ∷ []
params_of ConfirmIntent =
    May (codes "payment_method") Method ∷
    Ignored (codes "return_url") ∷
    Ignored (codes "off_session") ∷
    Ignored (codes "use_stripe_sdk") ∷ []
params_of CaptureIntent =
    May (codes "amount_to_capture") Amount ∷
    May (codes "application_fee_amount") Amount ∷ []
params_of CancelIntent =
    May (codes "cancellation_reason") CancellationReason ∷ []
params_of CreateRefund =
    May (codes "charge") Id ∷
    May (codes "payment_intent") Id ∷
    May (codes "amount") Amount ∷
    May (codes "reason") RefundReason ∷
    May (codes "metadata") Metadata ∷
    May (codes "reverse_transfer") Truth ∷
    May (codes "refund_application_fee") Truth ∷ []
params_of SendEvidence =
    Must (codes "evidence[uncategorized_text]") (Text 20000) ∷
    Ignored (codes "submit") ∷ []
params_of CloseDispute = []
params_of CreateAccount =
    May (codes "type") AccountType ∷
    May (codes "email") (Text 255) ∷
    May (codes "metadata") Metadata ∷
    Ignored (codes "country") ∷
    Ignored (codes "capabilities") ∷
    Ignored (codes "business_type") ∷
    Ignored (codes "business_profile") ∷
    Ignored (codes "tos_acceptance") ∷
    Ignored (codes "controller") ∷
    Ignored (codes "settings") ∷ []
params_of CreateTransfer =
    Must (codes "amount") Amount ∷
    Must (codes "currency") Currency ∷
    Must (codes "destination") Id ∷
    May (codes "source_transaction") Id ∷
    May (codes "description") (Text 1000) ∷
    May (codes "metadata") Metadata ∷
    May (codes "transfer_group") (Text 255) ∷ []
params_of ReverseTransfer =
    May (codes "amount") Amount ∷
    May (codes "metadata") Metadata ∷ []
params_of RefundFee =
    May (codes "amount") Amount ∷
    May (codes "metadata") Metadata ∷ []
params_of (Retrieve kind) = []
params_of GetBalance = []
params_of SetClock =
    Must (codes "now") Number ∷ []
params_of Authenticate =
    Must (codes "outcome") Authentication ∷ []

-- a path of the code's table
abbrev pub place : Path → Place
place (Plain text) = One text.now
place (WithId front back) = Between front.now back.now

-- a row of the code's table
abbrev pub line_of : TableRow → Line
line_of row = record { method = row.method.now; path = place row.path; call = row.call }
