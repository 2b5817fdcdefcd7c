-- The document of a payment intent.
use Rattle.std.specs.Prelude.{ℕ, pos, false, List, [], ◌∷◌, ◌++◌, Option, None, Some, option_map, codes}
use Rattle.ph_base.specs.declared.ids.Kind.TheVariants as kind
use Rattle.ph_money.specs.Currencies.{code_of}
use Rattle.ph_items.specs.declared.intents.Intent.{Intent}
use Rattle.ph_items.specs.declared.intents.IntentStatus.{IntentStatus}
use Rattle.ph_items.specs.declared.intents.IntentStatus.TheVariants as status
use Rattle.ph_items.specs.declared.intents.PaymentError.{PaymentError}
use Rattle.ph_items.specs.declared.intents.PaymentError.TheVariants as payment_error
use Rattle.ph_items.specs.Words.{status_text, capture_method_text, cancellation_reason_text}
use Rattle.ph_items.specs.Weights.{method_text}
use Rattle.ph_json.specs.declared.doc.Doc.{Doc}
use Rattle.ph_json.specs.declared.doc.Doc.TheVariants.{Null, Truth, Number, Text, Object}
use Rattle.ph_json.specs.Values.{text_or_null}
use Rattle.ph_errors.specs.Table.{error_of, CardDeclined, NotAuthenticated}
use Rattle.ph_errors.specs.Body.{object_of}
use Rattle.ph_views.specs.Values.{amount_or_null, moment_doc, printed_id, id_or_null, metadata_doc}

-- why the last confirmation didn't pay: the error as its reply shows it, without the payment intent; or null
abbrev pub last_error_doc : Option PaymentError → Doc
last_error_doc None = Null
last_error_doc (Some (payment_error.Declined decline)) = object_of (error_of (CardDeclined decline)) None
last_error_doc (Some payment_error.NotAuthenticated) = object_of (error_of NotAuthenticated) None

-- the customer has to authenticate
abbrev pub authenticate_doc : Doc
authenticate_doc = Object ((codes "type", Text (codes "payhost_authenticate")) ∷ [])

-- what the customer has to do: authenticate, where the intent waits for that; else null
abbrev pub next_action_doc : IntentStatus → Doc
next_action_doc status.RequiresPaymentMethod = Null
next_action_doc status.RequiresConfirmation = Null
next_action_doc status.RequiresAction = authenticate_doc
next_action_doc status.Processing = Null
next_action_doc status.RequiresCapture = Null
next_action_doc status.Succeeded = Null
next_action_doc status.Canceled = Null

-- what a client that confirms the payment for a customer shows: the printed id and a fixed ending
abbrev pub client_secret_of : ℕ → List ℕ
client_secret_of object = printed_id kind.Intent object ++ codes "_secret_payhost"

-- where what is captured goes: to a destination, or null
abbrev pub transfer_data_doc : Option ℕ → Doc
transfer_data_doc None = Null
transfer_data_doc (Some destination) = Object ((codes "destination", Text (printed_id kind.Account destination)) ∷ [])

-- how much, and for whom
unfoldable pub amount_members : Intent → List (List ℕ × Doc)
amount_members intent =
    (codes "amount", Number (pos intent.amount))
    ∷ (codes "amount_capturable", Number (pos intent.amount_capturable))
    ∷ (codes "amount_received", Number (pos intent.amount_received))
    ∷ (codes "application_fee_amount", amount_or_null intent.application_fee_amount)
    ∷ (codes "currency", Text (code_of intent.currency))
    ∷ (codes "transfer_data", transfer_data_doc intent.destination)
    ∷ (codes "transfer_group", text_or_null intent.transfer_group)
    ∷ []

-- which one, made when, and what its owner says of it
unfoldable pub name_members : ℕ → ℕ → Intent → List (List ℕ × Doc)
name_members created object intent =
    (codes "client_secret", Text (client_secret_of object))
    ∷ (codes "created", moment_doc created)
    ∷ (codes "description", text_or_null intent.description)
    ∷ (codes "id", Text (printed_id kind.Intent object))
    ∷ (codes "livemode", Truth false)
    ∷ (codes "metadata", metadata_doc intent.metadata)
    ∷ (codes "object", Text (codes "payment_intent"))
    ∷ []

-- how it is paid, and how far it has come
unfoldable pub progress_members : Intent → List (List ℕ × Doc)
progress_members intent =
    (codes "cancellation_reason", text_or_null (option_map cancellation_reason_text intent.cancellation_reason))
    ∷ (codes "capture_method", Text (capture_method_text intent.capture_method))
    ∷ (codes "last_payment_error", last_error_doc intent.last_payment_error)
    ∷ (codes "latest_charge", id_or_null kind.Charge intent.latest_charge)
    ∷ (codes "next_action", next_action_doc intent.status)
    ∷ (codes "payment_method", text_or_null (method_text intent.payment_method))
    ∷ (codes "status", Text (status_text intent.status))
    ∷ []

-- the document of a version of a payment intent that was created at a moment and has a number
unfoldable pub intent_doc : ℕ → ℕ → Intent → Doc
intent_doc created object intent =
    Object (amount_members intent ++ name_members created object intent ++ progress_members intent)
