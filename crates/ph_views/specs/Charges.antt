-- The document of a charge.
use Rattle.std.specs.Prelude.{ℕ, Bool, true, false, ◌==◌, ◌&&◌, nat_lt, is_some, pos, List, [], ◌∷◌, ◌++◌, Option, None, Some, option_map, codes}
use Rattle.ph_base.specs.declared.ids.Kind.TheVariants as kind
use Rattle.ph_money.specs.Currencies.{code_of}
use Rattle.ph_items.specs.declared.charges.Capture.{Capture}
use Rattle.ph_items.specs.declared.charges.Charge.{Charge}
use Rattle.ph_items.specs.declared.charges.ChargeStatus.{ChargeStatus}
use Rattle.ph_items.specs.declared.charges.ChargeStatus.TheVariants as status
use Rattle.ph_items.specs.Charges.{charge_kind, paid_intent, source_transfer}
use Rattle.ph_items.specs.Words.{charge_status_text}
use Rattle.ph_items.specs.Weights.{method_text}
use Rattle.ph_errors.specs.declared.kinds.Code.{Code}
use Rattle.ph_errors.specs.declared.kinds.Code.TheVariants as code
use Rattle.ph_errors.specs.Names.{code_name}
use Rattle.ph_json.specs.declared.doc.Doc.{Doc}
use Rattle.ph_json.specs.declared.doc.Doc.TheVariants.{Truth, Number, Text, Object}
use Rattle.ph_json.specs.Values.{text_or_null}
use Rattle.ph_views.specs.Values.{amount_or_null, moment_doc, printed_id, id_or_null, metadata_doc}

-- whether a charge paid: it did where it didn't fail
abbrev pub is_paid : ChargeStatus → Bool
is_paid status.Succeeded = true
is_paid status.Failed = false

-- why it failed, as the error of its decline has it, or none
abbrev pub failure_code : ChargeStatus → Option Code
failure_code status.Succeeded = None
failure_code status.Failed = Some code.CardDeclined

-- the transaction of a capture, where there is one
abbrev pub transaction_of : Option Capture → Option ℕ
transaction_of None = None
transaction_of (Some capture) = Some capture.transaction

-- the transfer, and the application fee, of a capture, where there is one
abbrev pub transfer_of : Option Capture → Option ℕ
transfer_of None = None
transfer_of (Some capture) = capture.transfer

abbrev pub fee_of : Option Capture → Option ℕ
fee_of None = None
fee_of (Some capture) = capture.fee

-- whether all that was captured is refunded
abbrev pub is_refunded : Charge → Bool
is_refunded charge = charge.amount_refunded == charge.amount_captured && nat_lt 0 charge.amount_captured

-- how much
unfoldable pub charge_amount_members : Charge → List (List ℕ × Doc)
charge_amount_members charge =
    (codes "amount", Number (pos charge.amount))
    ∷ (codes "amount_captured", Number (pos charge.amount_captured))
    ∷ (codes "amount_refunded", Number (pos charge.amount_refunded))
    ∷ (codes "application_fee", id_or_null kind.Fee (fee_of charge.capture))
    ∷ (codes "application_fee_amount", amount_or_null charge.application_fee_amount)
    ∷ (codes "currency", Text (code_of charge.currency))
    ∷ []

-- which one, made when, and what the payment intent's owner said of it
unfoldable pub charge_name_members : ℕ → ℕ → Charge → List (List ℕ × Doc)
charge_name_members created object charge =
    (codes "created", moment_doc created)
    ∷ (codes "description", text_or_null charge.description)
    ∷ (codes "id", Text (printed_id (charge_kind charge.sort) object))
    ∷ (codes "livemode", Truth false)
    ∷ (codes "metadata", metadata_doc charge.metadata)
    ∷ (codes "object", Text (codes "charge"))
    ∷ []

-- how far it has come
unfoldable pub charge_progress_members : Charge → List (List ℕ × Doc)
charge_progress_members charge =
    (codes "balance_transaction", id_or_null kind.Txn (transaction_of charge.capture))
    ∷ (codes "captured", Truth (is_some charge.capture))
    ∷ (codes "disputed", Truth (is_some charge.dispute))
    ∷ (codes "failure_code", text_or_null (option_map code_name (failure_code charge.status)))
    ∷ (codes "paid", Truth (is_paid charge.status))
    ∷ (codes "refunded", Truth (is_refunded charge))
    ∷ (codes "status", Text (charge_status_text charge.status))
    ∷ []

-- what it pays, and how, and where that goes
unfoldable pub charge_payment_members : Charge → List (List ℕ × Doc)
charge_payment_members charge =
    (codes "payment_intent", id_or_null kind.Intent (paid_intent charge.sort))
    ∷ (codes "payment_method", text_or_null (method_text charge.payment_method))
    ∷ (codes "source_transfer", id_or_null kind.Transfer (source_transfer charge.sort))
    ∷ (codes "transfer", id_or_null kind.Transfer (transfer_of charge.capture))
    ∷ (codes "transfer_group", text_or_null charge.transfer_group)
    ∷ []

-- the document of a version of a charge that was created at a moment and has a number
unfoldable pub charge_doc : ℕ → ℕ → Charge → Doc
charge_doc created object charge =
    Object (charge_amount_members charge ++ charge_name_members created object charge
    ++ charge_progress_members charge ++ charge_payment_members charge)
