-- The document of a refund.
use Rattle.std.specs.Prelude.{ℕ, pos, List, [], ◌∷◌, ◌++◌, option_map, codes}
use Rattle.ph_base.specs.declared.ids.Kind.TheVariants as kind
use Rattle.ph_money.specs.Currencies.{code_of}
use Rattle.ph_items.specs.declared.refunds.Refund.{Refund}
use Rattle.ph_items.specs.Words.{refund_reason_text}
use Rattle.ph_json.specs.declared.doc.Doc.{Doc}
use Rattle.ph_json.specs.declared.doc.Doc.TheVariants.{Number, Text, Object}
use Rattle.ph_json.specs.Values.{text_or_null}
use Rattle.ph_views.specs.Values.{moment_doc, printed_id, id_or_null, metadata_doc}

-- how much of which charge, and why, and what it took back of the charge's transfer
unfoldable pub refund_amount_members : Refund → List (List ℕ × Doc)
refund_amount_members refund =
    (codes "amount", Number (pos refund.amount))
    ∷ (codes "balance_transaction", Text (printed_id kind.Txn refund.transaction))
    ∷ (codes "charge", Text (printed_id kind.Charge refund.charge))
    ∷ (codes "currency", Text (code_of refund.currency))
    ∷ (codes "payment_intent", id_or_null kind.Intent refund.intent)
    ∷ (codes "reason", text_or_null (option_map refund_reason_text refund.reason))
    ∷ (codes "transfer_reversal", id_or_null kind.Reversal refund.reversal)
    ∷ []

-- which one, and made when; every refund has succeeded
unfoldable pub refund_name_members : ℕ → ℕ → Refund → List (List ℕ × Doc)
refund_name_members created object refund =
    (codes "created", moment_doc created)
    ∷ (codes "id", Text (printed_id kind.Refund object))
    ∷ (codes "metadata", metadata_doc refund.metadata)
    ∷ (codes "object", Text (codes "refund"))
    ∷ (codes "status", Text (codes "succeeded"))
    ∷ []

-- the document of a refund that was created at a moment and has a number
unfoldable pub refund_doc : ℕ → ℕ → Refund → Doc
refund_doc created object refund = Object (refund_amount_members refund ++ refund_name_members created object refund)
