-- The document of a refund of an application fee.
use Rattle.std.specs.Prelude.{ℕ, pos, List, [], ◌∷◌, ◌++◌, codes}
use Rattle.ph_base.specs.declared.ids.Kind.TheVariants as kind
use Rattle.ph_money.specs.Currencies.{code_of}
use Rattle.ph_items.specs.declared.fee_refunds.FeeRefund.{FeeRefund}
use Rattle.ph_json.specs.declared.doc.Doc.{Doc}
use Rattle.ph_json.specs.declared.doc.Doc.TheVariants.{Number, Text, Object}
use Rattle.ph_views.specs.Values.{moment_doc, printed_id, metadata_doc}

-- how much of which application fee
unfoldable pub fee_refund_amount_members : FeeRefund → List (List ℕ × Doc)
fee_refund_amount_members refund =
    (codes "amount", Number (pos refund.amount))
    ∷ (codes "balance_transaction", Text (printed_id kind.Txn refund.transaction))
    ∷ (codes "currency", Text (code_of refund.currency))
    ∷ (codes "fee", Text (printed_id kind.Fee refund.fee))
    ∷ []

-- which one, and made when
unfoldable pub fee_refund_name_members : ℕ → ℕ → FeeRefund → List (List ℕ × Doc)
fee_refund_name_members created object refund =
    (codes "created", moment_doc created)
    ∷ (codes "id", Text (printed_id kind.FeeRefund object))
    ∷ (codes "metadata", metadata_doc refund.metadata)
    ∷ (codes "object", Text (codes "fee_refund"))
    ∷ []

-- the document of a refund of an application fee that was created at a moment and has a number
unfoldable pub fee_refund_doc : ℕ → ℕ → FeeRefund → Doc
fee_refund_doc created object refund = Object (fee_refund_amount_members refund ++ fee_refund_name_members created object refund)
