-- The document of a reversal of a transfer.
use Rattle.std.specs.Prelude.{ℕ, pos, List, [], ◌∷◌, ◌++◌, codes}
use Rattle.ph_base.specs.declared.ids.Kind.TheVariants as kind
use Rattle.ph_money.specs.Currencies.{code_of}
use Rattle.ph_items.specs.declared.reversals.Reversal.{Reversal}
use Rattle.ph_json.specs.declared.doc.Doc.{Doc}
use Rattle.ph_json.specs.declared.doc.Doc.TheVariants.{Number, Text, Object}
use Rattle.ph_views.specs.Values.{moment_doc, printed_id, id_or_null, metadata_doc}

-- how much of which transfer, and for which refund
unfoldable pub reversal_amount_members : Reversal → List (List ℕ × Doc)
reversal_amount_members reversal =
    (codes "amount", Number (pos reversal.amount))
    ∷ (codes "balance_transaction", Text (printed_id kind.Txn reversal.transaction))
    ∷ (codes "currency", Text (code_of reversal.currency))
    ∷ (codes "source_refund", id_or_null kind.Refund reversal.refund)
    ∷ (codes "transfer", Text (printed_id kind.Transfer reversal.transfer))
    ∷ []

-- which one, and made when
unfoldable pub reversal_name_members : ℕ → ℕ → Reversal → List (List ℕ × Doc)
reversal_name_members created object reversal =
    (codes "created", moment_doc created)
    ∷ (codes "id", Text (printed_id kind.Reversal object))
    ∷ (codes "metadata", metadata_doc reversal.metadata)
    ∷ (codes "object", Text (codes "transfer_reversal"))
    ∷ []

-- the document of a reversal that was created at a moment and has a number
unfoldable pub reversal_doc : ℕ → ℕ → Reversal → Doc
reversal_doc created object reversal = Object (reversal_amount_members reversal ++ reversal_name_members created object reversal)
