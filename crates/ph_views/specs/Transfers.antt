-- The document of a transfer.
use Rattle.std.specs.Prelude.{ℕ, ◌==◌, Bool, false, pos, List, [], ◌∷◌, ◌++◌, codes}
use Rattle.ph_base.specs.declared.ids.Kind.TheVariants as kind
use Rattle.ph_money.specs.Currencies.{code_of}
use Rattle.ph_items.specs.declared.transfers.Transfer.{Transfer}
use Rattle.ph_json.specs.declared.doc.Doc.{Doc}
use Rattle.ph_json.specs.declared.doc.Doc.TheVariants.{Truth, Number, Text, Object}
use Rattle.ph_json.specs.Values.{text_or_null}
use Rattle.ph_views.specs.Values.{moment_doc, printed_id, id_or_null, metadata_doc}

-- how much, to whom, and from which charge
unfoldable pub transfer_amount_members : Transfer → List (List ℕ × Doc)
transfer_amount_members transfer =
    (codes "amount", Number (pos transfer.amount))
    ∷ (codes "balance_transaction", Text (printed_id kind.Txn transfer.transaction))
    ∷ (codes "currency", Text (code_of transfer.currency))
    ∷ (codes "destination", Text (printed_id kind.Account transfer.destination))
    ∷ (codes "destination_payment", Text (printed_id kind.Payment transfer.payment))
    ∷ (codes "source_transaction", id_or_null kind.Charge transfer.source)
    ∷ (codes "transfer_group", text_or_null transfer.transfer_group)
    ∷ []

-- which one, made when, and what is said of it
unfoldable pub transfer_name_members : ℕ → ℕ → Transfer → List (List ℕ × Doc)
transfer_name_members created object transfer =
    (codes "created", moment_doc created)
    ∷ (codes "description", text_or_null transfer.description)
    ∷ (codes "id", Text (printed_id kind.Transfer object))
    ∷ (codes "livemode", Truth false)
    ∷ (codes "metadata", metadata_doc transfer.metadata)
    ∷ (codes "object", Text (codes "transfer"))
    ∷ []

-- whether all of it came back
abbrev pub is_reversed : Transfer → Bool
is_reversed transfer = transfer.amount_reversed == transfer.amount

-- what came back of it
unfoldable pub transfer_reversal_members : Transfer → List (List ℕ × Doc)
transfer_reversal_members transfer =
    (codes "amount_reversed", Number (pos transfer.amount_reversed)) ∷ (codes "reversed", Truth (is_reversed transfer)) ∷ []

-- the document of a version of a transfer that was created at a moment and has a number
unfoldable pub transfer_doc : ℕ → ℕ → Transfer → Doc
transfer_doc created object transfer =
    Object (transfer_amount_members transfer ++ transfer_name_members created object transfer ++ transfer_reversal_members transfer)
