-- The document of a dispute.
use Rattle.std.specs.Prelude.{ℕ, false, pos, List, [], ◌∷◌, ◌++◌, Option, codes}
use Rattle.ph_base.specs.declared.ids.Kind.TheVariants as kind
use Rattle.ph_money.specs.Currencies.{code_of}
use Rattle.ph_items.specs.declared.disputes.Dispute.{Dispute}
use Rattle.ph_items.specs.Words.{dispute_status_text}
use Rattle.ph_json.specs.declared.doc.Doc.{Doc}
use Rattle.ph_json.specs.declared.doc.Doc.TheVariants.{Truth, Number, Text, Object}
use Rattle.ph_json.specs.Values.{text_or_null}
use Rattle.ph_views.specs.Values.{moment_doc, printed_id, id_or_null}

-- what was sent to win it
unfoldable pub evidence_doc : Option (List ℕ) → Doc
evidence_doc text = Object ((codes "uncategorized_text", text_or_null text) ∷ [])

-- how much of which charge, and how it stands; the reason of every dispute is the same
unfoldable pub dispute_amount_members : Dispute → List (List ℕ × Doc)
dispute_amount_members dispute =
    (codes "amount", Number (pos dispute.amount))
    ∷ (codes "charge", Text (printed_id kind.Charge dispute.charge))
    ∷ (codes "currency", Text (code_of dispute.currency))
    ∷ (codes "evidence", evidence_doc dispute.evidence)
    ∷ (codes "payment_intent", id_or_null kind.Intent dispute.intent)
    ∷ (codes "reason", Text (codes "fraudulent"))
    ∷ (codes "status", Text (dispute_status_text dispute.status))
    ∷ []

-- which one, and opened when
unfoldable pub dispute_name_members : ℕ → ℕ → List (List ℕ × Doc)
dispute_name_members created object =
    (codes "created", moment_doc created)
    ∷ (codes "id", Text (printed_id kind.Dispute object))
    ∷ (codes "livemode", Truth false)
    ∷ (codes "object", Text (codes "dispute"))
    ∷ []

-- the document of a version of a dispute that was created at a moment and has a number
unfoldable pub dispute_doc : ℕ → ℕ → Dispute → Doc
dispute_doc created object dispute = Object (dispute_amount_members dispute ++ dispute_name_members created object)
