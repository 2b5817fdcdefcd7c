-- The document of an application fee.
use Rattle.std.specs.Prelude.{ℕ, ◌==◌, Bool, false, pos, List, [], ◌∷◌, ◌++◌, codes}
use Rattle.ph_base.specs.declared.ids.Kind.TheVariants as kind
use Rattle.ph_money.specs.Currencies.{code_of}
use Rattle.ph_items.specs.declared.fees.Fee.{Fee}
use Rattle.ph_json.specs.declared.doc.Doc.{Doc}
use Rattle.ph_json.specs.declared.doc.Doc.TheVariants.{Truth, Number, Text, Object}
use Rattle.ph_views.specs.Values.{moment_doc, printed_id}

-- whether all of it was given back
abbrev pub is_given_back : Fee → Bool
is_given_back fee = fee.amount_refunded == fee.amount

-- how much, of which charge, and from whom, and what of it was given back
unfoldable pub fee_amount_members : Fee → List (List ℕ × Doc)
fee_amount_members fee =
    (codes "account", Text (printed_id kind.Account fee.account))
    ∷ (codes "amount", Number (pos fee.amount))
    ∷ (codes "amount_refunded", Number (pos fee.amount_refunded))
    ∷ (codes "balance_transaction", Text (printed_id kind.Txn fee.transaction))
    ∷ (codes "charge", Text (printed_id kind.Charge fee.charge))
    ∷ (codes "currency", Text (code_of fee.currency))
    ∷ (codes "refunded", Truth (is_given_back fee))
    ∷ []

-- which one, and made when
unfoldable pub fee_name_members : ℕ → ℕ → List (List ℕ × Doc)
fee_name_members created object =
    (codes "created", moment_doc created)
    ∷ (codes "id", Text (printed_id kind.Fee object))
    ∷ (codes "livemode", Truth false)
    ∷ (codes "object", Text (codes "application_fee"))
    ∷ []

-- the document of a version of an application fee that was created at a moment and has a number
unfoldable pub fee_doc : ℕ → ℕ → Fee → Doc
fee_doc created object fee = Object (fee_amount_members fee ++ fee_name_members created object)
