-- The document of a balance transaction.
use Rattle.std.specs.Prelude.{ℕ, true, if◌then◌else◌, List, [], ◌∷◌, ◌++◌, codes}
use Rattle.ph_base.specs.declared.ids.Kind.TheVariants as kind
use Rattle.ph_money.specs.Currencies.{code_of}
use Rattle.ph_items.specs.declared.transactions.Txn.{Txn}
use Rattle.ph_items.specs.declared.transactions.TxnSource.{TxnSource}
use Rattle.ph_items.specs.Movements.{counts, movement_by}
use Rattle.ph_items.specs.Transactions.{net_amount, source_kind, source_number}
use Rattle.ph_items.specs.Words.{txn_type_text}
use Rattle.ph_json.specs.declared.doc.Doc.{Doc}
use Rattle.ph_json.specs.declared.doc.Doc.TheVariants.{Number, Text, Object}
use Rattle.ph_views.specs.Values.{moment_doc, printed_id}

-- whether a transaction counts in the available balance at a time
abbrev pub txn_status : ℕ → Txn → List ℕ
txn_status time txn = if counts true time (movement_by txn) then codes "available" else codes "pending"

-- the printed id of what a transaction comes from
abbrev pub source_id : TxnSource → List ℕ
source_id source = printed_id (source_kind source) (source_number source)

-- how much, and for what
unfoldable pub txn_amount_members : Txn → List (List ℕ × Doc)
txn_amount_members txn =
    (codes "amount", Number txn.amount)
    ∷ (codes "currency", Text (code_of txn.currency))
    ∷ (codes "fee", Number txn.fee)
    ∷ (codes "net", Number (net_amount txn))
    ∷ (codes "source", Text (source_id txn.source))
    ∷ (codes "type", Text (txn_type_text txn.sort))
    ∷ []

-- which one, made when, and how it stands at a time
unfoldable pub txn_name_members : ℕ → ℕ → ℕ → Txn → List (List ℕ × Doc)
txn_name_members time created object txn =
    (codes "available_on", moment_doc txn.available_on)
    ∷ (codes "created", moment_doc created)
    ∷ (codes "id", Text (printed_id kind.Txn object))
    ∷ (codes "object", Text (codes "balance_transaction"))
    ∷ (codes "status", Text (txn_status time txn))
    ∷ []

-- the document, at a time, of a transaction that was created at a moment and has a number
unfoldable pub txn_doc : ℕ → ℕ → ℕ → Txn → Doc
txn_doc time created object txn = Object (txn_amount_members txn ++ txn_name_members time created object txn)
