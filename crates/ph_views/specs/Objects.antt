-- The document of a version of an object, over the rows of a history.
use Rattle.std.specs.Prelude.{ℕ, ◌-◌, List, take, Option, None, Some}
use Rattle.ph_rows.specs.declared.rows.Row.{Row}
use Rattle.ph_items.specs.declared.items.Item.{Item}
use Rattle.ph_items.specs.declared.items.Item.TheVariants as item
use Rattle.ph_rows.specs.Rows.{row_at, latest_of}
use Rattle.ph_json.specs.declared.doc.Doc.{Doc}
use Rattle.ph_json.specs.declared.doc.Doc.TheVariants.{Null}
use Rattle.ph_json.specs.Text.{text_of}
use Rattle.ph_views.specs.Accounts.{account_doc}
use Rattle.ph_views.specs.Charges.{charge_doc}
use Rattle.ph_views.specs.Disputes.{dispute_doc}
use Rattle.ph_views.specs.Events.{event_doc}
use Rattle.ph_views.specs.FeeRefunds.{fee_refund_doc}
use Rattle.ph_views.specs.Fees.{fee_doc}
use Rattle.ph_views.specs.Intents.{intent_doc}
use Rattle.ph_views.specs.Refunds.{refund_doc}
use Rattle.ph_views.specs.Reversals.{reversal_doc}
use Rattle.ph_views.specs.Transactions.{txn_doc}
use Rattle.ph_views.specs.Transfers.{transfer_doc}

-- the time of an object's first version; a version whose object has no row yet is the first one itself
abbrev pub begun_at : Option Row → Row → ℕ
begun_at None row = row.at
begun_at (Some first) row = first.at

-- when the object of a version was created
abbrev pub created_of : List Row → Row → ℕ
created_of rows row = begun_at (row_at row.object rows) row

-- the last version of an object in front of a place: what the entry of the row there left of the object
abbrev pub version_before : ℕ → ℕ → List Row → Option Row
version_before place object rows = latest_of object (take (place - 1) rows)

-- the document of a version of an object of which events tell; an attempt has none and is never printed, and no event
-- tells of a transaction or an event
abbrev pub version_doc : ℕ → ℕ → Item → Doc
version_doc created object (item.Account account) = account_doc created object account
version_doc created object (item.Intent intent) = intent_doc created object intent
version_doc created object (item.Attempt attempt) = Null
version_doc created object (item.Charge charge) = charge_doc created object charge
version_doc created object (item.Refund refund) = refund_doc created object refund
version_doc created object (item.Dispute dispute) = dispute_doc created object dispute
version_doc created object (item.Transfer transfer) = transfer_doc created object transfer
version_doc created object (item.Reversal reversal) = reversal_doc created object reversal
version_doc created object (item.Fee fee) = fee_doc created object fee
version_doc created object (item.FeeRefund refund) = fee_refund_doc created object refund
version_doc created object (item.Txn txn) = Null
version_doc created object (item.Event event) = Null

-- the document of the object that an event tells of; every event of a legal history tells of one
abbrev pub subject_doc : List Row → Option Row → Doc
subject_doc rows None = Null
subject_doc rows (Some row) = version_doc (created_of rows row) row.object row.item

-- the document, at a time, of a row whose item is this: a transaction's as it stands at the time, an event's with the
-- version of its object that its own entry left
abbrev pub document_of : ℕ → List Row → Row → Item → Doc
document_of time rows row (item.Txn txn) = txn_doc time (created_of rows row) row.object txn
document_of time rows row (item.Event event) =
    event_doc (created_of rows row) row.object row.account event
    (subject_doc rows (version_before row.place event.object rows))
document_of time rows row other = version_doc (created_of rows row) row.object other

-- the document of a version of an object, at a time
unfoldable pub object_doc : ℕ → List Row → Row → Doc
object_doc time rows row = document_of time rows row row.item

-- the text of that document
unfoldable pub object_text : ℕ → List Row → Row → List ℕ
object_text time rows row = text_of (object_doc time rows row)
