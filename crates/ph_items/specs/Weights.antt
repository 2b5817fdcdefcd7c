-- The texts of an item, and their lengths.
use Rattle.std.specs.Prelude.{◌≡◌, ℕ, ◌+◌, ◌^◌, ◌<◌, true, List, [], ◌∷◌, Option, None, Some, SomeIff, length}
use Rattle.std.specs.List.{list_all}
use Rattle.std.specs.Str.{is_utf8}
use Rattle.ph_items.specs.declared.items.Item.{Item}
use Rattle.ph_items.specs.declared.items.Item.TheVariants as item
use Rattle.ph_items.specs.declared.metadata_pairs.MetadataPair.{MetadataPair}
use Rattle.ph_items.specs.declared.payment_methods.PaymentMethod.{PaymentMethod}

-- the texts with one in front of them, where there is one
abbrev pub with_text : Option (List ℕ) → List (List ℕ) → List (List ℕ)
with_text None texts = texts
with_text (Some text) texts = text ∷ texts

-- the name of a payment method, where there is one
abbrev pub method_text : Option PaymentMethod → Option (List ℕ)
method_text None = None
method_text (Some method) = Some method.text

-- the names and the texts of metadata
abbrev pub metadata_texts : List MetadataPair → List (List ℕ)
metadata_texts [] = []
metadata_texts (pair ∷ pairs) = pair.key ∷ pair.value ∷ metadata_texts pairs

-- the texts of an item: what it keeps of the words of a request; what is chosen from a list is none
abbrev pub texts_of : Item → List (List ℕ)
texts_of (item.Account account) = with_text account.email (metadata_texts account.metadata)
texts_of (item.Intent intent) =
    with_text (method_text intent.payment_method)
    (with_text intent.description (with_text intent.transfer_group (metadata_texts intent.metadata)))
texts_of (item.Attempt attempt) = []
texts_of (item.Charge charge) =
    with_text (method_text charge.payment_method)
    (with_text charge.description (with_text charge.transfer_group (metadata_texts charge.metadata)))
texts_of (item.Refund refund) = metadata_texts refund.metadata
texts_of (item.Dispute dispute) = with_text dispute.evidence []
texts_of (item.Transfer transfer) =
    with_text transfer.description (with_text transfer.transfer_group (metadata_texts transfer.metadata))
texts_of (item.Reversal reversal) = metadata_texts reversal.metadata
texts_of (item.Fee fee) = []
texts_of (item.FeeRefund fee_refund) = metadata_texts fee_refund.metadata
texts_of (item.Txn txn) = []
texts_of (item.Event event) = with_text event.key []

-- the texts are UTF-8
abbrev pub AreUtf8 : List (List ℕ) → Type 0
AreUtf8 texts = list_all is_utf8 texts ≡ true

-- the lengths of texts together
abbrev pub total_length : List (List ℕ) → ℕ
total_length [] = 0
total_length (text ∷ texts) = length text + total_length texts

-- a sum where 64 bits hold it, and none where they don't
abbrev pub FitsOrNone : Option ℕ → ℕ → Type 0
FitsOrNone result sum = SomeIff result (sum < 2 ^ 64) sum
