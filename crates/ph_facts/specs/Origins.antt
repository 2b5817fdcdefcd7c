-- The objects that an item names and that stand before it, and the items that are made once.
use Rattle.std.specs.Prelude.{◌≡◌, ℕ, Bool, true, false, List, [], ◌∷◌, Option, None, Some}
use Rattle.ph_base.specs.declared.ids.Kind.{Kind}
use Rattle.ph_base.specs.declared.ids.Kind.TheVariants as kind
use Rattle.ph_items.specs.declared.charges.ChargeSort.{ChargeSort}
use Rattle.ph_items.specs.declared.charges.ChargeSort.TheVariants as charge_sort
use Rattle.ph_items.specs.declared.items.Item.{Item}
use Rattle.ph_items.specs.declared.items.Item.TheVariants as item
use Rattle.ph_items.specs.Kinds.{kind_of}
use Rattle.ph_items.specs.Transactions.{source_kind, source_number}
use Rattle.ph_rows.specs.declared.rows.Row.{Row}
use Rattle.ph_rows.specs.Rows.{row_at}

-- an object that an item names: its kind, and its number
pub record Origin : Type 0 where
  pub kind : Kind
  pub number : ℕ

-- the charge of a number, where there is one
abbrev pub charge_named : Option ℕ → List Origin
charge_named None = []
charge_named (Some number) = record { kind = kind.Charge; number = number } ∷ []

-- the refund of a number, where there is one
abbrev pub refund_named : Option ℕ → List Origin
refund_named None = []
refund_named (Some number) = record { kind = kind.Refund; number = number } ∷ []

-- what a charge is made for: its payment intent, or its transfer
abbrev pub charge_origin : ChargeSort → Origin
charge_origin (charge_sort.Card intent) = record { kind = kind.Intent; number = intent }
charge_origin (charge_sort.Payment transfer) = record { kind = kind.Transfer; number = transfer }

-- the objects that an item names and that stand before it: the latest charge of a payment intent, the payment intent of
-- an attempt, what a charge is made for, the charge of a refund, of a dispute, of a transfer and of an application fee, the
-- transfer of a reversal, and the refund that made it, the application fee of a fee refund, the source of a transaction
abbrev pub origins_of : Item → List Origin
origins_of (item.Account account) = []
origins_of (item.Intent intent) = charge_named intent.latest_charge
origins_of (item.Attempt attempt) = record { kind = kind.Intent; number = attempt.intent } ∷ []
origins_of (item.Charge charge) = charge_origin charge.sort ∷ []
origins_of (item.Refund refund) = record { kind = kind.Charge; number = refund.charge } ∷ []
origins_of (item.Dispute dispute) = record { kind = kind.Charge; number = dispute.charge } ∷ []
origins_of (item.Transfer transfer) = charge_named transfer.source
origins_of (item.Reversal reversal) = record { kind = kind.Transfer; number = reversal.transfer } ∷ refund_named reversal.refund
origins_of (item.Fee fee) = record { kind = kind.Charge; number = fee.charge } ∷ []
origins_of (item.FeeRefund fee_refund) = record { kind = kind.Fee; number = fee_refund.fee } ∷ []
origins_of (item.Txn txn) = record { kind = source_kind txn.source; number = source_number txn.source } ∷ []
origins_of (item.Event event) = []

-- a row begins the object
pub record BeginsOrigin (first : Row) (origin : Origin) : Type 0 where
  pub object : first.object ≡ origin.number
  pub kind : kind_of first.item ≡ origin.kind

-- the object begins here, and one does
abbrev pub IsOrigin : Option Row → Origin → Type 0
IsOrigin None origin = ⊥
IsOrigin (Some first) origin = BeginsOrigin first origin

-- these objects have begun among the rows
abbrev pub HasOrigins : List Row → List Origin → Type 0
HasOrigins rows [] = Unit {0}
HasOrigins rows (origin ∷ origins) = IsOrigin (row_at origin.number rows) origin × HasOrigins rows origins

-- the item is that of an object which is made once and never changes
abbrev pub is_made_once : Item → Bool
is_made_once (item.Account account) = false
is_made_once (item.Intent intent) = false
is_made_once (item.Attempt attempt) = false
is_made_once (item.Charge charge) = false
is_made_once (item.Refund refund) = true
is_made_once (item.Dispute dispute) = false
is_made_once (item.Transfer transfer) = false
is_made_once (item.Reversal reversal) = true
is_made_once (item.Fee fee) = false
is_made_once (item.FeeRefund fee_refund) = true
is_made_once (item.Txn txn) = true
is_made_once (item.Event event) = true
