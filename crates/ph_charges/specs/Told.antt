-- The events of a split: they tell of its transfer and of its application fee.
use Rattle.std.specs.Prelude.{List, [], ◌∷◌, Option, None, Some, option_map}
use Rattle.std.specs.List.{filter_map}
use Rattle.ph_items.specs.declared.event_kinds.EventKind.{EventKind}
use Rattle.ph_items.specs.declared.event_kinds.EventKind.TheVariants as event
use Rattle.ph_items.specs.declared.items.Item.{Item}
use Rattle.ph_items.specs.declared.items.Item.TheVariants as item
use Rattle.ph_rows.specs.declared.batches.Announced.{Announced}
use Rattle.ph_rows.specs.declared.rows.Row.{Row}
use Rattle.ph_rows.specs.Batches.{BatchState, with_announced}

-- what tells of a new object, where it is a transfer or an application fee
abbrev pub split_event : Item → Option EventKind
split_event (item.Account account) = None
split_event (item.Intent intent) = None
split_event (item.Attempt attempt) = None
split_event (item.Charge charge) = None
split_event (item.Refund refund) = None
split_event (item.Dispute dispute) = None
split_event (item.Transfer transfer) = Some event.TransferCreated
split_event (item.Reversal reversal) = None
split_event (item.Fee fee) = Some event.FeeCreated
split_event (item.FeeRefund fee_refund) = None
split_event (item.Txn txn) = None
split_event (item.Event event) = None

-- the announcement of the object of a row, where it is one of the two
abbrev pub told_by : Row → Option Announced
told_by row = option_map (λ sort. record { sort = sort; object = row.object }) (split_event row.item)

-- the announcements of the transfers and application fees among rows, in their order
abbrev pub split_events : List Row → List Announced
split_events rows = filter_map told_by rows

-- the batch with these announcements, one after another
abbrev pub with_all_announced : List Announced → BatchState → BatchState
with_all_announced [] batch = batch
with_all_announced (told ∷ more) batch = with_all_announced more (with_announced batch told.sort told.object)

-- the batch with the events of the split whose rows it has
abbrev pub with_split_told : BatchState → BatchState
with_split_told batch = with_all_announced (split_events batch.rows) batch
