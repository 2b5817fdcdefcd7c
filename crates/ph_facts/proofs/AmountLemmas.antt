-- The amounts of charges, transfers, application fees and disputes are sums, and what a row of an entry does to them.
use Rattle.std.specs.Prelude.{if◌then◌else◌, is_some, ◌||◌, option_and_then, option_map}
use Rattle.std.proofs.Common.{◌≡◌, ℕ, ◌≤◌, List, [], ◌∷◌, Bool, true, false, Option, None, Some, length, refl, sym, ap, ◌∙◌, subst, arith, ℤ}
use Rattle.std.proofs.lemmas.Bool.{cond-false, cond-true, eq-eqb, ne_eqb}
use Rattle.std.proofs.lemmas.Int.{ints}
use Rattle.std.proofs.lemmas.List.{append-nil, append_assoc}
use Rattle.ph_base.specs.declared.ids.Kind.TheVariants as kind
use Rattle.ph_items.specs.declared.fee_refunds.FeeRefund.{FeeRefund}
use Rattle.ph_items.specs.declared.items.Item.{Item}
use Rattle.ph_items.specs.declared.items.Item.TheVariants as item
use Rattle.ph_items.specs.declared.refunds.Refund.{Refund}
use Rattle.ph_items.specs.declared.reversals.Reversal.{Reversal}
use Rattle.ph_items.specs.declared.transactions.Txn.{Txn}
use Rattle.ph_items.specs.declared.transactions.TxnSource.{TxnSource}
use Rattle.ph_items.specs.declared.transactions.TxnSource.TheVariants as source
use Rattle.ph_items.specs.declared.transactions.TxnType.{TxnType}
use Rattle.ph_items.specs.declared.transactions.TxnType.TheVariants as sort
use Rattle.ph_items.specs.declared.transfers.Transfer.{Transfer}
use Rattle.ph_items.specs.Items.{fee_refund_in, refund_in, reversal_in, transfer_in, txn_in}
use Rattle.ph_items.specs.Transactions.{source_kind, source_number}
use Rattle.ph_rows.specs.declared.rows.Row.{Row}
use Rattle.ph_facts.specs.Amounts.{Move, captured, captured_by, drawn_by, given_back, is_first, moved, moved_by, refunded, reversed, transferred}
use Rattle.ph_facts.specs.Origins.{HasOrigins, charge_named, origins_of}
use Rattle.ph_facts.specs.Tallies.{Addition}
use Rattle.ph_facts.proofs.OriginLemmas.{origin_within}
use Rattle.ph_facts.proofs.TallyLemmas.{AddsToNamed, IsSum, speaks}
use Rattle.ph_facts.proofs.VersionLemmas.{fee_refund_is, refund_is, reversal_is, transfer_is, txn_is}

-- ---- how the amounts are added up

pub captured_sum : IsSum ℤ captured
captured_sum = record {
  front = λ a. omega (arith, ints);
  back = λ a. omega (arith, ints);
  grouped = λ a b c. omega (arith, ints);
}

pub refunded_sum : IsSum ℕ refunded
refunded_sum = record {
  front = λ a. omega arith;
  back = λ a. omega arith;
  grouped = λ a b c. omega arith;
}

pub transferred_sum : IsSum ℕ transferred
transferred_sum = record {
  front = λ a. omega arith;
  back = λ a. omega arith;
  grouped = λ a b c. omega arith;
}

pub reversed_sum : IsSum ℕ reversed
reversed_sum = record {
  front = λ a. omega arith;
  back = λ a. omega arith;
  grouped = λ a b c. omega arith;
}

pub given_back_sum : IsSum ℕ given_back
given_back_sum = record {
  front = λ a. omega arith;
  back = λ a. omega arith;
  grouped = λ a b c. omega arith;
}

pub moved_sum : IsSum (List Move) moved
moved_sum = record {
  front = λ a. refl;
  back = λ a. append-nil a;
  grouped = λ a b c. append_assoc a b c;
}

-- ---- what is added goes to objects that are named

-- the objects that an item names, by what it is
named_by : (rows : List Row) (content version : Item) → content ≡ version → HasOrigins rows (origins_of content)
    → HasOrigins rows (origins_of version)
named_by rows content version is there = subst (λ (o : Item). HasOrigins rows (origins_of o)) is there

-- a transaction of a type adds to its source
captured_to : (type : TxnType) (number : ℕ) (amount : ℤ) (part : Addition ℤ) → captured_by type number amount ≡ Some part → part.object ≡ number
captured_to sort.Charge number amount part e = let same : record { object = number; amount = amount } ≡ part = cc in sym (ap (λ (p : Addition ℤ). p.object) same)
captured_to sort.Payment number amount part e = let same : record { object = number; amount = amount } ≡ part = cc in sym (ap (λ (p : Addition ℤ). p.object) same)
captured_to sort.Refund number amount part e = absurd (cc)
captured_to sort.Transfer number amount part e = absurd (cc)
captured_to sort.ApplicationFee number amount part e = absurd (cc)
captured_to sort.ApplicationFeeRefund number amount part e = absurd (cc)
captured_to sort.Adjustment number amount part e = absurd (cc)

pub captured_named : AddsToNamed captured
captured_named rows row part e there = by (txn_in row.item) refl e
  where
    by : (found : Option Txn) → txn_in row.item ≡ found
        → option_and_then (λ (txn : Txn). captured_by txn.sort (source_number txn.source) txn.amount) found ≡ Some part
        → part.object ≤ length rows
    by None is e = absurd (cc)
    by (Some txn) is e =
        let named = named_by rows row.item (item.Txn txn) (txn_is row.item txn is) there in
        let within = origin_within rows (record { kind = source_kind txn.source; number = source_number txn.source }) named.0 in
        let to = captured_to txn.sort (source_number txn.source) txn.amount part e in
        omega (arith, within, to)

pub refunded_named : AddsToNamed refunded
refunded_named rows row part e there = by (refund_in row.item) refl e
  where
    by : (found : Option Refund) → refund_in row.item ≡ found
        → option_map (λ (refund : Refund). record { object = refund.charge; amount = refund.amount }) found ≡ Some part
        → part.object ≤ length rows
    by None is e = absurd (cc)
    by (Some refund) is e =
        let named = named_by rows row.item (item.Refund refund) (refund_is row.item refund is) there in
        let within = origin_within rows (record { kind = kind.Charge; number = refund.charge }) named.0 in
        let same : record { object = refund.charge; amount = refund.amount } ≡ part = cc in
        let to : refund.charge ≡ part.object = ap (λ (p : Addition ℕ). p.object) same in
        omega (arith, within, to)

-- what was taken, where it was
if_taken : (b : Bool) (one : Option (Addition ℕ)) (part : Addition ℕ) → (if b then one else None) ≡ Some part → one ≡ Some part
if_taken true one part e = e
if_taken false one part e = absurd (cc)

-- a transfer draws on the charge that it names
drawn_to : (rows : List Row) (charge : Option ℕ) (amount : ℕ) (part : Addition ℕ)
    → option_map (λ (number : ℕ). record { object = number; amount = amount }) charge ≡ Some part → HasOrigins rows (charge_named charge)
    → part.object ≤ length rows
drawn_to rows None amount part e there = absurd (cc)
drawn_to rows (Some charge) amount part e there =
    let within = origin_within rows (record { kind = kind.Charge; number = charge }) there.0 in
    let same : record { object = charge; amount = amount } ≡ part = cc in
    let to : charge ≡ part.object = ap (λ (p : Addition ℕ). p.object) same in
    omega (arith, within, to)

pub transferred_named : AddsToNamed transferred
transferred_named rows row part e there = by (transfer_in row.item) refl e
  where
    by : (found : Option Transfer) → transfer_in row.item ≡ found
        → option_and_then (λ (transfer : Transfer). if is_first row then drawn_by transfer else None) found ≡ Some part
        → part.object ≤ length rows
    by None is e = absurd (cc)
    by (Some transfer) is e =
        drawn_to rows transfer.source transfer.amount part (if_taken (is_first row) (drawn_by transfer) part e)
        (named_by rows row.item (item.Transfer transfer) (transfer_is row.item transfer is) there)

pub reversed_named : AddsToNamed reversed
reversed_named rows row part e there = by (reversal_in row.item) refl e
  where
    by : (found : Option Reversal) → reversal_in row.item ≡ found
        → option_map (λ (reversal : Reversal). record { object = reversal.transfer; amount = reversal.amount }) found ≡ Some part
        → part.object ≤ length rows
    by None is e = absurd (cc)
    by (Some reversal) is e =
        let named = named_by rows row.item (item.Reversal reversal) (reversal_is row.item reversal is) there in
        let within = origin_within rows (record { kind = kind.Transfer; number = reversal.transfer }) named.0 in
        let same : record { object = reversal.transfer; amount = reversal.amount } ≡ part = cc in
        let to : reversal.transfer ≡ part.object = ap (λ (p : Addition ℕ). p.object) same in
        omega (arith, within, to)

pub given_back_named : AddsToNamed given_back
given_back_named rows row part e there = by (fee_refund_in row.item) refl e
  where
    by : (found : Option FeeRefund) → fee_refund_in row.item ≡ found
        → option_map (λ (refund : FeeRefund). record { object = refund.fee; amount = refund.amount }) found ≡ Some part
        → part.object ≤ length rows
    by None is e = absurd (cc)
    by (Some refund) is e =
        let named = named_by rows row.item (item.FeeRefund refund) (fee_refund_is row.item refund is) there in
        let within = origin_within rows (record { kind = kind.Fee; number = refund.fee }) named.0 in
        let same : record { object = refund.fee; amount = refund.amount } ≡ part = cc in
        let to : refund.fee ≡ part.object = ap (λ (p : Addition ℕ). p.object) same in
        omega (arith, within, to)

-- a transaction from a source adds to that
moved_to : (from : TxnSource) (move : Move) (part : Addition (List Move)) → moved_by from move ≡ Some part → part.object ≡ source_number from
moved_to (source.Charge number) move part e = absurd (cc)
moved_to (source.Payment number) move part e = absurd (cc)
moved_to (source.Refund number) move part e = absurd (cc)
moved_to (source.Dispute number) move part e =
    let same : record { object = number; amount = move ∷ [] } ≡ part = cc in sym (ap (λ (p : Addition (List Move)). p.object) same)
moved_to (source.Transfer number) move part e = absurd (cc)
moved_to (source.Reversal number) move part e = absurd (cc)
moved_to (source.Fee number) move part e = absurd (cc)
moved_to (source.FeeRefund number) move part e = absurd (cc)

pub moved_named : AddsToNamed moved
moved_named rows row part e there = by (txn_in row.item) refl e
  where
    by : (found : Option Txn) → txn_in row.item ≡ found
        → option_and_then (λ (txn : Txn). moved_by txn.source (record { amount = txn.amount; fee = txn.fee })) found ≡ Some part
        → part.object ≤ length rows
    by None is e = absurd (cc)
    by (Some txn) is e =
        let named = named_by rows row.item (item.Txn txn) (txn_is row.item txn is) there in
        let within = origin_within rows (record { kind = source_kind txn.source; number = source_number txn.source }) named.0 in
        let to = moved_to txn.source (record { amount = txn.amount; fee = txn.fee }) part e in
        omega (arith, within, to)

-- ---- what a transfer adds to what was transferred

-- the row that begins it adds what it draws
pub transferred_first : (row : Row) (transfer : Transfer) → row.item ≡ item.Transfer transfer → row.object ≡ row.place
    → transferred.adds row ≡ drawn_by transfer
transferred_first row transfer is begins =
    ap (λ (o : Item). option_and_then (λ (version : Transfer). if is_first row then drawn_by version else None) (transfer_in o)) is
    ∙ cond-true (is_first row) (drawn_by transfer) None (eq-eqb row.object row.place begins)

-- and a further version adds nothing
pub transferred_further : (row : Row) (transfer : Transfer) → row.item ≡ item.Transfer transfer → (row.object ≡ row.place → ⊥)
    → transferred.adds row ≡ None
transferred_further row transfer is further =
    ap (λ (o : Item). option_and_then (λ (version : Transfer). if is_first row then drawn_by version else None) (transfer_in o)) is
    ∙ cond-false (is_first row) (drawn_by transfer) None (ne_eqb row.object row.place further)

-- so the first row of a transfer has to do with it, where it is drawn on a charge, and a further version hasn't
pub first_speaks : (row : Row) (transfer : Transfer) (charge : ℕ) → row.item ≡ item.Transfer transfer → transfer.source ≡ Some charge
    → row.object ≡ row.place → speaks transferred row ≡ true
first_speaks row transfer charge is drawn begins =
    ap (λ (part : Option (Addition ℕ)). is_some part || is_some (transferred.said row.item))
    (transferred_first row transfer is begins
    ∙ ap (option_map (λ (number : ℕ). record { object = number; amount = transfer.amount })) drawn)

pub further_is_quiet : (row : Row) (transfer : Transfer) → row.item ≡ item.Transfer transfer → (row.object ≡ row.place → ⊥)
    → speaks transferred row ≡ false
further_is_quiet row transfer is further =
    ap (λ (part : Option (Addition ℕ)). is_some part || is_some (transferred.said row.item)) (transferred_further row transfer is further)
    ∙ ap (λ (o : Item). is_some (transferred.said o)) is
