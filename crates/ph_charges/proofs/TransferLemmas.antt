-- The rows of a new transfer may stand, and say the amounts of what they begin.
use Rattle.std.specs.Prelude.{neg_ℤ}
use Rattle.std.proofs.Common.{◌≡◌, ℕ, pos, ◌+ℤ◌, ◌+◌, ◌≤◌, true, List, [], ◌∷◌, ◌++◌, Some, length, ap, sym, refl, arith}
use Rattle.std.specs.List.{list_all}
use Rattle.std.specs.Str.{is_utf8}
use Rattle.std.proofs.lemmas.Int.{ints}
use Rattle.ph_base.specs.declared.ids.Kind.{Kind}
use Rattle.ph_base.specs.declared.ids.Kind.TheVariants as kind
use Rattle.ph_items.specs.declared.items.Item.TheVariants as item
use Rattle.ph_items.specs.declared.transactions.TxnSource.TheVariants as source
use Rattle.ph_items.specs.declared.transactions.TxnType.TheVariants as sort
use Rattle.ph_items.specs.declared.transfers.Transfer.{Transfer}
use Rattle.ph_items.specs.Accounts.{platform}
use Rattle.ph_items.specs.Weights.{texts_of}
use Rattle.ph_rows.specs.declared.rows.Row.{Row}
use Rattle.ph_rows.specs.Batches.{BatchState, last_place}
use Rattle.ph_rows.specs.Views.{ViewState}
use Rattle.ph_facts.specs.Amounts.{captured, captured_of, refunded, refunded_of, transferred, transferred_of}
use Rattle.ph_facts.specs.Origins.{HasOrigins, charge_named}
use Rattle.ph_facts.proofs.AmountLemmas.{captured_sum, refunded_sum, transferred_sum}
use Rattle.ph_facts.proofs.SpokenLemmas.{Spoken, spoken_adding, spoken_version}
use Rattle.ph_charges.specs.NewRows.{NewRow, with_new_rows}
use Rattle.ph_charges.specs.Payments.{payment_given}
use Rattle.ph_charges.specs.Transfers.{transfer_rows, transfer_txn}
use Rattle.ph_charges.proofs.NewRowLemmas.{AllStand, Begun, after, last_begun, next_number, row_here, still_begun, txn_stands}

-- its four rows
abbrev pub own_row : Transfer → NewRow
own_row transfer = record { account = platform; item = item.Transfer transfer }

abbrev pub leaving_row : ℕ → Transfer → NewRow
leaving_row number transfer = record {
  account = platform;
  item = item.Txn (transfer_txn transfer sort.Transfer (neg_ℤ (pos transfer.amount)) 0 (source.Transfer number));
}

abbrev pub payment_row : ℕ → Transfer → NewRow
payment_row number transfer = record {
  account = transfer.destination;
  item = item.Charge (payment_given number transfer.amount transfer.currency (number + 3) transfer.available_on);
}

abbrev pub arriving_row : ℕ → Transfer → ℕ → NewRow
arriving_row number transfer taken = record {
  account = transfer.destination;
  item = item.Txn (transfer_txn transfer sort.Payment (pos transfer.amount) taken (source.Payment (number + 2)));
}

-- what has begun has with them
pub begun_with_transfer : (state : ViewState) (batch : BatchState) (number : ℕ) (transfer : Transfer) (taken : ℕ) (kind : Kind) (object : ℕ)
    → Begun (state.rows ++ batch.rows) kind object
    → Begun (state.rows ++ (with_new_rows (transfer_rows number transfer taken) batch).rows) kind object
begun_with_transfer state batch number transfer taken kind object begun =
    let one = after batch (own_row transfer) in
    let two = after one (leaving_row number transfer) in
    let three = after two (payment_row number transfer) in
    still_begun state.rows three (arriving_row number transfer taken) kind object (still_begun state.rows two (payment_row number transfer) kind object
    (still_begun state.rows one (leaving_row number transfer) kind object (still_begun state.rows batch (own_row transfer) kind object begun)))

-- the place behind them
pub next_behind : (batch : BatchState) (number : ℕ) (transfer : Transfer) (taken : ℕ) → last_place batch + 1 ≡ number
    → last_place (with_new_rows (transfer_rows number transfer taken) batch) + 1 ≡ number + 4
next_behind batch number transfer taken is =
    let one = next_number batch (own_row transfer) number is in
    let two = next_number (after batch (own_row transfer)) (leaving_row number transfer) (number + 1) one in
    let three = next_number (after (after batch (own_row transfer)) (leaving_row number transfer)) (payment_row number transfer) (number + 1 + 1) two in
    let four = next_number (after (after (after batch (own_row transfer)) (leaving_row number transfer)) (payment_row number transfer))
    (arriving_row number transfer taken) (number + 1 + 1 + 1) three in
    omega arith

-- they may stand where the texts of the transfer are UTF-8, no more of it is reversed than its amount, and the charge that it is drawn
-- on has begun; and so may what may stand behind them
pub transfer_stands : (state : ViewState) (batch : BatchState) (number : ℕ) (transfer : Transfer) (taken : ℕ) (more : List NewRow)
    → batch.began ≡ length state.rows → last_place batch + 1 ≡ number → list_all is_utf8 (texts_of (item.Transfer transfer)) ≡ true
    → transfer.amount_reversed ≤ transfer.amount → HasOrigins (state.rows ++ batch.rows) (charge_named transfer.source)
    → AllStand state (with_new_rows (transfer_rows number transfer taken) batch) more
    → AllStand state batch (transfer_rows number transfer taken ++ more)
transfer_stands state batch number transfer taken more began is texts within origins behind = (
  record { texts = texts; within = within; origins = origins; silent = λ event same. absurd (cc) },
  (
    txn_stands (state.rows ++ one.rows) (transfer_txn transfer sort.Transfer (neg_ℤ (pos transfer.amount)) 0 (source.Transfer number)) begun,
    (
      record {
        texts = refl;
        within = record { captured = omega arith; refunded = omega arith; transferred = omega arith };
        origins = (still_begun state.rows one (leaving_row number transfer) kind.Transfer number begun, tt);
        silent = λ event same. absurd (cc);
      },
      (
        txn_stands (state.rows ++ three.rows) (transfer_txn transfer sort.Payment (pos transfer.amount) taken (source.Payment (number + 2)))
            (last_begun state.rows two (payment_row number transfer) (number + 2) began third),
        behind,
      ),
    ),
  ),
)
  where
    one : BatchState
    one = after batch (own_row transfer)

    two : BatchState
    two = after one (leaving_row number transfer)

    three : BatchState
    three = after two (payment_row number transfer)

    begun : Begun (state.rows ++ one.rows) kind.Transfer number
    begun = last_begun state.rows batch (own_row transfer) number began is

    third : last_place two + 1 ≡ number + 2
    third =
        let second = next_number batch (own_row transfer) number is in
        let third = next_number one (leaving_row number transfer) (number + 1) second in omega arith

-- ---- what they say and add to amounts

-- the payment says what its transaction adds, which was all
pub payment_captures : (rows : List Row) (number place at : ℕ) (transfer : Transfer) (taken : ℕ) → number + 2 ≡ place
    → captured_of place rows ≡ pos 0
    → Spoken captured rows (row_here place at (payment_row number transfer) ∷ row_here (place + 1) at (arriving_row number transfer taken) ∷ [])
payment_captures rows number place at transfer taken is none =
    spoken_adding captured rows (row_here place at (payment_row number transfer)) (row_here (place + 1) at (arriving_row number transfer taken))
    (pos transfer.amount) (pos transfer.amount) captured_sum refl refl
    (ap (λ (k : ℕ). Some (record { object = k; amount = pos transfer.amount })) is) refl
    (let right : pos transfer.amount ≡ captured_of place rows +ℤ pos transfer.amount = omega (arith, ints) in right)

-- and that nothing was refunded or transferred of it
pub payment_refunds : (rows : List Row) (number place at : ℕ) (transfer : Transfer) → refunded_of place rows ≡ 0
    → Spoken refunded rows (row_here place at (payment_row number transfer) ∷ [])
payment_refunds rows number place at transfer none =
    spoken_version refunded rows (row_here place at (payment_row number transfer)) 0 refunded_sum refl refl (sym none)

pub payment_transfers : (rows : List Row) (number place at : ℕ) (transfer : Transfer) → transferred_of place rows ≡ 0
    → Spoken transferred rows (row_here place at (payment_row number transfer) ∷ [])
payment_transfers rows number place at transfer none =
    spoken_version transferred rows (row_here place at (payment_row number transfer)) 0 transferred_sum refl refl (sym none)
