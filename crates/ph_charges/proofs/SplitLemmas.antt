-- The rows of a split: how they stand in a batch, and what the kinds of splits have in common.
use Rattle.std.specs.Prelude.{slice_get, ◌==◌}
use Rattle.std.proofs.Common.{◌≡◌, ℕ, ◌+◌, ◌≤◌, ◌<◌, Bool, true, false, cond, List, [], ◌∷◌, ◌++◌, Option, None, Some, length, refl, sym, ap, ◌∙◌, subst, arith}
use Rattle.std.proofs.lemmas.List.{append_assoc, length-append}
use Rattle.ph_items.specs.declared.accounts.AccountType.TheVariants as account_type
use Rattle.ph_items.specs.declared.charges.Charge.{Charge}
use Rattle.ph_items.specs.declared.event_kinds.EventKind.TheVariants as event
use Rattle.ph_items.specs.declared.items.Item.TheVariants as item
use Rattle.ph_items.specs.declared.transactions.TxnSource.TheVariants as source
use Rattle.ph_items.specs.declared.transactions.TxnType.TheVariants as sort
use Rattle.ph_items.specs.Accounts.{platform}
use Rattle.std.specs.Prelude.{pos}
use Rattle.ph_rows.specs.declared.rows.Row.{Row}
use Rattle.ph_rows.specs.Batches.{BatchState, last_place, next_row, with_row}
use Rattle.ph_rows.specs.Views.{ViewState}
use Rattle.ph_rows.proofs.RowLemmas.{slice_get-behind}
use Rattle.ph_facts.specs.Held.{AreHeld}
use Rattle.ph_facts.specs.Order.{IsInOrder}
use Rattle.ph_facts.specs.Shown.{shown_in}
use Rattle.ph_facts.proofs.HeldLemmas.{AllLeave, IsApart, later_is_loose}
use Rattle.ph_facts.proofs.DoneLemmas.{shown_before}
use Rattle.ph_charges.specs.Charges.{captured_charge, next_capture, with_captured}
use Rattle.ph_charges.specs.NewRows.{NewRow}
use Rattle.ph_charges.specs.Splits.{destination_split, direct_split, fee_rows, fee_taken, plain_split, split_fee, split_rows, split_to, split_txn}
use Rattle.ph_charges.specs.Told.{split_events}
use Rattle.ph_charges.proofs.NewRowLemmas.{new_rows_are, new_rows_silent, place_after, rows_as_many, rows_from}
use Rattle.ph_charges.proofs.TellLemmas.{events_both}

-- ---- their kinds

-- an application fee and its transaction
abbrev pub fee_pair : ℕ → ℕ → ℕ → Charge → ℕ → ℕ → List NewRow
fee_pair place account object charge taken now =
    record { account = platform; item = item.Fee (split_fee place account object charge taken now) } ∷
    record { account = platform; item = item.Txn (split_txn charge sort.ApplicationFee (pos taken) 0 (source.Fee place) now) } ∷ []

-- what holds where no fee is taken, and where one is
pub by_fee : (P : List NewRow → Type 0) (place account object : ℕ) (charge : Charge) (taken now : ℕ) → P []
    → P (fee_pair place account object charge taken now) → P (fee_rows place account object charge taken now)
by_fee P place account object charge taken now none some = at (taken == 0)
  where
    at : (b : Bool) → P (cond b [] (fee_pair place account object charge taken now))
    at true = none
    at false = some

-- what holds of each kind of a split, by the destination of the charge
pub by_destination : (P : Option ℕ → List NewRow → Type 0) (place account object : ℕ) (charge : Charge) (amount now : ℕ)
    → P None (plain_split account object charge amount now) → P None (direct_split place account object charge amount now)
    → ((destination : ℕ) → P (Some destination) (destination_split place destination account object charge amount now))
    → P charge.destination (split_rows place account object charge amount now)
by_destination P place account object charge amount now plain direct to = at charge.destination
  where
    of_account : (b : Bool) → P None (cond b (plain_split account object charge amount now) (direct_split place account object charge amount now))
    of_account true = plain
    of_account false = direct

    at : (destination : Option ℕ) → P destination (split_to destination place account object charge amount now)
    at None = of_account (account == platform)
    at (Some destination) = to destination

-- what holds of each kind of a split
pub by_kind : (P : List NewRow → Type 0) (place account object : ℕ) (charge : Charge) (amount now : ℕ)
    → P (plain_split account object charge amount now) → P (direct_split place account object charge amount now)
    → ((destination : ℕ) → P (destination_split place destination account object charge amount now))
    → P (split_rows place account object charge amount now)
by_kind P place account object charge amount now plain direct to =
    by_destination (λ destination split. P split) place account object charge amount now plain direct to

-- the row of a charge of which an amount is captured
abbrev pub captured_row : ℕ → ℕ → Charge → ℕ → BatchState → Row
captured_row account object charge amount batch =
    next_row batch object account (item.Charge (captured_charge amount (next_capture account charge amount batch) charge))

-- the rows of its split
abbrev pub split_behind : ℕ → ℕ → Charge → ℕ → BatchState → List Row
split_behind account object charge amount batch =
    rows_from (last_place batch + 2) batch.at (split_rows (last_place batch + 2) account object charge amount batch.at)

-- the rows of a batch with a capture
pub captured_is : (account object : ℕ) (charge : Charge) (amount : ℕ) (batch : BatchState)
    → (with_captured account object charge amount batch).rows
    ≡ batch.rows ++ captured_row account object charge amount batch ∷ split_behind account object charge amount batch
captured_is account object charge amount batch =
    let row = captured_row account object charge amount batch in
    let split = split_rows (last_place batch + 2) account object charge amount batch.at in
    let next : last_place (with_row batch object account row.item) + 1 ≡ last_place batch + 2 =
    (let after = place_after batch object account row.item in omega arith) in
    new_rows_are split (with_row batch object account row.item)
    ∙ ap (λ (p : ℕ). (batch.rows ++ row ∷ []) ++ rows_from p batch.at split) next
    ∙ append_assoc batch.rows (row ∷ []) (split_behind account object charge amount batch)

-- it announces nothing
pub captured_silent : (account object : ℕ) (charge : Charge) (amount : ℕ) (batch : BatchState)
    → (with_captured account object charge amount batch).announced ≡ batch.announced
captured_silent account object charge amount batch =
    let row = captured_row account object charge amount batch in
    new_rows_silent (split_rows (last_place batch + 2) account object charge amount batch.at) (with_row batch object account row.item)

-- the row of the charge stands behind those of the batch
pub captured_has : (account object : ℕ) (charge : Charge) (amount : ℕ) (batch : BatchState)
    → slice_get (with_captured account object charge amount batch).rows (length batch.rows)
    ≡ Some (captured_row account object charge amount batch)
captured_has account object charge amount batch =
    let row = captured_row account object charge amount batch in
    let behind = split_behind account object charge amount batch in
    let same : length batch.rows ≡ length batch.rows + 0 = omega arith in
    ap (λ (rows : List Row). slice_get rows (length batch.rows)) (captured_is account object charge amount batch)
    ∙ ap (slice_get (batch.rows ++ row ∷ behind)) same
    ∙ slice_get-behind batch.rows (row ∷ behind) 0

-- ---- what every split has in common

-- a row of it
a_row : NewRow
a_row = record { account = platform; item = item.Account (record { sort = account_type.Standard; email = None; metadata = [] }) }

-- it has at most seven rows
pub rows_few : (place account object : ℕ) (charge : Charge) (amount now : ℕ)
    → length (split_rows place account object charge amount now) ≤ 7
rows_few place account object charge amount now =
    by_kind (λ split. length split ≤ 7) place account object charge amount now (omega arith)
    (by_fee (λ fees. length (a_row ∷ fees) ≤ 7) (place + 1) account object charge (fee_taken charge amount) now (omega arith) (omega arith))
    (λ destination. by_fee (λ fees. length (a_row ∷ a_row ∷ a_row ∷ a_row ∷ a_row ∷ fees) ≤ 7) (place + 5) destination object charge
    (fee_taken charge amount) now (omega arith) (omega arith))

-- it shows nothing of payment intents and attempts
pub split_shows : (place account object : ℕ) (charge : Charge) (amount now p at : ℕ)
    → shown_in (rows_from p at (split_rows place account object charge amount now)) ≡ []
split_shows place account object charge amount now p at =
    by_kind (λ split. shown_in (rows_from p at split) ≡ []) place account object charge amount now refl
    (by_fee (λ fees. shown_in (rows_from (p + 1) at fees) ≡ []) (place + 1) account object charge (fee_taken charge amount) now refl refl)
    (λ destination. by_fee (λ fees. shown_in (rows_from (p + 1 + 1 + 1 + 1 + 1) at fees) ≡ []) (place + 5) destination object charge
    (fee_taken charge amount) now refl refl)

-- it has at most two events
pub split_tells : (place account object : ℕ) (charge : Charge) (amount now p at : ℕ)
    → length (split_events (rows_from p at (split_rows place account object charge amount now))) ≤ 2
split_tells place account object charge amount now p at =
    by_kind (λ split. length (split_events (rows_from p at split)) ≤ 2) place account object charge amount now (omega arith)
    (by_fee (λ fees. length (split_events (rows_from (p + 1) at fees)) ≤ 2) (place + 1) account object charge (fee_taken charge amount) now (omega arith) (omega arith))
    (λ destination. by_fee (λ fees. length (record { sort = event.TransferCreated; object = p + 1 } ∷ split_events (rows_from (p + 1 + 1 + 1 + 1 + 1) at fees)) ≤ 2)
    (place + 5) destination object charge (fee_taken charge amount) now (omega arith) (omega arith))

-- it leaves what is held for payment intents: a payment holds nothing
pub split_leaves : (state : ViewState) (other place account object : ℕ) (charge : Charge) (amount now p at : ℕ) → IsInOrder state
    → AreHeld state.rows → length state.rows < p
    → AllLeave state.rows other (rows_from p at (split_rows place account object charge amount now))
split_leaves state other place account object charge amount now p at order held later =
    by_kind (λ split. AllLeave state.rows other (rows_from p at split)) place account object charge amount now (tt, tt)
    (by_fee (λ fees. AllLeave state.rows other (rows_from p at (plain ∷ fees))) (place + 1) account object charge (fee_taken charge amount) now (tt, tt) (tt, (tt, (tt, tt))))
    (λ destination. (
      tt,
      (tt, (tt, (later_is_loose state (p + 1 + 1 + 1) order held (omega arith) other, (tt, by_fee (λ fees. AllLeave state.rows other (rows_from (p + 1 + 1 + 1 + 1 + 1) at fees)) (place + 5) destination object charge (fee_taken charge amount) now tt (tt, (tt, tt)))))),
    ))
  where
    plain : NewRow
    plain = record { account = account; item = item.Txn (split_txn charge sort.Charge (pos amount) 0 (source.Charge object) now) }

-- ---- what a capture adds

-- the charge's row and at most seven others
pub captured_few : (account object : ℕ) (charge : Charge) (amount : ℕ) (batch : BatchState)
    → length (with_captured account object charge amount batch).rows ≤ length batch.rows + 8
captured_few account object charge amount batch =
    let row = captured_row account object charge amount batch in
    let behind = split_behind account object charge amount batch in
    let is : length (with_captured account object charge amount batch).rows ≡ length (batch.rows ++ row ∷ behind) =
    ap (λ (rows : List Row). length rows) (captured_is account object charge amount batch) in
    let both : length (batch.rows ++ row ∷ behind) ≡ length batch.rows + length (row ∷ behind) = length-append batch.rows (row ∷ behind) in
    let many : length behind ≡ length (split_rows (last_place batch + 2) account object charge amount batch.at) =
    rows_as_many (last_place batch + 2) batch.at (split_rows (last_place batch + 2) account object charge amount batch.at) in
    let few : length (split_rows (last_place batch + 2) account object charge amount batch.at) ≤ 7 =
    rows_few (last_place batch + 2) account object charge amount batch.at in
    let one : length (row ∷ behind) ≡ length behind + 1 = omega arith in
    omega arith

-- at most two events of its split
pub captured_tells : (account object : ℕ) (charge : Charge) (amount : ℕ) (batch : BatchState)
    → length (split_events (with_captured account object charge amount batch).rows) ≤ length (split_events batch.rows) + 2
captured_tells account object charge amount batch =
    let row = captured_row account object charge amount batch in
    let behind = split_behind account object charge amount batch in
    let is : length (split_events (with_captured account object charge amount batch).rows) ≡ length (split_events (batch.rows ++ row ∷ behind)) =
    ap (λ (rows : List Row). length (split_events rows)) (captured_is account object charge amount batch) in
    let both : length (split_events (batch.rows ++ row ∷ behind)) ≡ length (split_events batch.rows) + length (split_events behind) =
    events_both batch.rows (row ∷ behind) in
    let few : length (split_events behind) ≤ 2 = split_tells (last_place batch + 2) account object charge amount batch.at (last_place batch + 2) batch.at in
    omega arith

-- it shows nothing more of payment intents and attempts
pub captured_shows : (account object : ℕ) (charge : Charge) (amount : ℕ) (batch : BatchState)
    → shown_in (with_captured account object charge amount batch).rows ≡ shown_in batch.rows
captured_shows account object charge amount batch =
    ap shown_in (captured_is account object charge amount batch)
    ∙ shown_before batch.rows (captured_row account object charge amount batch ∷ split_behind account object charge amount batch)
    (split_shows (last_place batch + 2) account object charge amount batch.at (last_place batch + 2) batch.at)

-- rows that leave what is held, and others
pub leave_both : (rows : List Row) (other : ℕ) (front behind : List Row) → AllLeave rows other front → AllLeave rows other behind
    → AllLeave rows other (front ++ behind)
leave_both rows other [] behind first second = second
leave_both rows other (row ∷ front) behind first second = (first.0, leave_both rows other front behind first.1 second)

-- it leaves what is held for another payment intent, where the charge does
pub captured_leaves : (state : ViewState) (other account object : ℕ) (charge : Charge) (amount : ℕ) (batch : BatchState) → IsInOrder state
    → AreHeld state.rows → length state.rows ≤ last_place batch → AllLeave state.rows other batch.rows → IsApart state.rows other object
    → AllLeave state.rows other (with_captured account object charge amount batch).rows
captured_leaves state other account object charge amount batch order held later front apart =
    subst (AllLeave state.rows other) (sym (captured_is account object charge amount batch))
    (leave_both state.rows other batch.rows
    (captured_row account object charge amount batch ∷ split_behind account object charge amount batch) front
    (apart, split_leaves state other (last_place batch + 2) account object charge amount batch.at (last_place batch + 2) batch.at order held (omega arith)))
