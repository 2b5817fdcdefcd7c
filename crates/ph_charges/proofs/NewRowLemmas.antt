-- New rows that are added one after another: how they stand, and that a batch stays under way with them.
use Rattle.std.proofs.Common.{◌≡◌, ℕ, suc, ◌+◌, ◌^◌, ◌<◌, List, [], ◌∷◌, ◌++◌, Option, length, refl, sym, ap, ◌∙◌, subst, arith}
use Rattle.std.proofs.lemmas.List.{append-nil, append_assoc, length-append}
use Rattle.ph_base.specs.declared.ids.Kind.{Kind}
use Rattle.ph_items.specs.declared.items.Item.{Item}
use Rattle.ph_items.specs.declared.items.Item.TheVariants as item
use Rattle.ph_items.specs.declared.transactions.Txn.{Txn}
use Rattle.ph_items.specs.Kinds.{kind_of}
use Rattle.ph_items.specs.Transactions.{source_kind, source_number}
use Rattle.ph_rows.specs.declared.rows.Row.{Row}
use Rattle.ph_rows.specs.Batches.{BatchState, last_place, next_row, with_row}
use Rattle.ph_rows.specs.Rows.{row_at}
use Rattle.ph_rows.specs.Views.{ViewState}
use Rattle.ph_rows.proofs.RowLemmas.{row_at-next}
use Rattle.ph_facts.specs.Order.{IsInOrder}
use Rattle.ph_facts.specs.Origins.{IsOrigin}
use Rattle.ph_facts.proofs.FollowLemmas.{MayStand}
use Rattle.ph_facts.proofs.OriginLemmas.{has_begun_still}
use Rattle.ph_facts.proofs.UnderwayLemmas.{IsUnderway, underway_first}
use Rattle.ph_charges.specs.NewRows.{NewRow, with_new_rows}

-- ---- how they stand

-- a new row stands at a place and a time
abbrev pub row_here : ℕ → ℕ → NewRow → Row
row_here place at row = record { place = place; object = place; at = at; account = row.account; item = row.item }

-- they stand at a time from a place on, each the first version of its object
abbrev pub rows_from : ℕ → ℕ → List NewRow → List Row
rows_from place at [] = []
rows_from place at (row ∷ more) = row_here place at row ∷ rows_from (place + 1) at more

-- a row more
pub place_after : (batch : BatchState) (object account : ℕ) (content : Item)
    → last_place (with_row batch object account content) ≡ last_place batch + 1
place_after batch object account content =
    let longer : length (batch.rows ++ next_row batch object account content ∷ []) ≡ length batch.rows + 1 =
    length-append batch.rows (next_row batch object account content ∷ []) in
    omega arith

-- the rows of a batch with them
pub new_rows_are : (more : List NewRow) (batch : BatchState)
    → (with_new_rows more batch).rows ≡ batch.rows ++ rows_from (last_place batch + 1) batch.at more
new_rows_are [] batch = sym (append-nil batch.rows)
new_rows_are (row ∷ more) batch =
    let n = last_place batch + 1 in
    let new = next_row batch n row.account row.item in
    new_rows_are more (with_row batch n row.account row.item)
    ∙ ap (λ (p : ℕ). (batch.rows ++ new ∷ []) ++ rows_from (p + 1) batch.at more) (place_after batch n row.account row.item)
    ∙ append_assoc batch.rows (new ∷ []) (rows_from (n + 1) batch.at more)

-- they announce nothing
pub new_rows_silent : (more : List NewRow) (batch : BatchState) → (with_new_rows more batch).announced ≡ batch.announced
new_rows_silent [] batch = refl
new_rows_silent (row ∷ more) batch = new_rows_silent more (with_row batch (last_place batch + 1) row.account row.item)

-- they are as many
pub rows_as_many : (place at : ℕ) (more : List NewRow) → length (rows_from place at more) ≡ length more
rows_as_many place at [] = refl
rows_as_many place at (row ∷ more) = ap (λ n. suc n) (rows_as_many (place + 1) at more)

-- ---- they may stand, one after another

-- an object of a kind has begun among rows
abbrev pub Begun : List Row → Kind → ℕ → Type 0
Begun rows kind number = IsOrigin (row_at number rows) (record { kind = kind; number = number })

-- the batch with a row more, the first version of a new object
abbrev pub after : BatchState → NewRow → BatchState
after batch row = with_row batch (last_place batch + 1) row.account row.item

-- an object has begun with a row more
pub still_begun : (rows : List Row) (batch : BatchState) (row : NewRow) (kind : Kind) (number : ℕ)
    → Begun (rows ++ batch.rows) kind number → Begun (rows ++ (after batch row).rows) kind number
still_begun rows batch row kind number begun =
    let new = next_row batch (last_place batch + 1) row.account row.item in
    subst (λ (all : List Row). Begun all kind number) (append_assoc rows batch.rows (new ∷ []))
    (has_begun_still (rows ++ batch.rows) (new ∷ []) (record { kind = kind; number = number }) begun)

-- and the object of that row has, where it has this number
pub last_begun : (rows : List Row) (batch : BatchState) (row : NewRow) (number : ℕ) → batch.began ≡ length rows
    → last_place batch + 1 ≡ number → Begun (rows ++ (after batch row).rows) (kind_of row.item) number
last_begun rows batch row number began is =
    let new = next_row batch (last_place batch + 1) row.account row.item in
    let count : length (rows ++ batch.rows) ≡ length rows + length batch.rows = length-append rows batch.rows in
    let place : number ≡ length (rows ++ batch.rows) + 1 = omega arith in
    subst (λ (all : List Row). Begun all (kind_of row.item) number) (append_assoc rows batch.rows (new ∷ []))
    (subst (λ (found : Option Row). IsOrigin found (record { kind = kind_of row.item; number = number }))
    (sym (ap (λ (p : ℕ). row_at p ((rows ++ batch.rows) ++ new ∷ [])) place ∙ row_at-next (rows ++ batch.rows) new))
    (record { object = is; kind = refl }))

-- the number behind a row
pub next_number : (batch : BatchState) (row : NewRow) (number : ℕ) → last_place batch + 1 ≡ number
    → last_place (after batch row) + 1 ≡ number + 1
next_number batch row number is =
    let longer = place_after batch (last_place batch + 1) row.account row.item in omega arith

-- a transaction may stand where its source has begun
pub txn_stands : (rows : List Row) (txn : Txn) → Begun rows (source_kind txn.source) (source_number txn.source) → MayStand rows (item.Txn txn)
txn_stands rows txn begun = record { texts = refl; within = tt; origins = (begun, tt); silent = λ event is. absurd (cc) }

-- new rows may stand behind a batch
abbrev pub AllStand : ViewState → BatchState → List NewRow → Type 0
AllStand state batch [] = Unit {0}
AllStand state batch (row ∷ more) = MayStand (state.rows ++ batch.rows) row.item × AllStand state (after batch row) more

-- a batch stays under way with rows that may stand
pub new_rows_underway : (state : ViewState) (batch : BatchState) (more : List NewRow) → IsInOrder state → IsUnderway state batch
    → length state.rows + length batch.rows + length more < 10 ^ 16 → AllStand state batch more
    → IsUnderway state (with_new_rows more batch)
new_rows_underway state batch [] order underway few stand = underway
new_rows_underway state batch (row ∷ more) order underway few stand =
    let new = next_row batch (last_place batch + 1) row.account row.item in
    let longer : length (batch.rows ++ new ∷ []) ≡ length batch.rows + 1 = length-append batch.rows (new ∷ []) in
    let count : length (row ∷ more) ≡ length more + 1 = omega arith in
    new_rows_underway state (after batch row) more order
    (underway_first state batch row.account row.item order underway (omega arith) stand.0) (omega arith) stand.1
