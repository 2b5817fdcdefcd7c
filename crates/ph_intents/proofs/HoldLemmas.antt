-- Charges stay as they are, and hold what they held, with rows of which none is a version of a charge.
use Rattle.std.specs.Prelude.{◌||◌, option_and_then}
use Rattle.std.proofs.Common.{◌≡◌, ℕ, Bool, false, List, [], ◌∷◌, ◌++◌, Option, None, Some, refl, sym, ap, ◌∙◌, subst}
use Rattle.std.specs.List.{list_any}
use Rattle.std.proofs.lemmas.Bool.{ne_eqb}
use Rattle.std.proofs.lemmas.List.{append_assoc}
use Rattle.ph_base.specs.declared.ids.Kind.TheVariants as kind
use Rattle.ph_rows.specs.declared.rows.Row.{Row}
use Rattle.ph_items.specs.declared.charges.Charge.{Charge}
use Rattle.ph_items.specs.declared.items.Item.TheVariants as item
use Rattle.ph_items.specs.declared.intents.Intent.{Intent}
use Rattle.ph_items.specs.Charges.{charge_kind}
use Rattle.ph_items.specs.Items.{charge_in}
use Rattle.ph_items.specs.Kinds.{kind_of}
use Rattle.ph_rows.specs.Rows.{row_at, latest_of}
use Rattle.ph_facts.specs.Order.{AllMayFollow, HasBegun, IsInOrder, with_next}
use Rattle.ph_facts.specs.Held.{IsHeldBy, charge_of}
use Rattle.ph_rows.specs.Views.{ViewState}
use Rattle.ph_rows.proofs.RowLemmas.{is_version, latest_of-apart, row_at-before}
use Rattle.ph_facts.proofs.OrderLemmas.{latest_of_order}
use Rattle.ph_facts.proofs.VersionLemmas.{charge_is}

-- something holds of each row
abbrev pub Each : (Row → Type 0) → List Row → Type 0
Each P [] = Unit {0}
Each P (row ∷ rows) = P row × Each P rows

-- what two facts of each row give
each_both : (P Q R : Row → Type 0) → ((row : Row) → P row → Q row → R row) → (rows : List Row) → Each P rows → Each Q rows → Each R rows
each_both P Q R give [] p q = tt
each_both P Q R give (row ∷ rows) p q = (give row p.0 q.0, each_both P Q R give rows p.1 q.1)

-- rows of which none is of an object
none_version : (object : ℕ) (rows : List Row) → Each (λ row. row.object ≡ object → ⊥) rows → list_any (is_version object) rows ≡ false
none_version object [] none = refl
none_version object (row ∷ rows) none =
    ap (λ (b : Bool). b || list_any (is_version object) rows) (ne_eqb row.object object none.0) ∙ none_version object rows none.1

-- an object that has begun has begun with more rows behind
begun_before : (rows more : List Row) (row : Row) → HasBegun (row_at row.object rows) row → HasBegun (row_at row.object (rows ++ more)) row
begun_before rows more row h = at (row_at row.object rows) refl h
  where
    at : (found : Option Row) → row_at row.object rows ≡ found → HasBegun found row → HasBegun (row_at row.object (rows ++ more)) row
    at None e h = absurd h
    at (Some first) e h = subst (λ (o : Option Row). HasBegun o row) (sym (row_at-before row.object rows more first e)) h

-- each row that may follow has its object's first version among all
pub each_begun : (state : ViewState) (rows : List Row) → AllMayFollow state rows
    → Each (λ row. HasBegun (row_at row.object (state.rows ++ rows)) row) rows
each_begun state [] follow = tt
each_begun state (row ∷ rows) follow =
    subst (λ (all : List Row). HasBegun (row_at row.object all) row × Each (λ other. HasBegun (row_at other.object all) other) rows)
    (append_assoc state.rows (row ∷ []) rows)
    (begun_before (state.rows ++ row ∷ []) rows row follow.0.begun, each_begun (with_next state row) rows follow.1)

-- two versions of one object are of one kind
same_kind : (found : Option Row) (first second : Row) → HasBegun found first → HasBegun found second → kind_of first.item ≡ kind_of second.item
same_kind None first second h k = absurd h
same_kind (Some begins) first second h k = sym h.kind ∙ k.kind

one_kind : (rows : List Row) (first second : Row) → HasBegun (row_at first.object rows) first → HasBegun (row_at second.object rows) second
    → first.object ≡ second.object → kind_of first.item ≡ kind_of second.item
one_kind rows first second h k same =
    same_kind (row_at second.object rows) first second (subst (λ (o : ℕ). HasBegun (row_at o rows) first) same h) k

-- the present version of an object is of the object that its number begins
latest_begun : (state : ViewState) (object : ℕ) (row : Row) → IsInOrder state → latest_of object state.rows ≡ Some row
    → HasBegun (row_at row.object state.rows) row × (row.object ≡ object)
latest_begun state object row order e =
    let found : (row_at row.place state.rows ≡ Some row) × (row.object ≡ object) = latest_of_order state object row order e in
    (order.begun row.place row found.0, found.1)

-- the row of the present version of a charge
pub record HasCharge (rows : List Row) (number : ℕ) (charge : Charge) : Type 0 where
  pub row : Row
  pub latest : latest_of number rows ≡ Some row
  pub is : row.item ≡ item.Charge charge

pub charge_row : (rows : List Row) (number : ℕ) (charge : Charge) → charge_of rows number ≡ Some charge → HasCharge rows number charge
charge_row rows number charge e = at (latest_of number rows) refl e
  where
    at : (found : Option Row) → latest_of number rows ≡ found → option_and_then (λ row. charge_in row.item) found ≡ Some charge
        → HasCharge rows number charge
    at None l e = absurd (cc)
    at (Some row) l e = record { row = row; latest = l; is = charge_is row.item charge e }

-- the present version of a card charge stays with rows of which none is a version of a charge
pub charge_stays : (state : ViewState) (more : List Row) (number : ℕ) (charge : Charge) → IsInOrder state → AllMayFollow state more
    → Each (λ row. kind_of row.item ≡ kind.Charge → ⊥) more → charge_kind charge.sort ≡ kind.Charge
    → charge_of state.rows number ≡ Some charge → charge_of (state.rows ++ more) number ≡ Some charge
charge_stays state more number charge order follow none card found =
    let last = charge_row state.rows number charge found in
    let begun = latest_begun state number last.row order last.latest in
    let still = begun_before state.rows more last.row begun.0 in
    let apart = each_both (λ new. HasBegun (row_at new.object (state.rows ++ more)) new) (λ new. kind_of new.item ≡ kind.Charge → ⊥)
    (λ new. new.object ≡ number → ⊥)
    (λ new h no_charge same. no_charge (one_kind (state.rows ++ more) new last.row h still (same ∙ sym begun.1) ∙ ap kind_of last.is ∙ card))
    more (each_begun state more follow) none in
    ap (option_and_then (λ (r : Row). charge_in r.item)) (latest_of-apart number state.rows more (none_version number more apart)) ∙ found

-- what a payment intent waits to capture stays held by its latest charge with such rows
pub hold_stays : (state : ViewState) (more : List Row) (object : ℕ) (intent : Intent) → IsInOrder state → AllMayFollow state more
    → Each (λ row. kind_of row.item ≡ kind.Charge → ⊥) more
    → IsHeldBy object intent (option_and_then (charge_of state.rows) intent.latest_charge)
    → IsHeldBy object intent (option_and_then (charge_of (state.rows ++ more)) intent.latest_charge)
hold_stays state more object intent order follow none = by intent.latest_charge
  where
    of_charge : (number : ℕ) (found : Option Charge) → charge_of state.rows number ≡ found → IsHeldBy object intent found
        → IsHeldBy object intent (charge_of (state.rows ++ more) number)
    of_charge number None e h = absurd h
    of_charge number (Some charge) e h =
        subst (IsHeldBy object intent) (sym (charge_stays state more number charge order follow none (ap charge_kind h.sort) e)) h

    by : (latest : Option ℕ) → IsHeldBy object intent (option_and_then (charge_of state.rows) latest)
        → IsHeldBy object intent (option_and_then (charge_of (state.rows ++ more)) latest)
    by None h = absurd h
    by (Some number) h = of_charge number (charge_of state.rows number) refl h
