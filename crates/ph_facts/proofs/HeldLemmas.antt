-- Payment intents that wait for their capture, as rows are added.
use Rattle.std.specs.Prelude.{slice_get, option_and_then}
use Rattle.std.proofs.Common.{◌≡◌, ℕ, zero, suc, ◌<◌, inl, inr, Bool, true, false, eqb, List, [], ◌∷◌, ◌++◌, Option, None, Some, length, sym, refl, ap, ◌∙◌, subst}
use Rattle.std.specs.List.{list_any}
use Rattle.std.proofs.lemmas.Bool.{eqb-false, eqb-true, ne_eqb}
use Rattle.ph_base.specs.declared.ids.Kind.TheVariants as kind
use Rattle.ph_items.specs.declared.charges.Charge.{Charge}
use Rattle.ph_items.specs.declared.charges.ChargeSort.TheVariants as charge_sort
use Rattle.ph_items.specs.declared.intents.Intent.{Intent}
use Rattle.ph_items.specs.declared.intents.IntentStatus.TheVariants as status
use Rattle.ph_items.specs.declared.items.Item.{Item}
use Rattle.ph_items.specs.declared.items.Item.TheVariants as item
use Rattle.ph_items.specs.Charges.{charge_kind}
use Rattle.ph_items.specs.Items.{charge_in}
use Rattle.ph_items.specs.Kinds.{kind_of}
use Rattle.ph_rows.specs.declared.rows.Row.{Row}
use Rattle.ph_rows.specs.Rows.{latest_of}
use Rattle.ph_rows.specs.Views.{ViewState}
use Rattle.ph_rows.proofs.RowLemmas.{both_fail, found_among, is_version, latest_from, latest_of-apart, row_at-before}
use Rattle.ph_facts.specs.Held.{AreHeld, IsHeldBy, IsHeldAt, charge_of}
use Rattle.ph_facts.specs.Order.{IsInOrder}
use Rattle.ph_facts.proofs.OrderLemmas.{latest_of-later, latest_of_order, stands_behind, versions_alike}

-- a payment intent doesn't wait for its capture with the charge of a number as its latest one
abbrev pub IsApart : List Row → ℕ → ℕ → Type 0
IsApart rows object number = (row : Row) (intent : Intent) → latest_of object rows ≡ Some row → row.item ≡ item.Intent intent
    → intent.status ≡ status.RequiresCapture → intent.latest_charge ≡ Some number → ⊥

-- no payment intent does
abbrev pub IsLoose : List Row → ℕ → Type 0
IsLoose rows number = (object : ℕ) → IsApart rows object number

-- the present version of a charge holds a payment intent that waits with it as its latest one
held_by : (rows : List Row) (object number : ℕ) (row : Row) (intent : Intent) (o : Option Charge) → IsHeldAt object rows
    → latest_of object rows ≡ Some row → row.item ≡ item.Intent intent → intent.status ≡ status.RequiresCapture
    → intent.latest_charge ≡ Some number → charge_of rows number ≡ o → IsHeldBy object intent o
held_by rows object number row intent o held e is waits mine found =
    subst (IsHeldBy object intent) (ap (option_and_then (charge_of rows)) mine ∙ found) (held row intent e is waits)

-- a charge of another payment intent holds nothing of one
pub another_is_apart : (rows : List Row) (object number : ℕ) (charge : Charge) → IsHeldAt object rows
    → charge_of rows number ≡ Some charge → (charge.sort ≡ charge_sort.Card object → ⊥) → IsApart rows object number
another_is_apart rows object number charge held found other row intent e is waits mine =
    let by : IsHeldBy object intent (Some charge) = held_by rows object number row intent (Some charge) held e is waits mine found in
    other by.sort

-- a charge that was captured holds nothing
pub captured_is_loose : (rows : List Row) (number : ℕ) (charge : Charge) → AreHeld rows → charge_of rows number ≡ Some charge
    → (charge.amount_captured ≡ 0 → ⊥) → IsLoose rows number
captured_is_loose rows number charge held found captured object row intent e is waits mine =
    let by : IsHeldBy object intent (Some charge) = held_by rows object number row intent (Some charge) (held object) e is waits mine found in
    captured by.nothing

-- nor does a charge that isn't there
pub absent_is_loose : (rows : List Row) (number : ℕ) → AreHeld rows → charge_of rows number ≡ None → IsLoose rows number
absent_is_loose rows number held none object row intent e is waits mine =
    held_by rows object number row intent None (held object) e is waits mine none

-- nor one that is made after the rows
pub later_is_loose : (state : ViewState) (number : ℕ) → IsInOrder state → AreHeld state.rows → length state.rows < number
    → IsLoose state.rows number
later_is_loose state number order held later =
    absent_is_loose state.rows number held
    (ap (option_and_then (λ (r : Row). charge_in r.item)) (latest_of-later state number order later))

-- a version of an object leaves what is held for a payment intent: it is no version of that, nor of a charge that holds it
abbrev pub Leaves : List Row → ℕ → ℕ → Item → Type 0
Leaves rows object version (item.Account account) = Unit {0}
Leaves rows object version (item.Intent intent) = version ≡ object → ⊥
Leaves rows object version (item.Attempt attempt) = Unit {0}
Leaves rows object version (item.Charge charge) = IsApart rows object version
Leaves rows object version (item.Refund refund) = Unit {0}
Leaves rows object version (item.Dispute dispute) = Unit {0}
Leaves rows object version (item.Transfer transfer) = Unit {0}
Leaves rows object version (item.Reversal reversal) = Unit {0}
Leaves rows object version (item.Fee fee) = Unit {0}
Leaves rows object version (item.FeeRefund fee_refund) = Unit {0}
Leaves rows object version (item.Txn txn) = Unit {0}
Leaves rows object version (item.Event event) = Unit {0}

-- so do all of some rows
abbrev pub AllLeave : List Row → ℕ → List Row → Type 0
AllLeave rows object [] = Unit {0}
AllLeave rows object (row ∷ more) = Leaves rows object row.object row.item × AllLeave rows object more

-- each of them does
leaves_at : (rows : List Row) (object : ℕ) (more : List Row) (i : ℕ) (row : Row) → AllLeave rows object more
    → slice_get more i ≡ Some row → Leaves rows object row.object row.item
leaves_at rows object [] i row leave e = absurd (cc)
leaves_at rows object (x ∷ more) zero row leave e =
    let same : x ≡ row = cc in subst (λ (r : Row). Leaves rows object r.object r.item) same leave.0
leaves_at rows object (x ∷ more) (suc i) row leave e = leaves_at rows object more i row leave.1 e

-- a version of a charge among them is of one that doesn't hold the payment intent
charge_is_apart : (rows : List Row) (object version : ℕ) (content : Item) → kind_of content ≡ kind.Charge
    → Leaves rows object version content → IsApart rows object version
charge_is_apart rows object version (item.Charge charge) k h = h
charge_is_apart rows object version other k h = absurd (cc)

-- the item of which there is a charge is one
kind_of_charge : (content : Item) (charge : Charge) → charge_in content ≡ Some charge → kind_of content ≡ charge_kind charge.sort
kind_of_charge (item.Charge version) charge e = (let same : version ≡ charge = cc in ap (λ (c : Charge). charge_kind c.sort) same)
kind_of_charge other charge e = absurd (cc)

-- rows of which none passes a test
none_passes : (test : Row → Bool) (more : List Row) → ((i : ℕ) (row : Row) → slice_get more i ≡ Some row → test row ≡ false)
    → list_any test more ≡ false
none_passes test [] none = refl
none_passes test (row ∷ more) none =
    both_fail (test row) (list_any test more) (none 0 row refl) (none_passes test more (λ i r e. none (suc i) r e))

-- a payment intent stays held with rows that leave what is held for it
pub held_kept : (state : ViewState) (more : List Row) (object : ℕ) → IsInOrder state
    → IsInOrder (record state { rows = state.rows ++ more }) → AllLeave state.rows object more → IsHeldAt object state.rows
    → IsHeldAt object (state.rows ++ more)
held_kept state more object before order leave held row intent e is waits =
    elim (found_among object (latest_of object state.rows) more row (sym (latest_from object None state.rows more) ∙ e)) [
      | inl old ↦ at intent.latest_charge refl old (held row intent old is waits)
      | inr new ↦ absurd (subst (Leaves state.rows object row.object) is (leaves_at state.rows object more new.0 row leave new.1) new.2)
    ]
  where
    whole : ViewState
    whole = record state { rows = state.rows ++ more }

    apart : (number : ℕ) (last : Row) (charge : Charge) → latest_of object state.rows ≡ Some row → intent.latest_charge ≡ Some number
        → latest_of number state.rows ≡ Some last → charge_in last.item ≡ Some charge → charge.sort ≡ charge_sort.Card object
        → list_any (is_version number) more ≡ false
    apart number last charge old mine latest found card = none_passes (is_version number) more (λ i new there.
        ne_eqb new.object number (λ same.
        let stood = latest_of_order state number last before latest in
        let still = row_at-before last.place state.rows more last stood.0 in
        let stands = stands_behind state more i new order there in
        let alike = versions_alike whole new.place last.place new last order stands still (same ∙ sym stood.1) in
        let free = charge_is_apart state.rows object new.object new.item (alike ∙ kind_of_charge last.item charge found ∙ ap charge_kind card) (leaves_at state.rows object more i new leave there) in
        free row intent old is waits (mine ∙ ap Some (sym same))))

    stays : (number : ℕ) (last : Option Row) → latest_of object state.rows ≡ Some row → intent.latest_charge ≡ Some number
        → latest_of number state.rows ≡ last → (o : Option Charge) → option_and_then (λ (r : Row). charge_in r.item) last ≡ o
        → IsHeldBy object intent o → IsHeldBy object intent (charge_of (state.rows ++ more) number)
    stays number last old mine latest None found h = absurd h
    stays number None old mine latest (Some charge) found h = absurd (cc)
    stays number (Some last) old mine latest (Some charge) found h =
        let same = latest_of-apart number state.rows more (apart number last charge old mine latest found h.sort) in
        subst (IsHeldBy object intent) (sym (ap (option_and_then (λ (r : Row). charge_in r.item)) (same ∙ latest) ∙ found)) h

    at : (o : Option ℕ) → intent.latest_charge ≡ o → latest_of object state.rows ≡ Some row
        → IsHeldBy object intent (option_and_then (charge_of state.rows) o)
        → IsHeldBy object intent (option_and_then (charge_of (state.rows ++ more)) o)
    at None mine old h = absurd h
    at (Some number) mine old h = stays number (latest_of number state.rows) old mine refl (charge_of state.rows number) refl h

-- a version of an object leaves what is held: it is no version of a payment intent, nor of a charge that holds one
abbrev pub IsBeside : List Row → ℕ → Item → Type 0
IsBeside rows object (item.Account account) = Unit {0}
IsBeside rows object (item.Intent intent) = ⊥
IsBeside rows object (item.Attempt attempt) = Unit {0}
IsBeside rows object (item.Charge charge) = IsLoose rows object
IsBeside rows object (item.Refund refund) = Unit {0}
IsBeside rows object (item.Dispute dispute) = Unit {0}
IsBeside rows object (item.Transfer transfer) = Unit {0}
IsBeside rows object (item.Reversal reversal) = Unit {0}
IsBeside rows object (item.Fee fee) = Unit {0}
IsBeside rows object (item.FeeRefund fee_refund) = Unit {0}
IsBeside rows object (item.Txn txn) = Unit {0}
IsBeside rows object (item.Event event) = Unit {0}

-- so do all of some rows
abbrev pub AllBeside : List Row → List Row → Type 0
AllBeside rows [] = Unit {0}
AllBeside rows (row ∷ more) = IsBeside rows row.object row.item × AllBeside rows more

-- what leaves all that is held leaves what is held for one payment intent
beside_leaves : (rows : List Row) (object version : ℕ) (content : Item) → IsBeside rows version content
    → Leaves rows object version content
beside_leaves rows object version (item.Intent intent) h = absurd h
beside_leaves rows object version (item.Charge charge) h = h object
beside_leaves rows object version other h = tt

all_leave : (rows : List Row) (object : ℕ) (more : List Row) → AllBeside rows more → AllLeave rows object more
all_leave rows object [] beside = tt
all_leave rows object (row ∷ more) beside =
    (beside_leaves rows object row.object row.item beside.0, all_leave rows object more beside.1)

-- payment intents that wait for their capture stay held with rows that leave what is held
pub held_beside : (state : ViewState) (more : List Row) → IsInOrder state → IsInOrder (record state { rows = state.rows ++ more })
    → AllBeside state.rows more → AreHeld state.rows → AreHeld (state.rows ++ more)
held_beside state more before order beside held object =
    held_kept state more object before order (all_leave state.rows object more beside) (held object)

-- the present version of a payment intent is known, and held where it waits
pub held_known : (object : ℕ) (rows : List Row) (row : Row) (intent : Intent) → latest_of object rows ≡ Some row
    → row.item ≡ item.Intent intent
    → (intent.status ≡ status.RequiresCapture → IsHeldBy object intent (option_and_then (charge_of rows) intent.latest_charge))
    → IsHeldAt object rows
held_known object rows row intent latest is holds other second e second_is waits =
    subst (λ (v : Intent). IsHeldBy object v (option_and_then (charge_of rows) v.latest_charge)) version
    (holds (ap (λ (v : Intent). v.status) version ∙ waits))
  where
    version : intent ≡ second
    version =
        let row_is : row ≡ other = (let both : Some row ≡ Some other = sym latest ∙ e in cc) in
        let both : item.Intent intent ≡ item.Intent second = sym is ∙ ap (λ (r : Row). r.item) row_is ∙ second_is in cc

-- payment intents stay held where one is, and the rows leave what is held for any other
pub held_of_others : (state : ViewState) (more : List Row) (object : ℕ) → IsInOrder state
    → IsInOrder (record state { rows = state.rows ++ more }) → AreHeld state.rows → IsHeldAt object (state.rows ++ more)
    → ((other : ℕ) → (other ≡ object → ⊥) → AllLeave state.rows other more) → AreHeld (state.rows ++ more)
held_of_others state more object before order held mine leave other = at (eqb other object) refl
  where
    at : (b : Bool) → eqb other object ≡ b → IsHeldAt other (state.rows ++ more)
    at true e = subst (λ (k : ℕ). IsHeldAt k (state.rows ++ more)) (sym (eqb-true other object e)) mine
    at false e = held_kept state more other before order (leave other (eqb-false other object e)) (held other)
