-- Amounts of objects, as rows are added: one more row, rows of other objects, a further version.
use Rattle.std.specs.Prelude.{slice_get, is_some, ◌==◌, ◌&&◌, ◌||◌}
use Rattle.std.proofs.Common.{◌≡◌, ℕ, zero, suc, ◌+◌, ◌-◌, ◌≤◌, ◌<◌, inl, inr, Bool, true, false, List, [], ◌∷◌, ◌++◌, Option, None, Some, length, refl, sym, ap, ◌∙◌, subst, arith}
use Rattle.std.specs.List.{list_any}
use Rattle.std.proofs.lemmas.Bool.{cond-false, eq-eqb, false≢true, ne_eqb}
use Rattle.ph_rows.specs.declared.rows.Row.{Row}
use Rattle.ph_rows.specs.Rows.{latest_of}
use Rattle.ph_rows.specs.Views.{ViewState}
use Rattle.ph_rows.proofs.RowLemmas.{both_fail, first_fails, found_among, is_row_at, latest_from, second_fails}
use Rattle.ph_facts.specs.Order.{IsInOrder}
use Rattle.ph_facts.specs.Origins.{HasOrigins, origins_of}
use Rattle.ph_facts.specs.Tallies.{Addition, SaysSum, Tally, given, sum_for}

-- amounts are added up as sums are: nothing changes nothing, and it doesn't matter where one begins
pub record IsSum (A : Type 0) (tally : Tally A) : Type 0 where
  pub front : (a : A) → tally.plus tally.nothing a ≡ a
  pub back : (a : A) → tally.plus a tally.nothing ≡ a
  pub grouped : (a b c : A) → tally.plus (tally.plus a b) c ≡ tally.plus a (tally.plus b c)

-- the amounts of rows, and of more behind them
pub sum_append : {A : Type 0} (tally : Tally A) (object : ℕ) (rows more : List Row) → IsSum A tally
    → sum_for tally object (rows ++ more) ≡ tally.plus (sum_for tally object rows) (sum_for tally object more)
sum_append tally object [] more sum = sym (sum.front (sum_for tally object more))
sum_append tally object (row ∷ rows) more sum =
    ap (tally.plus (given tally.nothing object (tally.adds row))) (sum_append tally object rows more sum)
    ∙ sym (sum.grouped (given tally.nothing object (tally.adds row)) (sum_for tally object rows) (sum_for tally object more))

-- a part goes to an object
abbrev pub goes_to : {A : Type 0} → ℕ → Option (Addition A) → Bool
goes_to object None = false
goes_to object (Some part) = part.object == object

-- a row has to do with the amount of an object: it adds to it, or is a version of the object that says it
abbrev pub touches : {A : Type 0} → Tally A → ℕ → Row → Bool
touches tally object row = goes_to object (tally.adds row) || (is_some (tally.said row.item) && row.object == object)

-- a part that goes elsewhere gives nothing
given_elsewhere : {A : Type 0} (nothing : A) (object : ℕ) (part : Option (Addition A)) → goes_to object part ≡ false
    → given nothing object part ≡ nothing
given_elsewhere nothing object None e = refl
given_elsewhere nothing object (Some part) e = cond-false (part.object == object) part.amount nothing e

-- rows that have nothing to do with an object add nothing to it
pub sum_apart : {A : Type 0} (tally : Tally A) (object : ℕ) (rows : List Row) → IsSum A tally
    → list_any (touches tally object) rows ≡ false → sum_for tally object rows ≡ tally.nothing
sum_apart tally object [] sum apart = refl
sum_apart tally object (row ∷ rows) sum apart =
    let here = first_fails (touches tally object row) (list_any (touches tally object) rows) apart in
    let there = second_fails (touches tally object row) (list_any (touches tally object) rows) apart in
    ap (λ first. tally.plus first (sum_for tally object rows))
    (given_elsewhere tally.nothing object (tally.adds row)
    (first_fails (goes_to object (tally.adds row)) (is_some (tally.said row.item) && row.object == object) here))
    ∙ sum.front (sum_for tally object rows) ∙ sum_apart tally object rows sum there

-- the amount of an object is the same with rows that have nothing to do with it
pub sum_beside : {A : Type 0} (tally : Tally A) (object : ℕ) (rows more : List Row) → IsSum A tally
    → list_any (touches tally object) more ≡ false → sum_for tally object (rows ++ more) ≡ sum_for tally object rows
sum_beside tally object rows more sum apart =
    sum_append tally object rows more sum
    ∙ ap (tally.plus (sum_for tally object rows)) (sum_apart tally object more sum apart) ∙ sum.back (sum_for tally object rows)

-- of two tests that don't both pass, the first where the second does
first_of_both : (a b : Bool) → (a && b) ≡ false → b ≡ true → a ≡ false
first_of_both true b e is = absurd (false≢true (sym e ∙ is))
first_of_both false b e is = refl

-- what says nothing says no amount
pub says_none : {A : Type 0} (said : Option A) (amount : A) → is_some said ≡ false → said ≡ Some amount → ⊥
says_none None amount e is = absurd (cc)
says_none (Some said) amount e is = false≢true (sym e)

-- none of some rows that have nothing to do with an object is a version of it that says its amount
none_says : {A : Type 0} (tally : Tally A) (object : ℕ) (rows : List Row) (i : ℕ) (row : Row) (amount : A)
    → list_any (touches tally object) rows ≡ false → slice_get rows i ≡ Some row → row.object ≡ object
    → tally.said row.item ≡ Some amount → ⊥
none_says tally object [] i row amount apart e mine said = absurd (cc)
none_says tally object (x ∷ rows) zero row amount apart e mine said =
    let same : x ≡ row = cc in
    let here : touches tally object row ≡ false =
    subst (λ (r : Row). touches tally object r ≡ false) same (first_fails (touches tally object x) (list_any (touches tally object) rows) apart) in
    let version = second_fails (goes_to object (tally.adds row)) (is_some (tally.said row.item) && row.object == object) here in
    says_none (tally.said row.item) amount
    (first_of_both (is_some (tally.said row.item)) (row.object == object) version (eq-eqb row.object object mine)) said
none_says tally object (x ∷ rows) (suc i) row amount apart e mine said =
    none_says tally object rows i row amount (second_fails (touches tally object x) (list_any (touches tally object) rows) apart) e mine said

-- an object says its amount still with rows that have nothing to do with it
pub sum_stays : {A : Type 0} (tally : Tally A) (object : ℕ) (rows more : List Row) → IsSum A tally
    → list_any (touches tally object) more ≡ false → SaysSum tally object rows → SaysSum tally object (rows ++ more)
sum_stays tally object rows more sum apart says row amount e said =
    elim (found_among object (latest_of object rows) more row (sym (latest_from object None rows more) ∙ e)) [
      | inl old ↦ says row amount old said ∙ sym (sum_beside tally object rows more sum apart)
      | inr new ↦ absurd (none_says tally object more new.0 row amount apart new.1 new.2 said)
    ]

-- an object says its amount where its present version does
pub sum_known : {A : Type 0} (tally : Tally A) (object : ℕ) (rows more : List Row) (last : Row) (amount : A) → IsSum A tally
    → latest_of object (rows ++ more) ≡ Some last → tally.said last.item ≡ Some amount
    → amount ≡ tally.plus (sum_for tally object rows) (sum_for tally object more) → SaysSum tally object (rows ++ more)
sum_known tally object rows more last amount sum latest is right row other e said =
    let same : last ≡ row = (let both : Some last ≡ Some row = sym latest ∙ e in cc) in
    let equal : amount ≡ other = (let both : Some amount ≡ Some other = sym is ∙ ap (λ (r : Row). tally.said r.item) same ∙ said in cc) in
    sym equal ∙ right ∙ sym (sum_append tally object rows more sum)

-- a row has to do with amounts: it adds to one, or says one
abbrev pub speaks : {A : Type 0} → Tally A → Row → Bool
speaks tally row = is_some (tally.adds row) || is_some (tally.said row.item)

-- what adds nothing goes to no object
goes_nowhere : {A : Type 0} (object : ℕ) (part : Option (Addition A)) → is_some part ≡ false → goes_to object part ≡ false
goes_nowhere object None e = refl
goes_nowhere object (Some part) e = absurd (false≢true (sym e))

-- a row that has to do with no amounts has nothing to do with any object's
pub touches_not : {A : Type 0} (tally : Tally A) (object : ℕ) (row : Row) → speaks tally row ≡ false → touches tally object row ≡ false
touches_not tally object row quiet =
    both_fail (goes_to object (tally.adds row)) (is_some (tally.said row.item) && row.object == object)
    (goes_nowhere object (tally.adds row) (first_fails (is_some (tally.adds row)) (is_some (tally.said row.item)) quiet))
    (ap (λ (b : Bool). b && row.object == object) (second_fails (is_some (tally.adds row)) (is_some (tally.said row.item)) quiet))

-- it gives nothing to it
pub gives_nothing : {A : Type 0} (tally : Tally A) (object : ℕ) (row : Row) → speaks tally row ≡ false
    → given tally.nothing object (tally.adds row) ≡ tally.nothing
gives_nothing tally object row quiet =
    given_elsewhere tally.nothing object (tally.adds row)
    (goes_nowhere object (tally.adds row) (first_fails (is_some (tally.adds row)) (is_some (tally.said row.item)) quiet))

-- nor have rows that have to do with none
pub touch_none : {A : Type 0} (tally : Tally A) (object : ℕ) (more : List Row) → list_any (speaks tally) more ≡ false
    → list_any (touches tally object) more ≡ false
touch_none tally object [] none = refl
touch_none tally object (row ∷ more) none =
    both_fail (touches tally object row) (list_any (touches tally object) more)
    (touches_not tally object row (first_fails (speaks tally row) (list_any (speaks tally) more) none))
    (touch_none tally object more (second_fails (speaks tally row) (list_any (speaks tally) more) none))

-- what a row adds, it adds to an object that its item names, or to none that is later than the rows where those have begun
abbrev pub AddsToNamed : {A : Type 0} → Tally A → Type 0
AddsToNamed {A} tally = (rows : List Row) (row : Row) (part : Addition A) → tally.adds row ≡ Some part
    → HasOrigins rows (origins_of row.item) → part.object ≤ length rows

-- rows of which none adds anything to an object
sum_of_none : {A : Type 0} (tally : Tally A) (object : ℕ) (rows : List Row) → IsSum A tally
    → ((i : ℕ) (row : Row) → slice_get rows i ≡ Some row → given tally.nothing object (tally.adds row) ≡ tally.nothing)
    → sum_for tally object rows ≡ tally.nothing
sum_of_none tally object [] sum none = refl
sum_of_none tally object (row ∷ rows) sum none =
    ap (λ first. tally.plus first (sum_for tally object rows)) (none 0 row refl)
    ∙ sum.front (sum_for tally object rows) ∙ sum_of_none tally object rows sum (λ i r e. none (suc i) r e)

-- nothing was added yet to an object that is made after the rows
pub sum_later : {A : Type 0} (tally : Tally A) (state : ViewState) (object : ℕ) → IsSum A tally → AddsToNamed tally
    → IsInOrder state → length state.rows < object → sum_for tally object state.rows ≡ tally.nothing
sum_later {A} tally state object sum named order later =
    sum_of_none tally object state.rows sum (λ i row e. given_later (tally.adds row) (λ part is. named state.rows row part is (there i row e)))
  where
    given_later : (part : Option (Addition A)) → ((some : Addition A) → part ≡ Some some → some.object ≤ length state.rows)
        → given tally.nothing object part ≡ tally.nothing
    given_later None within = refl
    given_later (Some part) within =
        let before : part.object ≤ length state.rows = within part refl in
        cond-false (part.object == object) part.amount tally.nothing (ne_eqb part.object object (λ same. omega arith))

    there : (i : ℕ) (row : Row) → slice_get state.rows i ≡ Some row → HasOrigins state.rows (origins_of row.item)
    there i row e =
        let before : i ≡ (i + 1) - 1 = omega arith in
        order.origins (i + 1) row (is_row_at (i + 1) state.rows row (λ z. omega arith) (subst (λ j. slice_get state.rows j ≡ Some row) before e))
