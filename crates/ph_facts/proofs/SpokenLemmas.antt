-- Rows that speak of amounts: each object with whose amount they have to do says it with them.
use Rattle.std.specs.Prelude.{is_some, ◌||◌, ◌&&◌}
use Rattle.std.proofs.Common.{◌≡◌, ℕ, Bool, true, false, cond, eqb, List, [], ◌∷◌, ◌++◌, Option, None, Some, refl, sym, ap, ◌∙◌, subst}
use Rattle.std.specs.List.{filter, fold, list_any}
use Rattle.std.proofs.lemmas.Bool.{cond-false, cond-true, eq-eqb, eqb-false, eqb-true, false≢true, ne_eqb}
use Rattle.std.proofs.lemmas.List.{append_assoc}
use Rattle.ph_rows.specs.declared.rows.Row.{Row}
use Rattle.ph_rows.specs.Rows.{later_version, latest_of}
use Rattle.ph_rows.proofs.RowLemmas.{both_fail, first_fails, latest_from, latest_of-behind, latest_of-last, neither_part, second_fails}
use Rattle.ph_facts.specs.Tallies.{SaysSum, SaySums, Tally, given, sum_for}
use Rattle.ph_facts.proofs.TallyLemmas.{IsSum, gives_nothing, goes_to, says_none, speaks, sum_append, sum_known, sum_stays, touch_none, touches, touches_not}

-- rows behind others speak of a tally: each object with whose amount they have to do says it with them
abbrev pub Spoken : {A : Type 0} → Tally A → List Row → List Row → Type 0
Spoken tally rows more = (object : ℕ) → list_any (touches tally object) more ≡ true → SaysSum tally object (rows ++ more)

-- with such rows all objects say their amounts still
pub sums_spoken : {A : Type 0} (tally : Tally A) (rows more : List Row) → IsSum A tally → Spoken tally rows more → SaySums tally rows
    → SaySums tally (rows ++ more)
sums_spoken tally rows more sum spoken says object = at (list_any (touches tally object) more) refl
  where
    at : (b : Bool) → list_any (touches tally object) more ≡ b → SaysSum tally object (rows ++ more)
    at true e = spoken object e
    at false e = sum_stays tally object rows more sum e (says object)

-- rows that have to do with no amounts
pub spoken_none : {A : Type 0} (tally : Tally A) (rows more : List Row) → list_any (speaks tally) more ≡ false → Spoken tally rows more
spoken_none tally rows more none object touched = absurd (false≢true (sym (touch_none tally object more none) ∙ touched))

-- rows that have to do with one object alone, which says its amount
pub spoken_one : {A : Type 0} (tally : Tally A) (rows more : List Row) (object : ℕ)
    → ((other : ℕ) → (other ≡ object → ⊥) → list_any (touches tally other) more ≡ false) → SaysSum tally object (rows ++ more)
    → Spoken tally rows more
spoken_one tally rows more object apart says other touched = at (eqb other object) refl
  where
    at : (b : Bool) → eqb other object ≡ b → SaysSum tally other (rows ++ more)
    at true e = subst (λ (k : ℕ). SaysSum tally k (rows ++ more)) (sym (eqb-true other object e)) says
    at false e = absurd (false≢true (sym (apart other (eqb-false other object e)) ∙ touched))

-- rows, and others behind them
pub spoken_both : {A : Type 0} (tally : Tally A) (rows first second : List Row) → IsSum A tally → Spoken tally rows first
    → Spoken tally (rows ++ first) second → Spoken tally rows (first ++ second)
spoken_both tally rows first second sum one two object touched =
    subst (SaysSum tally object) (append_assoc rows first second) (at (list_any (touches tally object) second) refl)
  where
    in_front : (b : Bool) → list_any (touches tally object) first ≡ b → list_any (touches tally object) second ≡ false
        → list_any (touches tally object) first ≡ true
    in_front true e none = e
    in_front false e none = absurd (false≢true (sym (neither_part (touches tally object) first second e none) ∙ touched))

    at : (b : Bool) → list_any (touches tally object) second ≡ b → SaysSum tally object ((rows ++ first) ++ second)
    at true e = two object e
    at false e =
        sum_stays tally object (rows ++ first) second sum e (one object (in_front (list_any (touches tally object) first) refl e))

-- ---- of rows only those count that have to do with amounts

-- a version that was found is another, where it says an amount
abbrev Hears : {A : Type 0} → Tally A → Option Row → Option Row → Type 0
Hears {A} tally one other = (row : Row) (amount : A) → one ≡ Some row → tally.said row.item ≡ Some amount → other ≡ Some row

-- the last version among rows is the last among those that have to do with amounts, where it says one
latest_among : {A : Type 0} (tally : Tally A) (object : ℕ) (one other : Option Row) (more : List Row) → Hears tally one other
    → Hears tally (fold (later_version object) one more) (fold (later_version object) other (filter (speaks tally) more))
latest_among tally object one other [] hears = hears
latest_among tally object one other (row ∷ more) hears =
    at (speaks tally row) refl
    (latest_among tally object (later_version object one row) (later_version object other row) more (both (eqb row.object object)))
    (λ quiet. latest_among tally object (later_version object one row) other more (past (eqb row.object object) quiet))
  where
    both : (b : Bool) → Hears tally (cond b (Some row) one) (cond b (Some row) other)
    both true = λ version amount is said. is
    both false = hears

    past : (b : Bool) → is_some (tally.said row.item) ≡ false → Hears tally (cond b (Some row) one) other
    past true e = λ version amount is said.
        absurd (says_none (tally.said row.item) amount e
        (let same : row ≡ version = cc in ap (λ (r : Row). tally.said r.item) same ∙ said))
    past false e = hears

    at : (b : Bool) → speaks tally row ≡ b
        → Hears tally (fold (later_version object) (later_version object one row) more)
        (fold (later_version object) (later_version object other row) (filter (speaks tally) more))
        → (is_some (tally.said row.item) ≡ false → Hears tally (fold (later_version object) (later_version object one row) more)
        (fold (later_version object) other (filter (speaks tally) more)))
        → Hears tally (fold (later_version object) (later_version object one row) more)
        (fold (later_version object) other (cond b (row ∷ filter (speaks tally) more) (filter (speaks tally) more)))
    at true e taken left = taken
    at false e taken left = left (second_fails (is_some (tally.adds row)) (is_some (tally.said row.item)) e)

-- rows have to do with an object where those of them have that have to do with amounts
touched_among : {A : Type 0} (tally : Tally A) (object : ℕ) (more : List Row)
    → list_any (touches tally object) more ≡ list_any (touches tally object) (filter (speaks tally) more)
touched_among tally object [] = refl
touched_among tally object (row ∷ more) = at (speaks tally row) refl (touched_among tally object more)
  where
    at : (b : Bool) → speaks tally row ≡ b
        → list_any (touches tally object) more ≡ list_any (touches tally object) (filter (speaks tally) more)
        → (touches tally object row || list_any (touches tally object) more)
        ≡ list_any (touches tally object) (cond b (row ∷ filter (speaks tally) more) (filter (speaks tally) more))
    at true e same = ap (λ (b : Bool). touches tally object row || b) same
    at false e same = ap (λ (b : Bool). b || list_any (touches tally object) more) (touches_not tally object row e) ∙ same

-- they add up to what those add up to
sum_among : {A : Type 0} (tally : Tally A) (object : ℕ) (more : List Row) → IsSum A tally
    → sum_for tally object (filter (speaks tally) more) ≡ sum_for tally object more
sum_among {A} tally object [] sum = refl
sum_among {A} tally object (row ∷ more) sum = at (speaks tally row) refl (sum_among tally object more sum)
  where
    at : (b : Bool) → speaks tally row ≡ b → sum_for tally object (filter (speaks tally) more) ≡ sum_for tally object more
        → sum_for tally object (cond b (row ∷ filter (speaks tally) more) (filter (speaks tally) more))
        ≡ tally.plus (given tally.nothing object (tally.adds row)) (sum_for tally object more)
    at true e same = ap (tally.plus (given tally.nothing object (tally.adds row))) same
    at false e same =
        same ∙ sym (sum.front (sum_for tally object more))
        ∙ ap (λ (a : A). tally.plus a (sum_for tally object more)) (sym (gives_nothing tally object row e))

-- so rows speak where those of them do that have to do with amounts
pub spoken_among : {A : Type 0} (tally : Tally A) (rows more : List Row) → IsSum A tally → Spoken tally rows (filter (speaks tally) more)
    → Spoken tally rows more
spoken_among tally rows more sum spoken object touched row amount latest said =
    let heard = filter (speaks tally) more in
    let here : latest_of object (rows ++ heard) ≡ Some row =
    latest_from object None rows heard
    ∙ latest_among tally object (latest_of object rows) (latest_of object rows) more (λ version a is s. is) row amount
    (sym (latest_from object None rows more) ∙ latest) said in
    spoken object (sym (touched_among tally object more) ∙ touched) row amount here said
    ∙ sum_append tally object rows heard sum
    ∙ ap (tally.plus (sum_for tally object rows)) (sum_among tally object more sum)
    ∙ sym (sum_append tally object rows more sum)

-- those of some rows, where the first has to do with amounts, where it hasn't, and where none has
pub heard_with : {A : Type 0} (tally : Tally A) (row : Row) (more : List Row) → speaks tally row ≡ true
    → filter (speaks tally) (row ∷ more) ≡ row ∷ filter (speaks tally) more
heard_with tally row more speaking =
    cond-true (speaks tally row) (row ∷ filter (speaks tally) more) (filter (speaks tally) more) speaking

pub heard_without : {A : Type 0} (tally : Tally A) (row : Row) (more : List Row) → speaks tally row ≡ false
    → filter (speaks tally) (row ∷ more) ≡ filter (speaks tally) more
heard_without tally row more quiet =
    cond-false (speaks tally row) (row ∷ filter (speaks tally) more) (filter (speaks tally) more) quiet

pub heard_none : {A : Type 0} (tally : Tally A) (more : List Row) → list_any (speaks tally) more ≡ false → filter (speaks tally) more ≡ []
heard_none tally [] none = refl
heard_none tally (row ∷ more) none =
    heard_without tally row more (first_fails (speaks tally row) (list_any (speaks tally) more) none)
    ∙ heard_none tally more (second_fails (speaks tally row) (list_any (speaks tally) more) none)

-- ---- a version of an object, and what is added to it

-- a row that adds to one object has nothing to do with others
adding_apart : {A : Type 0} (tally : Tally A) (row : Row) (object other : ℕ) (amount : A)
    → tally.adds row ≡ Some (record { object = object; amount = amount }) → tally.said row.item ≡ None → (other ≡ object → ⊥)
    → touches tally other row ≡ false
adding_apart tally row object other amount adds silent differs =
    both_fail (goes_to other (tally.adds row)) (is_some (tally.said row.item) && eqb row.object other)
    (ap (goes_to other) adds ∙ ne_eqb object other (λ same. differs (sym same)))
    (ap (λ said. is_some said && eqb row.object other) silent)

-- nor has a version of another
version_apart : {A : Type 0} (tally : Tally A) (row : Row) (other : ℕ) (amount : A) → tally.adds row ≡ None
    → tally.said row.item ≡ Some amount → (other ≡ row.object → ⊥) → touches tally other row ≡ false
version_apart tally row other amount adds said differs =
    both_fail (goes_to other (tally.adds row)) (is_some (tally.said row.item) && eqb row.object other)
    (ap (goes_to other) adds)
    (ap (λ s. is_some s && eqb row.object other) said ∙ ne_eqb row.object other (λ same. differs (sym same)))

-- a version that says what the rows before it add up to
pub spoken_version : {A : Type 0} (tally : Tally A) (rows : List Row) (version : Row) (amount : A) → IsSum A tally
    → tally.adds version ≡ None → tally.said version.item ≡ Some amount → amount ≡ sum_for tally version.object rows
    → Spoken tally rows (version ∷ [])
spoken_version tally rows version amount sum adds said right =
    spoken_one tally rows (version ∷ []) version.object
    (λ other differs. both_fail (touches tally other version) false (version_apart tally version other amount adds said differs) refl)
    (sum_known tally version.object rows (version ∷ []) version amount sum (latest_of-last rows version) said
    (right ∙ sym (sum.back (sum_for tally version.object rows))
    ∙ ap (tally.plus (sum_for tally version.object rows))
    (sym (sum.front tally.nothing)
    ∙ ap (λ first. tally.plus first tally.nothing) (sym (ap (given tally.nothing version.object) adds)))))

-- what a row adds to an object
adding_gives : {A : Type 0} (tally : Tally A) (row : Row) (object : ℕ) (amount : A)
    → tally.adds row ≡ Some (record { object = object; amount = amount }) → given tally.nothing object (tally.adds row) ≡ amount
adding_gives tally row object amount adds =
    ap (given tally.nothing object) adds ∙ cond-true (eqb object object) amount tally.nothing (eq-eqb object object refl)

-- a row that adds an amount to an object, and behind it a version that says what the rows before add up to with it
pub spoken_added : {A : Type 0} (tally : Tally A) (rows : List Row) (adding version : Row) (amount said : A) → IsSum A tally
    → tally.adds adding ≡ Some (record { object = version.object; amount = amount }) → tally.said adding.item ≡ None
    → tally.adds version ≡ None → tally.said version.item ≡ Some said
    → said ≡ tally.plus (sum_for tally version.object rows) amount → Spoken tally rows (adding ∷ version ∷ [])
spoken_added {A} tally rows adding version amount said sum adds silent none says right =
    spoken_one tally rows (adding ∷ version ∷ []) version.object
    (λ other differs. both_fail (touches tally other adding) (touches tally other version || false)
    (adding_apart tally adding version.object other amount adds silent differs)
    (both_fail (touches tally other version) false (version_apart tally version other said none says differs) refl))
    (sum_known tally version.object rows (adding ∷ version ∷ []) version said sum (latest_of-behind rows (adding ∷ []) version) says
    (right ∙ ap (tally.plus (sum_for tally version.object rows)) (sym gives)))
  where
    gives : sum_for tally version.object (adding ∷ version ∷ []) ≡ amount
    gives =
        ap (λ (a : A). tally.plus a (tally.plus (given tally.nothing version.object (tally.adds version)) tally.nothing))
        (adding_gives tally adding version.object amount adds)
        ∙ ap (λ part. tally.plus amount (tally.plus (given tally.nothing version.object part) tally.nothing)) none
        ∙ ap (tally.plus amount) (sum.front tally.nothing) ∙ sum.back amount

-- the same where the version stands in front
pub spoken_adding : {A : Type 0} (tally : Tally A) (rows : List Row) (version adding : Row) (amount said : A) → IsSum A tally
    → tally.adds version ≡ None → tally.said version.item ≡ Some said
    → tally.adds adding ≡ Some (record { object = version.object; amount = amount }) → tally.said adding.item ≡ None
    → said ≡ tally.plus (sum_for tally version.object rows) amount → Spoken tally rows (version ∷ adding ∷ [])
spoken_adding {A} tally rows version adding amount said sum none says adds silent right =
    spoken_one tally rows (version ∷ adding ∷ []) version.object
    (λ other differs. both_fail (touches tally other version) (touches tally other adding || false)
    (version_apart tally version other said none says differs)
    (both_fail (touches tally other adding) false (adding_apart tally adding version.object other amount adds silent differs) refl))
    all_say
  where
    gives : sum_for tally version.object (version ∷ adding ∷ []) ≡ amount
    gives =
        ap (λ part. tally.plus (given tally.nothing version.object part) (tally.plus (given tally.nothing version.object (tally.adds adding)) tally.nothing)) none
        ∙ sum.front (tally.plus (given tally.nothing version.object (tally.adds adding)) tally.nothing)
        ∙ ap (λ (a : A). tally.plus a tally.nothing) (adding_gives tally adding version.object amount adds) ∙ sum.back amount

    total : said ≡ sum_for tally version.object (rows ++ version ∷ adding ∷ [])
    total =
        right ∙ ap (tally.plus (sum_for tally version.object rows)) (sym gives)
        ∙ sym (sum_append tally version.object rows (version ∷ adding ∷ []) sum)

    all_say : SaysSum tally version.object (rows ++ version ∷ adding ∷ [])
    all_say row other latest other_said =
        at (eqb adding.object version.object) (sym (latest_from version.object None rows (version ∷ adding ∷ [])) ∙ latest)
      where
        at : (b : Bool)
            → cond b (Some adding) (cond (eqb version.object version.object) (Some version) (latest_of version.object rows)) ≡ Some row
            → other ≡ sum_for tally version.object (rows ++ version ∷ adding ∷ [])
        at true e =
            let same : adding ≡ row = cc in
            let clash : Some other ≡ None = sym other_said ∙ ap (λ (r : Row). tally.said r.item) (sym same) ∙ silent in absurd (cc)
        at false e =
            let found : Some version ≡ Some row =
            sym (cond-true (eqb version.object version.object) (Some version) (latest_of version.object rows)
            (eq-eqb version.object version.object refl)) ∙ e in
            let same : version ≡ row = cc in
            let both : Some other ≡ Some said = sym other_said ∙ ap (λ (r : Row). tally.said r.item) (sym same) ∙ says in
            let equal : other ≡ said = cc in equal ∙ total
