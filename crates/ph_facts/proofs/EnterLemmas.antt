-- Rows stay sound with the batch of an entry: its object rows, then the rows of its events.
use Rattle.std.specs.Prelude.{slice_get}
use Rattle.std.proofs.Common.{◌≡◌, ℕ, zero, suc, ◌+◌, ◌^◌, ◌<◌, inl, inr, Bool, true, false, cond, eqb, List, [], ◌∷◌, ◌++◌, Option, None, Some, length, refl, sym, ap, ◌∙◌, subst, arith}
use Rattle.std.specs.List.{fold, list_all, list_any}
use Rattle.std.specs.Str.{is_utf8}
use Rattle.std.proofs.lemmas.Bool.{eqb-false}
use Rattle.std.proofs.lemmas.List.{length-append, append_assoc}
use Rattle.ph_items.specs.declared.event_kinds.EventKind.{EventKind}
use Rattle.ph_items.specs.Kinds.{kind_of}
use Rattle.ph_items.specs.Weights.{with_text}
use Rattle.ph_items.specs.Words.{subject_of}
use Rattle.ph_rows.specs.declared.rows.Row.{Row}
use Rattle.ph_rows.specs.declared.batches.Announced.{Announced}
use Rattle.ph_rows.specs.Batches.{BatchState, last_place, account_of, event_row, event_rows, made_rows}
use Rattle.ph_rows.specs.Rows.{row_at, later_version, latest_of}
use Rattle.ph_rows.specs.Views.{ViewState}
use Rattle.ph_rows.proofs.RowLemmas.{both_fail, found_among, latest_from, row_at-before, slice_get-before}
use Rattle.ph_facts.specs.Entering.{AreTold, IsToldBy, MayBeEntered}
use Rattle.ph_facts.specs.Order.{AllMayFollow, IsInOrder, MayFollow, with_next}
use Rattle.ph_facts.specs.Sound.{IsSound}
use Rattle.ph_facts.proofs.FollowLemmas.{event_follows}
use Rattle.ph_facts.proofs.HeldLemmas.{AllBeside}
use Rattle.ph_facts.proofs.LawLemmas.{is_of_amounts, laws_beside}
use Rattle.ph_facts.proofs.OrderLemmas.{order_with, order_with_all, stands_behind, versions_alike}

-- the versions of the objects of some rows stand among rows
abbrev Stand : List Row → List Row → Type 0
Stand objects rows = (object : ℕ) (row : Row) → latest_of object objects ≡ Some row
    → (row_at row.place rows ≡ Some row) × (row.object ≡ object)

-- the rows of a batch stand behind those before it
stand_behind : (state : ViewState) (rows : List Row) → IsInOrder (record state { rows = state.rows ++ rows })
    → Stand rows (state.rows ++ rows)
stand_behind state rows order object row e = elim (found_among object None rows row e) [
  | inl none ↦ absurd (cc)
  | inr there ↦ (stands_behind state rows there.0 row order there.1, there.2)
]

-- versions that stand, stand with more rows behind
stand_before : (objects rows more : List Row) → Stand objects rows → Stand objects (rows ++ more)
stand_before objects rows more stand object row e =
    let before = stand object row e in (row_at-before row.place rows more row before.0, before.1)

-- the row of an event that is announced may follow
event_row_follows : (key : Option (List ℕ)) (objects : List Row) (state : ViewState) (told : Announced) → IsInOrder state
    → Stand objects state.rows → IsToldBy (latest_of told.object objects) told.sort
    → list_all is_utf8 (with_text key []) ≡ true → length state.rows + 1 < 10 ^ 16
    → MayFollow state (event_row key state.time objects (length state.rows + 1) told)
event_row_follows key objects state told order stand tells text room = at (latest_of told.object objects) refl tells
  where
    at : (found : Option Row) → latest_of told.object objects ≡ found → IsToldBy found told.sort
        → MayFollow state (event_row key state.time objects (length state.rows + 1) told)
    at None e h = absurd h
    at (Some subject) e h =
        let stands = stand told.object subject e in
        event_follows state subject (event_row key state.time objects (length state.rows + 1) told)
        (record { sort = told.sort; object = told.object; key = key }) order stands.0
        (record { few = room; place = refl; at = refl }) refl text
        (record { is = refl; account = ap account_of e; object = sym stands.1; kind = h })

-- the rows of events that are announced of objects whose versions stand may follow one after another
events_follow : (key : Option (List ℕ)) (objects : List Row) (state : ViewState) (count : ℕ) (announced : List Announced)
    → IsInOrder state → Stand objects state.rows → AreTold objects announced → count ≡ length state.rows
    → list_all is_utf8 (with_text key []) ≡ true
    → count + length (event_rows key state.time objects count announced) < 10 ^ 16
    → AllMayFollow state (event_rows key state.time objects count announced)
events_follow key objects state count [] order stand tells at text room = tt
events_follow key objects state count (told ∷ announced) order stand tells at text room =
    let new = event_row key state.time objects (count + 1) told in
    let few : length state.rows + 1 < 10 ^ 16 = omega arith in
    let follows : MayFollow state new =
    subst (λ (n : ℕ). MayFollow state (event_row key state.time objects (n + 1) told)) (sym at)
    (event_row_follows key objects state told order stand tells.0 text few) in (
      follows,
      events_follow key objects (with_next state new) (count + 1) announced (order_with state new order follows)
          (stand_before objects state.rows (new ∷ []) stand) tells.1
          (ap (λ n. n + 1) at ∙ sym (length-append state.rows (new ∷ []))) text (omega arith),
    )

-- the rows of events pass no test that no row of an event passes
events_pass_none : (test : Row → Bool) (key : Option (List ℕ)) (at : ℕ) (objects : List Row) (count : ℕ)
    (announced : List Announced) → ((place : ℕ) (told : Announced) → test (event_row key at objects place told) ≡ false)
    → list_any test (event_rows key at objects count announced) ≡ false
events_pass_none test key at objects count [] none = refl
events_pass_none test key at objects count (told ∷ announced) none =
    both_fail (test (event_row key at objects (count + 1) told)) (list_any test (event_rows key at objects (count + 1) announced))
    (none (count + 1) told) (events_pass_none test key at objects (count + 1) announced none)

-- the rows of events leave what is held
events_beside : (rows : List Row) (key : Option (List ℕ)) (at : ℕ) (objects : List Row) (count : ℕ)
    (announced : List Announced) → AllBeside rows (event_rows key at objects count announced)
events_beside rows key at objects count [] = tt
events_beside rows key at objects count (told ∷ announced) = (tt, events_beside rows key at objects (count + 1) announced)

-- sound rows stay sound with a batch that may be entered, and the events that it announces under a key
pub entered_sound : (state : ViewState) (key : Option (List ℕ)) (batch : BatchState) → IsSound state → MayBeEntered state batch
    → list_all is_utf8 (with_text key []) ≡ true → length state.rows + length (made_rows key batch) < 10 ^ 16
    → IsSound (record state { rows = state.rows ++ made_rows key batch })
entered_sound state key batch sound enters text room =
    subst (λ (all : List Row). IsSound (record state { rows = all })) (append_assoc state.rows batch.rows news) (record {
      order = order_with_all entered news order follow;
      laws = laws_beside entered news order (order_with_all entered news order follow)
          (events_pass_none is_of_amounts key batch.at batch.rows (last_place batch) batch.announced (λ place told. refl))
          (events_beside (state.rows ++ batch.rows) key batch.at batch.rows (last_place batch) batch.announced) enters.laws;
    })
  where
    news : List Row
    news = event_rows key batch.at batch.rows (last_place batch) batch.announced

    entered : ViewState
    entered = record state { rows = state.rows ++ batch.rows }

    order : IsInOrder entered
    order = order_with_all state batch.rows sound.order enters.follow

    longer : length batch.rows + length news ≡ length (made_rows key batch)
    longer = sym (length-append batch.rows news)

    last : last_place batch ≡ length (state.rows ++ batch.rows)
    last = ap (λ n. n + length batch.rows) enters.began ∙ sym (length-append state.rows batch.rows)

    follow : AllMayFollow entered news
    follow = subst (λ (time : ℕ). AllMayFollow entered (event_rows key time batch.rows (last_place batch) batch.announced)) (sym enters.at)
        (events_follow key batch.rows entered (last_place batch) batch.announced order (stand_behind state batch.rows order) enters.told last text few)
      where
        few : last_place batch + length (event_rows key state.time batch.rows (last_place batch) batch.announced) < 10 ^ 16
        few = subst (λ (time : ℕ). last_place batch + length (event_rows key time batch.rows (last_place batch) batch.announced) < 10 ^ 16) enters.at
            (let began : batch.began ≡ length state.rows = enters.began in let together = longer in omega arith)

-- an object that was found has a last version with rows more
still_found : (object : ℕ) (found : Row) (more : List Row) → (row : Row) × (fold (later_version object) (Some found) more ≡ Some row)
still_found object found [] = (found, refl)
still_found object found (x ∷ more) = at (eqb x.object object) (still_found object x more) (still_found object found more)
  where
    at : (b : Bool) → (row : Row) × (fold (later_version object) (Some x) more ≡ Some row)
        → (row : Row) × (fold (later_version object) (Some found) more ≡ Some row)
        → (row : Row) × (fold (later_version object) (cond b (Some x) (Some found)) more ≡ Some row)
    at true newer older = newer
    at false newer older = older

-- what is announced tells of objects with rows more, too
pub told_with : (state : ViewState) (rows more : List Row) (announced : List Announced)
    → IsInOrder (record state { rows = state.rows ++ (rows ++ more) }) → AreTold rows announced → AreTold (rows ++ more) announced
told_with state rows more [] order tells = tt
told_with state rows more (told ∷ announced) order tells = (at (latest_of told.object rows) refl tells.0, told_with state rows more announced order tells.1)
  where
    whole : ViewState
    whole = record state { rows = state.rows ++ (rows ++ more) }

    last : (subject row : Row) → latest_of told.object rows ≡ Some subject → latest_of told.object (rows ++ more) ≡ Some row
        → kind_of subject.item ≡ subject_of told.sort → kind_of row.item ≡ subject_of told.sort
    last subject row e l h = elim (found_among told.object None rows subject e) [
      | inl none ↦ absurd (cc)
      | inr there ↦ (let here = stand_behind state (rows ++ more) order told.object row l in
          let stands = stands_behind state (rows ++ more) there.0 subject order (slice_get-before rows more there.0 subject there.1) in
          versions_alike whole row.place subject.place row subject order here.0 stands (here.1 ∙ sym there.2) ∙ h)
    ]

    at : (found : Option Row) → latest_of told.object rows ≡ found → IsToldBy found told.sort
        → IsToldBy (latest_of told.object (rows ++ more)) told.sort
    at None e h = absurd h
    at (Some subject) e h =
        let still = still_found told.object subject more in
        let latest : latest_of told.object (rows ++ more) ≡ Some still.0 =
        latest_from told.object None rows more ∙ ap (λ o. fold (later_version told.object) o more) e ∙ still.1 in
        subst (λ (o : Option Row). IsToldBy o told.sort) (sym latest) (last subject still.0 e latest h)

-- an object of which there is a version among rows has a present one
has_latest : (object : ℕ) (found : Option Row) (rows : List Row) (i : ℕ) (row : Row) → slice_get rows i ≡ Some row
    → row.object ≡ object → (last : Row) × (fold (later_version object) found rows ≡ Some last)
has_latest object found [] i row there mine = absurd (cc)
has_latest object found (x ∷ rows) zero row there mine = at (eqb x.object object) refl
  where
    same : x ≡ row
    same = cc

    at : (b : Bool) → eqb x.object object ≡ b → (last : Row) × (fold (later_version object) (cond b (Some x) found) rows ≡ Some last)
    at true e = still_found object x rows
    at false e = absurd (eqb-false x.object object e (ap (λ (r : Row). r.object) same ∙ mine))
has_latest object found (x ∷ rows) (suc i) row there mine = has_latest object (later_version object found x) rows i row there mine

-- a row among those that are added is told by an event of its kind
pub row_told : (state : ViewState) (rows : List Row) (i : ℕ) (row : Row) (sort : EventKind)
    → IsInOrder (record state { rows = state.rows ++ rows }) → slice_get rows i ≡ Some row → kind_of row.item ≡ subject_of sort
    → IsToldBy (latest_of row.object rows) sort
row_told state rows i row sort order there subject = at (latest_of row.object rows) refl
  where
    stands : row_at row.place (state.rows ++ rows) ≡ Some row
    stands = stands_behind state rows i row order there

    at : (found : Option Row) → latest_of row.object rows ≡ found → IsToldBy found sort
    at None none =
        let last = has_latest row.object None rows i row there refl in
        let clash : None ≡ Some last.0 = sym none ∙ last.1 in absurd (cc)
    at (Some last) e =
        let here = stand_behind state rows order row.object last e in
        versions_alike (record state { rows = state.rows ++ rows }) last.place row.place last row order here.0 stands here.1 ∙ subject
