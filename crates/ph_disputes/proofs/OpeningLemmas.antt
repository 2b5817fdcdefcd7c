-- An opening may be entered with the batch to which it is added.
use Rattle.std.specs.Prelude.{◌||◌, ◌-ℤ◌, option_and_then, neg_ℤ}
use Rattle.std.proofs.Common.{◌≡◌, ℕ, ◌+◌, ◌^◌, ◌≤◌, ◌<◌, Bool, true, false, cond, eqb, List, [], ◌∷◌, ◌++◌, Option, None, Some, length, refl, sym, ap, ◌∙◌, subst, arith, pos}
use Rattle.std.specs.List.{fold, list_any}
use Rattle.std.specs.Option.{option_or}
use Rattle.std.proofs.lemmas.Bool.{ne_eqb}
use Rattle.std.proofs.lemmas.Int.{ints}
use Rattle.std.proofs.lemmas.List.{append_assoc, length-append}
use Rattle.ph_base.specs.declared.ids.Kind.{Kind}
use Rattle.ph_base.specs.declared.ids.Kind.TheVariants as kind
use Rattle.ph_items.specs.declared.charges.Charge.{Charge}
use Rattle.ph_items.specs.declared.charges.ChargeSort.{ChargeSort}
use Rattle.ph_items.specs.declared.charges.ChargeSort.TheVariants as charge_sort
use Rattle.ph_items.specs.declared.event_kinds.EventKind.TheVariants as event
use Rattle.ph_items.specs.declared.items.Item.{Item}
use Rattle.ph_items.specs.declared.items.Item.TheVariants as item
use Rattle.ph_items.specs.Disputes.{dispute_fee}
use Rattle.ph_items.specs.Charges.{charge_kind}
use Rattle.ph_items.specs.Items.{card_charge_in, charge_in, if_card}
use Rattle.ph_items.specs.Kinds.{kind_of}
use Rattle.ph_rows.specs.declared.rows.Row.{Row}
use Rattle.ph_rows.specs.declared.batches.Announced.{Announced}
use Rattle.ph_rows.specs.Batches.{BatchState, last_place, next_row, version_with}
use Rattle.ph_rows.specs.Rows.{row_at, later_version, latest_of}
use Rattle.ph_rows.specs.Views.{ViewState}
use Rattle.ph_rows.proofs.RowLemmas.{is_version, latest_from, latest_of-apart, latest_of-last, row_at-before, row_at-next, row_at_within}
use Rattle.ph_facts.specs.Amounts.{Move, captured, given_back, moved, moves_of, refunded, reversed, taken_move, transferred}
use Rattle.ph_facts.proofs.DoneLemmas.{shown_before}
use Rattle.ph_facts.specs.Keeps.{MayBeAdded}
use Rattle.ph_facts.specs.Shown.{shown_in}
use Rattle.ph_facts.specs.Entering.{AreTold, IsToldBy, MayBeEntered}
use Rattle.ph_facts.specs.Held.{AreHeld, charge_of}
use Rattle.ph_facts.specs.Order.{AllMayFollow, IsInOrder, IsWithin, MayFollow, with_next}
use Rattle.ph_facts.specs.Origins.{IsOrigin}
use Rattle.ph_facts.specs.Sound.{IsSound, KeepLaws}
use Rattle.ph_facts.proofs.AmountLemmas.{captured_sum, moved_named, moved_sum, refunded_sum, transferred_sum}
use Rattle.ph_facts.proofs.EnterLemmas.{told_with}
use Rattle.ph_facts.proofs.FollowLemmas.{MayStand, first_follows, follow_both, further_follows}
use Rattle.ph_facts.proofs.HeldLemmas.{held_beside}
use Rattle.ph_facts.proofs.LawLemmas.{ChargesSpoken, laws_spoken}
use Rattle.ph_facts.proofs.OrderLemmas.{amounts_stand, order_with, order_with_all, origin_stands, origins_stand, texts_stand}
use Rattle.ph_facts.proofs.PresentLemmas.{IsCharge, charge_found, charge_says}
use Rattle.ph_facts.proofs.SoundLemmas.{sound_with_all}
use Rattle.ph_facts.proofs.SpokenLemmas.{Spoken, spoken_adding, spoken_among, spoken_none, spoken_version}
use Rattle.ph_facts.proofs.TallyLemmas.{sum_later}
use Rattle.ph_disputes.specs.Due.{due_charge, open_due_of, opening_due}
use Rattle.ph_disputes.specs.Laws.{OpeningKeepsSound}
use Rattle.ph_disputes.specs.Opening.{disputed_charge, new_dispute, open_of, opening_in, opening_of, opening_rows, taken_txn, with_dispute, with_taken}
use Rattle.ph_disputes.proofs.HeldLemmas.{held_version}

-- what is taken, by its amount below 0
taken_is : (amount : ℕ) → taken_move amount ≡ record { amount = neg_ℤ (pos amount); fee = pos dispute_fee }
taken_is amount = ap (λ z. record { amount = z; fee = pos dispute_fee }) (let same : pos 0 -ℤ pos amount ≡ neg_ℤ (pos amount) = omega (arith, ints) in same)

-- the rows of a dispute of a charge, behind sound rows and at the next places
module _ (state : ViewState) (batch : BatchState) (row : Row) (charge : Charge) (sound : IsSound state)
    (room : length state.rows + 3 < 10 ^ 16) (last : last_place batch ≡ length state.rows) (now : batch.at ≡ state.time)
    (found : IsCharge state.rows row charge) (card : charge_kind charge.sort ≡ kind.Charge) where
  abbrev pub number : ℕ
  number = last_place batch + 1

  abbrev pub disputing : BatchState
  disputing = with_dispute row.account (new_dispute row.object charge) batch

  abbrev pub taking : BatchState
  taking = with_taken row.account number charge disputing

  abbrev pub opened : Row
  opened = next_row batch number row.account (item.Dispute (new_dispute row.object charge))

  abbrev pub txn : Row
  txn = next_row disputing (last_place disputing + 1) row.account (item.Txn (taken_txn number charge batch.at))

  abbrev pub after : Charge
  after = disputed_charge number charge

  abbrev pub kept : Row
  kept = next_row taking row.object row.account (item.Charge after)

  abbrev pub opening : List Row
  opening = opened ∷ txn ∷ kept ∷ []

  order : IsInOrder state
  order = sound.order

  abbrev pub second : ViewState
  second = with_next state opened

  abbrev pub third : ViewState
  third = with_next second txn

  count_second : length second.rows ≡ length state.rows + 1
  count_second = length-append state.rows (opened ∷ [])

  count_third : length third.rows ≡ length second.rows + 1
  count_third = length-append second.rows (txn ∷ [])

  count_disputing : length disputing.rows ≡ length batch.rows + 1
  count_disputing = length-append batch.rows (opened ∷ [])

  count_taking : length taking.rows ≡ length disputing.rows + 1
  count_taking = length-append disputing.rows (txn ∷ [])

  charged : IsOrigin (row_at row.object state.rows) (record { kind = kind.Charge; number = row.object })
  charged =
      subst (λ (k : Kind). IsOrigin (row_at row.object state.rows) (record { kind = k; number = row.object })) card
      (origin_stands state row (item.Charge charge) order found.stands found.is)

  opened_follows : MayFollow state opened
  opened_follows =
      first_follows state opened (record { few = omega arith; place = omega arith; at = now }) (omega arith)
      (record { texts = refl; within = tt; origins = (charged, tt); silent = λ event is. absurd (cc) })

  order_second : IsInOrder second
  order_second = order_with state opened order opened_follows

  opened_stands : row_at opened.place second.rows ≡ Some opened
  opened_stands = subst (λ (place : ℕ). row_at place second.rows ≡ Some opened) (sym opened_follows.place) (row_at-next state.rows opened)

  source : IsOrigin (row_at number second.rows) (record { kind = kind.Dispute; number = number })
  source = origin_stands second opened (item.Dispute (new_dispute row.object charge)) order_second opened_stands refl

  txn_follows : MayFollow second txn
  txn_follows =
      let one = count_second in
      let two = count_disputing in
      first_follows second txn (record { few = omega arith; place = omega arith; at = now }) (omega arith)
      (record { texts = refl; within = tt; origins = (source, tt); silent = λ event is. absurd (cc) })

  order_third : IsInOrder third
  order_third = order_with second txn order_second txn_follows

  stands : row_at row.place third.rows ≡ Some row
  stands = row_at-before row.place second.rows (txn ∷ []) row (row_at-before row.place state.rows (opened ∷ []) row found.stands)

  kept_stands : MayStand third.rows (item.Charge after)
  kept_stands =
      let fits : IsWithin charge = amounts_stand state row (item.Charge charge) order found.stands found.is in
      record {
        texts = texts_stand state row (item.Charge charge) order found.stands found.is;
        within = record { captured = fits.captured; refunded = fits.refunded; transferred = fits.transferred };
        origins = origins_stand third row (item.Charge charge) order_third stands found.is;
        silent = λ event is. absurd (cc);
      }

  kept_follows : MayFollow third kept
  kept_follows =
      let one = count_second in
      let two = count_third in
      let three = count_disputing in
      let four = count_taking in
      further_follows third row kept order_third stands
      (record { few = omega arith; place = omega arith; at = now }) kept_stands
      (record { object = refl; account = refl; kind = sym (ap kind_of found.is) }) refl

  pub opening_follows : AllMayFollow state opening
  opening_follows = (opened_follows, (txn_follows, (kept_follows, tt)))

  -- the charge says its amounts still
  opening_charges : ChargesSpoken state.rows opening
  opening_charges =
      let says = charge_says state.rows row charge sound.laws found in
      record {
        captured = spoken_among captured state.rows opening captured_sum
            (spoken_version captured state.rows kept (pos charge.amount_captured) captured_sum refl refl says.captured);
        refunded = spoken_among refunded state.rows opening refunded_sum
            (spoken_version refunded state.rows kept charge.amount_refunded refunded_sum refl refl says.refunded);
        transferred = spoken_among transferred state.rows opening transferred_sum
            (spoken_version transferred state.rows kept charge.amount_transferred transferred_sum refl refl says.transferred);
      }

  row_within : row.object ≤ length state.rows
  row_within =
      let first : row.object ≤ row.place = order.first row.place row found.stands in
      let within : row.place ≤ length state.rows = (row_at_within row.place state.rows row found.stands).1 in
      omega arith

  opened_is_later : number ≡ row.object → ⊥
  opened_is_later same = let within = row_within in omega arith

  txn_is_later : txn.object ≡ row.object → ⊥
  txn_is_later same = let within = row_within in let counted = count_disputing in omega arith

  latest_third : latest_of row.object third.rows ≡ Some row
  latest_third =
      latest_of-apart row.object second.rows (txn ∷ []) (ap (λ (b : Bool). b || false) (ne_eqb txn.object row.object txn_is_later))
      ∙ latest_of-apart row.object state.rows (opened ∷ []) (ap (λ (b : Bool). b || false) (ne_eqb number row.object opened_is_later))
      ∙ found.latest

  known : charge_of third.rows row.object ≡ Some charge
  known = ap (option_and_then (λ (r : Row). charge_in r.item)) latest_third ∙ ap charge_in found.is

  held_third : AreHeld third.rows
  held_third =
      held_beside second (txn ∷ []) order_second order_third (tt, tt)
      (held_beside state (opened ∷ []) order order_second (tt, tt) sound.laws.held)

  pub opening_held : AreHeld (state.rows ++ opening)
  opening_held =
      subst AreHeld (append_assoc second.rows (txn ∷ []) (kept ∷ []) ∙ append_assoc state.rows (opened ∷ []) (txn ∷ kept ∷ []))
      (held_version third.rows kept charge after held_third known refl (record { sort = refl; amount = refl; captured = refl }))

  kept_differs : row.object ≡ number → ⊥
  kept_differs same = opened_is_later (sym same)

  txn_differs : txn.object ≡ number → ⊥
  txn_differs same = let counted = count_disputing in omega arith

  no_version : list_any (is_version number) (txn ∷ kept ∷ []) ≡ false
  no_version =
      ap (λ (b : Bool). b || ((eqb row.object number) || false)) (ne_eqb txn.object number txn_differs)
      ∙ ap (λ (b : Bool). b || false) (ne_eqb row.object number kept_differs)

  nothing_before : moves_of number state.rows ≡ []
  nothing_before = sum_later moved state number moved_sum moved_named order (omega arith)

  -- the dispute says what its transaction moves
  opening_moves : Spoken moved state.rows opening
  opening_moves =
      spoken_among moved state.rows opening moved_sum
      (spoken_adding moved state.rows opened txn (taken_move charge.amount_captured ∷ []) (taken_move charge.amount_captured ∷ []) moved_sum refl refl
      (ap (λ (move : Move). Some (record { object = number; amount = move ∷ [] })) (sym (taken_is charge.amount_captured))) refl
      (ap (λ front. front ++ taken_move charge.amount_captured ∷ []) (sym nothing_before)))

  pub opening_laws : KeepLaws (state.rows ++ opening)
  opening_laws =
      laws_spoken state.rows opening sound.laws (record {
        charges = opening_charges;
        reversed = spoken_none reversed state.rows opening refl;
        given_back = spoken_none given_back state.rows opening refl;
        moved = opening_moves;
      }) opening_held

  pub opening_latest : (rows : List Row) → latest_of number (rows ++ opening) ≡ Some opened
  opening_latest rows =
      ap (latest_of number) (sym (append_assoc rows (opened ∷ []) (txn ∷ kept ∷ [])))
      ∙ latest_of-apart number (rows ++ opened ∷ []) (txn ∷ kept ∷ []) no_version
      ∙ latest_of-last rows opened

-- announcements and one more
told_push : (rows : List Row) (announced : List Announced) (told : Announced) → AreTold rows announced
    → IsToldBy (latest_of told.object rows) told.sort → AreTold rows (announced ++ told ∷ [])
told_push rows [] told tells last = (last, tt)
told_push rows (first ∷ announced) told tells last = (tells.0, told_push rows announced told tells.1 last)

-- the view with the rows of a batch that may be entered is sound
whole_sound : (state : ViewState) (batch : BatchState) → IsSound state → MayBeEntered state batch
    → IsSound (record state { rows = state.rows ++ batch.rows })
whole_sound state batch sound enters = sound_with_all state batch.rows sound enters.follow enters.laws

-- the opening of a dispute of a charge may be entered with the batch to which it is added
opening_enters : (state : ViewState) (batch : BatchState) (row : Row) (charge : Charge) → IsSound state → MayBeEntered state batch
    → length state.rows + length batch.rows + 3 < 10 ^ 16 → IsCharge (state.rows ++ batch.rows) row charge
    → charge_kind charge.sort ≡ kind.Charge → MayBeEntered state (opening_rows row.account row.object charge (last_place batch + 1) batch)
opening_enters state batch row charge sound enters room found card = record {
  began = enters.began;
  at = enters.at;
  follow = subst (AllMayFollow state) (sym grouped) (follow_both state batch.rows more enters.follow follows);
  laws = subst KeepLaws (sym apart) (opening_laws whole batch row charge steady few last enters.at found card);
  told = subst (λ (rows : List Row). AreTold rows (batch.announced ++ news ∷ [])) (sym grouped)
      (told_push (batch.rows ++ more) batch.announced news
      (told_with state batch.rows more batch.announced (order_with_all state (batch.rows ++ more) sound.order (follow_both state batch.rows more enters.follow follows)) enters.told)
      (subst (λ (o : Option Row). IsToldBy o event.DisputeCreated)
      (sym (opening_latest whole batch row charge steady few last enters.at found card batch.rows)) refl));
}
  where
    whole : ViewState
    whole = record state { rows = state.rows ++ batch.rows }

    steady : IsSound whole
    steady = whole_sound state batch sound enters

    count : length whole.rows ≡ length state.rows + length batch.rows
    count = length-append state.rows batch.rows

    few : length whole.rows + 3 < 10 ^ 16
    few = let counted = count in omega arith

    last : last_place batch ≡ length whole.rows
    last = let counted = count in let began : batch.began ≡ length state.rows = enters.began in omega arith

    more : List Row
    more = opening whole batch row charge steady few last enters.at found card

    follows : AllMayFollow whole more
    follows = opening_follows whole batch row charge steady few last enters.at found card

    news : Announced
    news = record { sort = event.DisputeCreated; object = last_place batch + 1 }

    grouped : (opening_rows row.account row.object charge (last_place batch + 1) batch).rows ≡ batch.rows ++ more
    grouped = simp append_assoc

    apart : state.rows ++ (opening_rows row.account row.object charge (last_place batch + 1) batch).rows ≡ whole.rows ++ more
    apart = ap (λ (rows : List Row). state.rows ++ rows) grouped ∙ sym (append_assoc state.rows batch.rows more)

-- the last version of an object over rows, and over more behind them
fold_or : (object : ℕ) (found : Option Row) (more : List Row)
    → fold (later_version object) found more ≡ option_or (latest_of object more) found
fold_or object found [] = refl
fold_or object found (x ∷ more) =
    fold_or object (later_version object found x) more
    ∙ either (latest_of object more) (eqb x.object object)
    ∙ ap (λ (o : Option Row). option_or o found) (sym (fold_or object (later_version object None x) more))
  where
    either : (o : Option Row) (b : Bool) → option_or o (cond b (Some x) found) ≡ option_or (option_or o (cond b (Some x) None)) found
    either None true = refl
    either None false = refl
    either (Some last) b = refl

-- the card charge that an item is, is a charge of that kind
card_in : (content : Item) (charge : Charge) → card_charge_in content ≡ Some charge
    → (charge_in content ≡ Some charge) × (charge_kind charge.sort ≡ kind.Charge)
card_in content charge e = at (charge_in content) e
  where
    by : (version : Charge) (sort : ChargeSort) → version.sort ≡ sort → if_card sort version ≡ Some charge
        → (Some version ≡ Some charge) × (charge_kind charge.sort ≡ kind.Charge)
    by version (charge_sort.Card intent) s e =
        let same : version ≡ charge = cc in (e, ap (λ (c : Charge). charge_kind c.sort) (sym same) ∙ ap charge_kind s)
    by version (charge_sort.Payment transfer) s e = absurd (cc)

    at : (found : Option Charge) → option_and_then (λ (version : Charge). if_card version.sort version) found ≡ Some charge
        → (found ≡ Some charge) × (charge_kind charge.sort ≡ kind.Charge)
    at None e = absurd (cc)
    at (Some version) e = by version version.sort refl e

-- what the opening of a dispute of a charge adds may be entered
entered_open : (state : ViewState) (batch : BatchState) (object : ℕ) → IsSound state → MayBeEntered state batch
    → length state.rows + length batch.rows + 3 < 10 ^ 16 → MayBeEntered state (open_of state.rows object batch)
entered_open state batch object sound enters room = at (version_with state.rows batch object) refl
  where
    latest : (row : Row) → version_with state.rows batch object ≡ Some row → latest_of object (state.rows ++ batch.rows) ≡ Some row
    latest row e = latest_from object None state.rows batch.rows ∙ fold_or object (latest_of object state.rows) batch.rows ∙ e

    of_charge : (row : Row) → version_with state.rows batch object ≡ Some row → (o : Option Charge) → card_charge_in row.item ≡ o
        → MayBeEntered state (opening_of row.account object batch o)
    of_charge row e None is = enters
    of_charge row e (Some charge) is =
        let steady = whole_sound state batch sound enters in
        let there = card_in row.item charge is in
        let found = charge_found (record state { rows = state.rows ++ batch.rows }) object row charge steady (latest row e) there.0 in
        subst (λ (n : ℕ). MayBeEntered state (opening_rows row.account n charge (last_place batch + 1) batch)) found.1
        (opening_enters state batch row charge sound enters room found.0 there.1)

    at : (o : Option Row) → version_with state.rows batch object ≡ o → MayBeEntered state (opening_in object batch o)
    at None e = enters
    at (Some row) e = of_charge row e (card_charge_in row.item) refl

-- what it adds is small, and shows nothing
record IsQuiet (before after : BatchState) : Type 0 where
  few : length after.rows + length after.announced ≤ length before.rows + length before.announced + 4
  shown : shown_in after.rows ≡ shown_in before.rows

none_quiet : (batch : BatchState) → IsQuiet batch batch
none_quiet batch = record { few = omega arith; shown = refl }

rows_quiet : (account object : ℕ) (charge : Charge) (number : ℕ) (batch : BatchState) → IsQuiet batch (opening_rows account object charge number batch)
rows_quiet account object charge number batch =
    let opened = next_row batch (last_place batch + 1) account (item.Dispute (new_dispute object charge)) in
    let disputing = with_dispute account (new_dispute object charge) batch in
    let txn = next_row disputing (last_place disputing + 1) account (item.Txn (taken_txn number charge disputing.at)) in
    let taking = with_taken account number charge disputing in
    let kept = next_row taking object account (item.Charge (disputed_charge number charge)) in
    let news : Announced = record { sort = event.DisputeCreated; object = number } in
    let one : length (batch.rows ++ opened ∷ []) ≡ length batch.rows + 1 = length-append batch.rows (opened ∷ []) in
    let two : length (disputing.rows ++ txn ∷ []) ≡ length disputing.rows + 1 = length-append disputing.rows (txn ∷ []) in
    let three : length (taking.rows ++ kept ∷ []) ≡ length taking.rows + 1 = length-append taking.rows (kept ∷ []) in
    let told : length (batch.announced ++ news ∷ []) ≡ length batch.announced + 1 = length-append batch.announced (news ∷ []) in
    record {
      few = omega (arith, one, two, three, told);
      shown = shown_before taking.rows (kept ∷ []) refl ∙ shown_before disputing.rows (txn ∷ []) refl ∙ shown_before batch.rows (opened ∷ []) refl;
    }

open_quiet : (rows : List Row) (object : ℕ) (batch : BatchState) → IsQuiet batch (open_of rows object batch)
open_quiet rows object batch = at (version_with rows batch object)
  where
    of_charge : (account : ℕ) (charge : Option Charge) → IsQuiet batch (opening_of account object batch charge)
    of_charge account None = none_quiet batch
    of_charge account (Some charge) = rows_quiet account object charge (last_place batch + 1) batch

    at : (found : Option Row) → IsQuiet batch (opening_in object batch found)
    at None = none_quiet batch
    at (Some row) = of_charge row.account (card_charge_in row.item)

-- what the opening of a dispute of a charge adds may be added
pub open_keeps : OpeningKeepsSound open_of
open_keeps state most touch batch object sound may room =
    let quiet = open_quiet state.rows object batch in
    let small = quiet.few in
    let few = may.few in record {
      enters = entered_open state batch object sound may.enters room;
      few = omega arith;
      shown = quiet.shown ∙ may.shown;
    }

-- and what the opening of a dispute that is due adds
pub open_due_keeps : OpeningKeepsSound open_due_of
open_due_keeps state most touch batch intent sound may room = at (due_charge batch.rows intent)
  where
    at : (charge : Option ℕ) → MayBeAdded state (most + 4) touch (opening_due state.rows batch charge)
    at None = let few = may.few in record { enters = may.enters; few = omega arith; shown = may.shown }
    at (Some charge) = open_keeps state most touch batch charge sound may room
