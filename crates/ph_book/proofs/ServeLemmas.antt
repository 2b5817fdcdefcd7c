-- The records that a book keeps say what is known of keys.
use Rattle.std.proofs.Common.{◌≡◌, ℕ, ◌⊎◌, true, false, List, Option, Some, None, refl, sym, ap, ◌∙◌, subst, inl, inr}
use Rattle.ph_base.specs.declared.acquirer.Ruling.{Ruling}
use Rattle.ph_base.specs.declared.acquirer.Ruling.TheVariants as ruling
use Rattle.ph_items.specs.declared.attempts.Attempt.{Attempt}
use Rattle.ph_items.specs.declared.attempts.AttemptState.TheVariants as attempt_state
use Rattle.ph_items.specs.declared.items.Item.{Item}
use Rattle.ph_items.specs.declared.items.Item.TheVariants as item
use Rattle.ph_items.specs.Items.{attempt_in}
use Rattle.ph_rows.specs.Rows.{latest_of}
use Rattle.ph_rows.specs.Views.{ViewState}
use Rattle.ph_rows.specs.declared.rows.Row.{Row}
use Rattle.ph_facts.specs.Shown.{HasAttempt}
use Rattle.ph_facts.specs.Sound.{IsSound}
use Rattle.ph_facts.proofs.SoundLemmas.{latest_has_begun}
use Rattle.ph_doings.specs.Doings.{Doing}
use Rattle.ph_doings.specs.Records.{Found, doings_of, record_of, time_of}
use Rattle.ph_doings.specs.Records as found
use Rattle.ph_doings.specs.Rows.{StandsAs, state_shown}
use Rattle.ph_doings.specs.Standings.{State, Standing, NotBegun, Stands as StandsAt, is_parked, standing_of}
use Rattle.ph_doings.specs.Standings as attempt
use Rattle.ph_doings.proofs.RowLemmas.{past_is_in_rows, rows_say_past}
use Rattle.ph_idem.specs.declared.found.Found.{Found as IdemFound}
use Rattle.ph_idem.specs.declared.key_record.KeyRecord.{KeyRecord}
use Rattle.ph_idem.specs.Kept.{has_key, is_like, records_after}
use Rattle.ph_idem.specs.Laws.{FindsAs}
use Rattle.ph_idem.specs.Records.{found_in}
use Rattle.ph_idem.proofs.FoundLemmas.{records_are_found}
use Rattle.ph_book.specs.declared.setup.Setup.{Setup}
use Rattle.ph_book.specs.Called.{ServeKeys, ServesFound, is_attempt_parked, is_row_parked, is_state_parked}
use Rattle.ph_book.specs.Calls.{Keys}
use Rattle.ph_book.specs.History.{Happening, doings_after, keys_after, reply_at, rows_after, saids_after, time_after, turns_after}
use Rattle.ph_book.proofs.EffectLemmas.{Stands, StandsParked}
use Rattle.ph_book.proofs.KeyLawLemmas.{turn_time}
use Rattle.ph_book.proofs.KeyLemmas.{turn_doings}
use Rattle.ph_book.proofs.StandLemmas.{HasStood, view_after}

-- no object has the number 0
zero_not_parked : (state : ViewState) → IsSound state → (version : Option Row) → latest_of 0 state.rows ≡ version → is_row_parked version ≡ false
zero_not_parked state sound None is = refl
zero_not_parked state sound (Some row) is = absurd (latest_has_begun state 0 row sound is)

-- the item that is an attempt's version
item_of : (it : Item) (one : Attempt) → attempt_in it ≡ Some one → it ≡ item.Attempt one
item_of (item.Attempt attempt) one is = let same : attempt ≡ one = cc in ap item.Attempt same
item_of other one is = absurd (cc)

ruled_not_parked : (how : Ruling) → is_state_parked (state_shown (attempt.Settled how)) ≡ false
ruled_not_parked ruling.Approved = refl
ruled_not_parked (ruling.Declined decline) = refl
ruled_not_parked ruling.Challenge = refl

-- the state that a row shows is parked exactly where the attempt stands so
shown_parked : (intent : ℕ) (order : _) (where_ : State) → is_state_parked (state_shown where_) ≡ is_parked (StandsAt intent order where_)
shown_parked intent order attempt.Live = refl
shown_parked intent order attempt.Parked = refl
shown_parked intent order (attempt.Settled how) = ruled_not_parked how

row_not_parked : (past : List Doing) (state : ViewState) (reference : ℕ) → Stands state past → is_parked (standing_of past reference) ≡ false
    → (version : Option Row) → latest_of reference state.rows ≡ version → is_row_parked version ≡ false
row_not_parked past state reference stands not None is = refl
row_not_parked past state reference stands not (Some row) is = at (attempt_in row.item) refl
  where
    at : (one : Option Attempt) → attempt_in row.item ≡ one → is_attempt_parked one ≡ false
    at None e = refl
    at (Some one) e =
        let says : StandsAs (standing_of past reference) one =
        (rows_say_past past state.rows stands.shown).attempt reference row one is (item_of row.item one e) in
        ap is_state_parked (sym says.state_is) ∙ shown_parked one.intent one.order says.state ∙ ap is_parked (sym says.standing_is) ∙ not

pub row_parked : (past : List Doing) (state : ViewState) (reference : ℕ) → Stands state past → (standing : Standing) → standing_of past reference ≡ standing
    → is_parked standing ≡ true → is_row_parked (latest_of reference state.rows) ≡ true
row_parked past state reference stands NotBegun is parked = absurd (let clash : false ≡ true = parked in cc)
row_parked past state reference stands (StandsAt intent order attempt.Live) is parked = absurd (let clash : false ≡ true = parked in cc)
row_parked past state reference stands (StandsAt intent order attempt.Parked) is parked =
    let there : HasAttempt state.rows reference intent order attempt_state.Parked =
    (past_is_in_rows past state stands.ready.sound.order stands.shown).attempt reference intent order attempt.Parked is in
    ap is_row_parked there.latest ∙ ap (λ (i : Item). is_attempt_parked (attempt_in i)) there.item_is ∙ ap is_state_parked there.state_is
row_parked past state reference stands (StandsAt intent order (attempt.Settled how)) is parked = absurd (let clash : false ≡ true = parked in cc)

-- an attempt whose last row says so stands parked
pub parked_stands : (past : List Doing) (state : ViewState) (reference : ℕ) → Stands state past → is_row_parked (latest_of reference state.rows) ≡ true
    → StandsParked past reference
parked_stands past state reference stands parked = at (standing_of past reference) refl
  where
    never : is_parked (standing_of past reference) ≡ false → ⊥
    never not =
        let wrong : true ≡ false = sym parked ∙ row_not_parked past state reference stands not (latest_of reference state.rows) refl in cc

    at : (standing : Standing) → standing_of past reference ≡ standing → StandsParked past reference
    at NotBegun is = absurd (never (ap is_parked is))
    at (StandsAt intent order attempt.Live) is = absurd (never (ap is_parked is))
    at (StandsAt intent order attempt.Parked) is = record { intent = intent; order = order; standing = is }
    at (StandsAt intent order (attempt.Settled how)) is = absurd (never (ap is_parked is))

-- what is found among the records is what is known, by the rows
serves : (past : List Doing) (state : ViewState) (keys : Keys) (records : List KeyRecord) (what : Found) (there : IdemFound) → Stands state past
    → FindsAs keys.reply past records what there → ServesFound keys state.rows records what there
serves past state keys records found.Fresh there stands finds = finds
serves past state keys records found.Differs there stands finds = finds
serves past state keys records found.Live there stands finds = record {
  reference = finds.reference;
  found_is = finds.found_is;
  not_parked = at finds.not_parked;
}
  where
    at : (finds.reference ≡ 0) ⊎ (is_parked (standing_of past finds.reference) ≡ false) → is_row_parked (latest_of finds.reference state.rows) ≡ false
    at (inl none) = ap (λ n. is_row_parked (latest_of n state.rows)) none ∙ zero_not_parked state stands.ready.sound (latest_of 0 state.rows) refl
    at (inr not) = row_not_parked past state finds.reference stands not (latest_of finds.reference state.rows) refl
serves past state keys records (found.Parked reference) there stands finds = record {
  found_is = finds.found_is;
  parked = row_parked past state reference stands (standing_of past reference) refl finds.parked;
}
serves past state keys records (found.Saved place) there stands finds = record {
  entry = finds.entry;
  found_is = finds.found_is;
  reply_is = finds.reply_is;
}

-- the records that are kept after what happened serve what is known of keys
pub records_serve : (setup : Setup) (past : List Happening) → HasStood setup past
    → ServeKeys (keys_after setup past) (rows_after setup past) (time_after setup past)
    (records_after (reply_at (saids_after past)) setup.opened (turns_after setup past))
records_serve setup past stood asked =
    serves (doings_after past) (view_after setup past) (keys_after setup past)
    (records_after (reply_at (saids_after past)) setup.opened (turns_after setup past))
    (record_of (has_key asked) (is_like asked) setup.opened (turns_after setup past))
    (found_in asked.account asked.key asked.shape (time_after setup past) (records_after (reply_at (saids_after past)) setup.opened (turns_after setup past)))
    stood.stands
    (subst (λ (p : List Doing × ℕ). FindsAs (reply_at (saids_after past)) p.0 (records_after (reply_at (saids_after past)) setup.opened (turns_after setup past))
    (record_of (has_key asked) (is_like asked) setup.opened (turns_after setup past))
    (found_in asked.account asked.key asked.shape p.1 (records_after (reply_at (saids_after past)) setup.opened (turns_after setup past))))
    (λ i. (turn_doings setup past i, turn_time setup past i))
    (records_are_found (reply_at (saids_after past)) setup.opened (turns_after setup past) asked))
