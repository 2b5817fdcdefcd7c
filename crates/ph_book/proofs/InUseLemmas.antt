-- A call finds its key in use only while a run lives.
use Rattle.std.proofs.Common.{◌≡◌, ℕ, suc, ◌+◌, ◌^◌, ◌<◌, ◌≤◌, ◌==◌, ◌&&◌, ◌∷◌, nat_le, Bool, true, false, if◌then◌else◌, List, [], length, Option, Some, None, refl, sym, ◌∙◌, subst, arith}
use Rattle.std.specs.List.{fold}
use Rattle.std.proofs.lemmas.Bool.Decides.{nat_tests}
use Rattle.ph_items.specs.declared.orders.Order.{Order}
use Rattle.ph_rows.specs.declared.rows.Row.{Row}
use Rattle.ph_rows.specs.Batches.{BatchState}
use Rattle.ph_facts.specs.Outcomes.{Refuses, Adds}
use Rattle.ph_facts.specs.Touches.{order_asked}
use Rattle.ph_doings.specs.Confirmations.{begun_by}
use Rattle.ph_doings.specs.Doings.{Doing}
use Rattle.ph_doings.specs.Laws.{IsFlown}
use Rattle.ph_doings.specs.Lawful.{IsLawful}
use Rattle.ph_doings.specs.Records.{Fresh, Differs, Live, Opened, Never, Opens, Said, Replies, Silence, Waits, Turn, a_day, doings_of, found_in, is_over, last_opened, result_of, result_of_attempt, result_said, said_at, time_of}
use Rattle.ph_doings.specs.Standings.{Standing, NotBegun, Stands, standing_of}
use Rattle.ph_doings.specs.Standings as attempt
use Rattle.ph_doings.proofs.LawProofs.{live_is_run}
use Rattle.ph_idem.specs.declared.asked.Asked.{Asked}
use Rattle.ph_idem.specs.Kept.{has_key, is_like, opening_of}
use Rattle.ph_idem.specs.Laws.{AreTold, Tells, TellsIf}
use Rattle.ph_idem.proofs.FoundLemmas.{over_alike}
use Rattle.ph_book.specs.declared.setup.Setup.{Setup}
use Rattle.ph_book.specs.declared.acts.Deed.{Deed}
use Rattle.ph_book.specs.declared.acts.Deed.TheVariants as deed
use Rattle.ph_book.specs.declared.acts.Entry.{Entry}
use Rattle.ph_book.specs.Calls.{Keys, Upshot, Rejects, Replays, Makes, Shows, Sets, called_at, key_asked, opens}
use Rattle.ph_book.specs.Keys.{asked_in, request_of}
use Rattle.ph_book.specs.History.{Happening, and_then, call_effect, deed_asks, doings_after, effect_of, happening_of, keys_after, past_of, rows_after, said_briefly, shown_or_waits, time_after, turns_after}
use Rattle.ph_book.specs.History as history
use Rattle.ph_book.specs.KeyLaws.{ConflictWhileARunLives, keys_of, turns_of}
use Rattle.ph_book.proofs.KeyLemmas.{turn_doings, turns_more}
use Rattle.ph_book.proofs.KeyLawLemmas.{legal_turned, turn_time}
use Rattle.ph_book.proofs.StandLemmas.{legal_stands}
use Rattle.ph_book.proofs.WaitLemmas.{unbegun_by}

-- ---- what is said to calls under a key

-- a call under a key is never left without a word
abbrev pub AreHeard : List (Turn Asked) → Type 0
AreHeard [] = Unit {0}
AreHeard (turn ∷ past) = ((asked : Asked) → turn.asked ≡ Some asked → turn.said ≡ Silence → ⊥) × AreHeard past

shown_heard : (now : ℕ) (rows : List Row) (object : ℕ) (batch : BatchState) (order : Option Order)
    → said_briefly (shown_or_waits now rows object batch order) ≡ Silence → ⊥
shown_heard now rows object batch None h = cc
shown_heard now rows object batch (Some order) h = cc

call_heard : (key : Option (List ℕ)) (opens_ : Bool) (rows : List Row) (now place caller : ℕ) (upshot : Upshot)
    → said_briefly (call_effect key opens_ rows now place caller upshot).said ≡ Silence → ⊥
call_heard key opens_ rows now place caller (Rejects error) h = cc
call_heard key opens_ rows now place caller (Replays saved) h = cc
call_heard key opens_ rows now place caller (Makes (Refuses error)) h = cc
call_heard key opens_ rows now place caller (Makes (Adds touch object batch)) h = shown_heard now rows object batch (order_asked touch) h
call_heard key opens_ rows now place caller (Shows doc) h = cc
call_heard key opens_ rows now place caller (Sets moment) h = cc

deed_heard : (setup : Setup) (keys : Keys) (past : List Doing) (rows : List Row) (now place caller : ℕ) (d : Deed) (asked : Asked)
    → deed_asks setup rows d ≡ Some asked → said_briefly (effect_of setup keys past rows now place caller d).said ≡ Silence → ⊥
deed_heard setup keys past rows now place caller (deed.Call raw) asked asks h =
    call_heard (key_asked (asked_in (request_of setup.key rows raw))) (opens keys (asked_in (request_of setup.key rows raw))) rows now place caller
    (called_at keys setup.key rows now place raw) h
deed_heard setup keys past rows now place caller (deed.Finish run ruling) asked asks h = absurd (cc)
deed_heard setup keys past rows now place caller (deed.Park run why) asked asks h = absurd (cc)
deed_heard setup keys past rows now place caller deed.Resume asked asks h = absurd (cc)
deed_heard setup keys past rows now place caller (deed.Tick moment) asked asks h = absurd (cc)

heard_more : (setup : Setup) (past : List Happening) (entry : Entry) → AreHeard (turns_after setup past) → AreHeard (turns_after setup (and_then setup past entry))
heard_more setup past entry heard = subst AreHeard (sym (turns_more setup past (happening_of setup past entry))) (
  λ asked asks silent. deed_heard setup (keys_after setup past) (doings_after past) (rows_after setup past) (time_after setup past) (length past + 1)
      entry.caller entry.deed asked asks silent,
  heard,
)

heard_from : (setup : Setup) (past : List Happening) (entries : List Entry) → AreHeard (turns_after setup past)
    → AreHeard (turns_after setup (fold (and_then setup) past entries))
heard_from setup past [] heard = heard
heard_from setup past (entry ∷ entries) heard = heard_from setup (and_then setup past entry) entries (heard_more setup past entry heard)

-- ---- the entry that opened the last record of a key

-- an entry is there, was told something, and has begun the attempt for whose ruling it waits
record IsOpener (past : List (Turn Asked)) (place : ℕ) : Type 0 where
  pub there : place ≤ length past
  pub heard : said_at past place ≡ Silence → ⊥
  pub begun : (reference : ℕ) → said_at past place ≡ Waits reference → standing_of (doings_of past) reference ≡ NotBegun → ⊥

opener_stays : (past : List (Turn Asked)) (turn : Turn Asked) (place : ℕ) → IsOpener past place → IsOpener (turn ∷ past) place
opener_stays past turn place opener = record {
  there = let le = opener.there in omega (arith, le);
  heard = λ silent. opener.heard (sym same ∙ silent);
  begun = λ reference waits new. opener.begun reference (sym same ∙ waits) (unbegun_by turn.doing (doings_of past) reference new).0;
}
  where
    same : said_at (turn ∷ past) place ≡ said_at past place
    same =
        let le = opener.there in
        let apart : (place == suc (length past)) ≡ false = grind (arith, nat_tests, le) in
        rw apart refl

-- an entry that opens one now
opener_now : (past : List (Turn Asked)) (turn : Turn Asked) (place : ℕ) → place ≡ suc (length past) → (turn.said ≡ Silence → ⊥) → Tells turn.said turn.doing
    → IsOpener (turn ∷ past) place
opener_now past turn place here heard tells = record {
  there = omega (arith, here);
  heard = λ silent. heard (sym same ∙ silent);
  begun = λ reference waits new.
      let begins : begun_by turn.doing ≡ Some reference = subst (λ (said : Said). Tells said turn.doing) (sym same ∙ waits) tells in
      let apart = (unbegun_by turn.doing (doings_of past) reference new).1 reference begins in
      grind (arith, nat_tests, apart);
}
  where
    same : said_at (turn ∷ past) place ≡ turn.said
    same =
        let is : (place == suc (length past)) ≡ true = grind (arith, nat_tests, here) in
        rw is refl

opener_is : (opened : ℕ) (past : List (Turn Asked)) (asked : Asked) (place moment : ℕ) (same : Bool) → AreTold opened past → AreHeard past
    → last_opened (has_key asked) (is_like asked) opened past ≡ Opens place same moment → IsOpener past place
opener_is opened [] asked place moment same told heard is = absurd (cc)
opener_is opened (turn ∷ past) asked place moment same told heard is =
    at turn.asked refl told.0 is (λ was. opener_is opened past asked place moment same told.1 heard.1 was)
  where
    last : Opened
    last = last_opened (has_key asked) (is_like asked) opened past

    now : ℕ
    now = time_of opened past

    opens_now : (first : Asked) → turn.asked ≡ Some first → has_key asked first ≡ true → is_over last now ≡ true → TellsIf (opening_of opened past (Some first)) turn.said turn.doing
        → place ≡ suc (length past) → IsOpener (turn ∷ past) place
    opens_now first asks mine free tells here =
        let own : is_over (last_opened (has_key first) (is_like first) opened past) (time_of opened past) ≡ true =
        sym (over_alike opened past asked first now mine) ∙ free in
        let told : Tells turn.said turn.doing = rw own at tells in
        opener_now past turn place here (heard.0 first asks) told

    over : (first : Asked) → turn.asked ≡ Some first → (mine : Bool) → has_key asked first ≡ mine → (free : Bool) → is_over last now ≡ free
        → TellsIf (opening_of opened past (Some first)) turn.said turn.doing
        → (if mine && free then Opens (suc (length past)) (is_like asked first) now else last) ≡ Opens place same moment
        → (last ≡ Opens place same moment → IsOpener past place) → IsOpener (turn ∷ past) place
    over first asks true e true f tells h before = opens_now first asks e f tells (let here : suc (length past) ≡ place = cc in sym here)
    over first asks true e false f tells h before = opener_stays past turn place (before h)
    over first asks false e free f tells h before = opener_stays past turn place (before h)

    at : (by : Option Asked) → turn.asked ≡ by → TellsIf (opening_of opened past turn.asked) turn.said turn.doing
        → last_opened (has_key asked) (is_like asked) opened (turn ∷ past) ≡ Opens place same moment
        → (last ≡ Opens place same moment → IsOpener past place) → IsOpener (turn ∷ past) place
    at None asks tells h before = opener_stays past turn place (before (rw asks at h))
    at (Some first) asks tells h before =
        over first asks (has_key asked first) refl (is_over last now) refl (rw asks at tells) (rw asks at h) before

-- ---- what a call finds whose key is in use

-- the record that is found, and its result
record FindsInUse (past : List (Turn Asked)) (now : ℕ) (last : Opened) : Type 0 where
  pub place : ℕ
  pub moment : ℕ
  pub opened : last ≡ Opens place true moment
  pub soon : now < moment + a_day
  pub result : result_of past place ≡ Live

finds_in_use : (past : List (Turn Asked)) (now : ℕ) (last : Opened) → found_in past now last ≡ Live → FindsInUse past now last
finds_in_use past now Never h = absurd (cc)
finds_in_use past now (Opens place same moment) h = at (nat_le (moment + a_day) now) refl same h
  where
    at : (over : Bool) → nat_le (moment + a_day) now ≡ over → (like : Bool)
        → (if over then Fresh else (if like then result_of past place else Differs)) ≡ Live → FindsInUse past now (Opens place like moment)
    at true e like h = absurd (cc)
    at false e false h = absurd (cc)
    at false e true h = record { place = place; moment = moment; opened = refl; soon = grind (arith, nat_tests, e); result = h }

-- an entry waits for the ruling on an attempt, of which a run is live
record WaitsForRun (past : List (Turn Asked)) (place : ℕ) : Type 0 where
  pub reference : ℕ
  pub waits : said_at past place ≡ Waits reference
  pub run : IsFlown (doings_of past) reference

waits_for_run : (past : List (Turn Asked)) (place : ℕ) → IsLawful (doings_of past) → IsOpener past place → result_of past place ≡ Live → WaitsForRun past place
waits_for_run past place lawful opener h = at (said_at past place) refl h
  where
    stands : (reference : ℕ) → said_at past place ≡ Waits reference → (standing : Standing) → standing_of (doings_of past) reference ≡ standing
        → result_of_attempt (doings_of past) reference standing ≡ Live → WaitsForRun past place
    stands reference waits NotBegun e h = absurd (opener.begun reference waits e)
    stands reference waits (Stands intent order attempt.Live) e h =
        record { reference = reference; waits = waits; run = (live_is_run (doings_of past) lawful).flown reference intent order e }
    stands reference waits (Stands intent order attempt.Parked) e h = absurd (cc)
    stands reference waits (Stands intent order (attempt.Settled ruling)) e h = absurd (cc)

    at : (said : Said) → said_at past place ≡ said → result_said (doings_of past) place said ≡ Live → WaitsForRun past place
    at Replies e h = absurd (cc)
    at Silence e h = absurd (opener.heard e)
    at (Waits reference) e h = stands reference e (standing_of (doings_of past) reference) refl h

-- ---- the law

pub conflict_while_a_run_lives : (setup : Setup) → setup.entries < 2 ^ 32 → ConflictWhileARunLives setup
unfolding keys_of turns_of history.doings_of history.time_of
conflict_while_a_run_lives setup small entries asked legal live =
    let past : List Happening = past_of setup entries in
    let turns : List (Turn Asked) = turns_after setup past in
    let finds = finds_in_use turns (time_of setup.opened turns) (last_opened (has_key asked) (is_like asked) setup.opened turns) live in
    let opener = opener_is setup.opened turns asked finds.place finds.moment true (legal_turned setup entries small legal).told (heard_from setup [] entries tt) finds.opened in
    let lawful : IsLawful (doings_of turns) = subst IsLawful (sym (turn_doings setup past)) (legal_stands setup entries small legal).stands.lawful in
    let waits = waits_for_run turns finds.place lawful opener finds.result in
    record {
      place = finds.place;
      moment = finds.moment;
      reference = waits.reference;
      opened = finds.opened;
      soon = subst (λ n. n < finds.moment + a_day) (turn_time setup past) finds.soon;
      waits = waits.waits;
      run = subst (λ (doings : List Doing). IsFlown doings waits.reference) (turn_doings setup past) waits.run;
    }
