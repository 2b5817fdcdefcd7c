-- The laws of every list of moves.
use Rattle.std.proofs.Common.{◌≡◌, ℕ, ◌+◌, ◌≤◌, ◌==◌, ◌&&◌, ◌⊎◌, cond, Bool, true, false, List, [], ◌∷◌, ◌++◌, length, Option, Some, None, refl, sym, ap, ◌∙◌, subst, inl, inr, length-append, arith}
use Rattle.std.specs.Prelude.{count_by}
use Rattle.std.specs.List.{list_all}
use Rattle.std.proofs.lemmas.Bool.{eq-eqb}
use Rattle.std.proofs.lemmas.Bool.Decides.{nat_tests}
use Rattle.std.proofs.lemmas.List.Sums.{fold-append, sum_by-cons}
use Rattle.ph_base.specs.declared.acquirer.Ruling.{Ruling}
use Rattle.ph_base.specs.declared.acquirer.Ruling.TheVariants as ruling
use Rattle.ph_base.specs.declared.acquirer.Why.{Why}
use Rattle.ph_base.specs.declared.acquirer.Why.TheVariants as why
use Rattle.ph_attempts.specs.declared.flights.Flight.{Flight}
use Rattle.ph_bank.specs.Scripts.{ruling_of}
use Rattle.ph_doings.specs.Confirmations.{all_but_first, attempts_of_confirmation}
use Rattle.ph_doings.specs.Standings.{Live, Parked, Settled, Standing, NotBegun, Stands, is_challenged, standing_of}
use Rattle.ph_doings.proofs.LawProofs.{all_but_the_last_were_challenged}
use Rattle.ph_http.specs.declared.message.Reply.{Reply}
use Rattle.ph_book.specs.declared.acts.Entry.{Entry}
use Rattle.ph_book.specs.declared.setup.Setup.{Setup}
use Rattle.ph_book.specs.Entries.{call_entry, finish_entry, park_entry, resume_entry, tick_entry}
use Rattle.ph_book.specs.History.{Happening, effect_to, happening_of, past_of, said_to, saids_after}
use Rattle.ph_book.specs.Legal.{is_full}
use Rattle.ph_book.specs.Replies.{Said, Replies, Waits, Silence}
use Rattle.ph_book.specs.State.{BookState, entered}
use Rattle.ph_book.proofs.HistoryLemmas.{past_more}
use Rattle.ph_world.specs.declared.moves.Move.{Move}
use Rattle.ph_world.specs.declared.moves.Move.TheVariants as move
use Rattle.ph_world.specs.Flights.{and_entry, flight_in, reply_in, reply_to, said_behind}
use Rattle.ph_world.specs.Laws.{AsksAreOrders, AsksLive, AsksOfLiveAttempts, AuthorisedOnce, DecisionsStay, Everywhere, IsLastReply, IsLegalWorld, RepliesAreAnswers, RulingsAreDecisions, doings_in, is_approval, is_asked, is_authorised}
use Rattle.ph_world.specs.Moves.{after_move, after_moves, is_possible, last_said, moved, newest, replied}
use Rattle.ph_world.specs.Worlds.{WorldState, enter, given_up, new_world, polled, ruled, with_ask, with_entry}
use Rattle.ph_world.proofs.EntryLemmas.{lawful}
use Rattle.ph_world.proofs.MoveLemmas.{IsSound, all_sound, decision_stays, flight_live}

-- ---- confirmations

and_false : (b : Bool) → (b && false) ≡ false
and_false true = refl
and_false false = refl

-- an attempt that was challenged isn't authorised
not_authorised : (world : WorldState) (reference : ℕ) (standing : Standing) → RulingsAreDecisions world
    → standing_of (doings_in world.book) reference ≡ standing → is_challenged standing ≡ true → is_authorised world reference ≡ false
not_authorised world reference NotBegun are is challenged = absurd (cc)
not_authorised world reference (Stands intent order Live) are is challenged = absurd (cc)
not_authorised world reference (Stands intent order Parked) are is challenged = absurd (cc)
not_authorised world reference (Stands intent order (Settled ruling.Approved)) are is challenged = absurd (cc)
not_authorised world reference (Stands intent order (Settled (ruling.Declined decline))) are is challenged = absurd (cc)
not_authorised world reference (Stands intent order (Settled ruling.Challenge)) are is challenged =
    ap (λ found. is_asked world.asks reference && is_approval found) (are reference intent order ruling.Challenge is)
    ∙ and_false (is_asked world.asks reference)

and_left : (a b : Bool) → (a && b) ≡ true → a ≡ true
and_left true b e = refl
and_left false b e = e

and_right : (a b : Bool) → (a && b) ≡ true → b ≡ true
and_right true b e = e
and_right false b e = absurd (cc)

counted : (world : WorldState) (reference : ℕ) (references : List ℕ)
    → count_by (is_authorised world) (reference ∷ references) ≡ cond (is_authorised world reference) 1 0 + count_by (is_authorised world) references
counted world reference references = sum_by-cons (λ r. cond (is_authorised world r) 1 0) reference references

none_counted : (world : WorldState) (references : List ℕ) → RulingsAreDecisions world
    → list_all (λ reference. is_challenged (standing_of (doings_in world.book) reference)) references ≡ true
    → count_by (is_authorised world) references ≡ 0
none_counted world [] are all = refl
none_counted world (reference ∷ references) are all =
    let test : ℕ → Bool = λ r. is_challenged (standing_of (doings_in world.book) r) in
    let here : is_authorised world reference ≡ false =
    not_authorised world reference (standing_of (doings_in world.book) reference) are refl (and_left (test reference) (list_all test references) all) in
    let rest : count_by (is_authorised world) references ≡ 0 = none_counted world references are (and_right (test reference) (list_all test references) all) in
    let none : ◌≡◌ {A = ℕ} (cond (is_authorised world reference) 1 0) 0 = ap (λ (b : Bool). cond b 1 0) here in
    let all_of = counted world reference references in
    omega (arith, all_of, none, rest)

at_most_one : (b : Bool) → cond b 1 0 ≤ 1
at_most_one true = omega arith
at_most_one false = omega arith

once : (world : WorldState) (references : List ℕ) → RulingsAreDecisions world
    → list_all (λ reference. is_challenged (standing_of (doings_in world.book) reference)) (all_but_first references) ≡ true
    → count_by (is_authorised world) references ≤ 1
once world [] are all = omega arith
once world (reference ∷ references) are all =
    let rest : count_by (is_authorised world) references ≡ 0 = none_counted world references are all in
    let one : cond (is_authorised world reference) 1 0 ≤ 1 = at_most_one (is_authorised world reference) in
    let all_of = counted world reference references in
    omega (arith, all_of, one, rest)

once_of : (world : WorldState) → IsSound world → AuthorisedOnce world
once_of world holds confirmation =
    once world (attempts_of_confirmation (doings_in world.book) confirmation) holds.well.rulings
    (all_but_the_last_were_challenged (doings_in world.book)
    (lawful world.book.setup world.book.history holds.fit.few holds.well.legal.history) confirmation)

-- ---- asks

-- a world with these asks, after a move
abbrev AsksStep : WorldState → WorldState → Type 0
AsksStep old new = (new.asks ≡ old.asks) ⊎ AsksLive old new

same_asks : (b : Bool) (world other old : WorldState) → AsksStep old world → AsksStep old other → AsksStep old (cond b world other)
same_asks true world other old one two = one
same_asks false world other old one two = two

enter_asks : (world : WorldState) (entry : Entry) → AsksStep world (enter world entry)
enter_asks world entry = same_asks (is_full world.book.setup world.book.history entry.deed) world (with_entry world entry) world (inl refl) (inl refl)

ruled_asks : (world : WorldState) (flight : Flight) (found : Option Ruling) → (ruled world flight found).asks ≡ world.asks
ruled_asks world flight None = refl
ruled_asks world flight (Some ruling) = refl

given_up_asks : (world : WorldState) (reason : Why) (found : Option Flight) → (given_up world reason found).asks ≡ world.asks
given_up_asks world reason None = refl
given_up_asks world reason (Some flight) = refl

polled_asks : (world : WorldState) (run : ℕ) (found : Option Flight) → IsSound world → flight_in world.flights run ≡ found → AsksStep world (polled world found)
polled_asks world run None holds is = inl refl
polled_asks world run (Some flight) holds is = inr (record {
  ask = record { run = flight.run; order = flight.order };
  more = ruled_asks (with_ask world flight) flight (ruling_of world.decisions flight.order.reference);
  live = flight_live world holds.fit.few holds.well run flight is;
})

moved_asks : (world : WorldState) (m : Move) → IsSound world → AsksStep world (moved world m)
moved_asks world (move.Arrive caller raw) holds = enter_asks world (call_entry caller raw)
moved_asks world (move.Poll run) holds = polled_asks world run (flight_in world.flights run) holds refl
moved_asks world (move.Drop run) holds = inl (given_up_asks world why.Pending (flight_in world.flights run))
moved_asks world (move.Fail run) holds = inl (given_up_asks world why.Failed (flight_in world.flights run))
moved_asks world (move.Decide reference ruling) holds = inl refl
moved_asks world (move.Clock now) holds = enter_asks world (tick_entry 0 now)
moved_asks world (move.Resume caller) holds = enter_asks world (resume_entry caller)

pub move_asks : (world : WorldState) → IsSound world → AsksOfLiveAttempts world
move_asks world holds m = same_asks (is_possible m) (moved world m) world world (moved_asks world m holds) (inl refl)

-- ---- decisions

ruled_decisions : (world : WorldState) (flight : Flight) (found : Option Ruling) → (ruled world flight found).decisions ≡ world.decisions
ruled_decisions world flight None = refl
ruled_decisions world flight (Some ruling) = refl

polled_decisions : (world : WorldState) (found : Option Flight) → (polled world found).decisions ≡ world.decisions
polled_decisions world None = refl
polled_decisions world (Some flight) = ruled_decisions (with_ask world flight) flight (ruling_of world.decisions flight.order.reference)

given_up_decisions : (world : WorldState) (reason : Why) (found : Option Flight) → (given_up world reason found).decisions ≡ world.decisions
given_up_decisions world reason None = refl
given_up_decisions world reason (Some flight) = refl

either_decisions : (b : Bool) (world other old : WorldState) → world.decisions ≡ old.decisions → other.decisions ≡ old.decisions
    → (cond b world other).decisions ≡ old.decisions
either_decisions true world other old one two = one
either_decisions false world other old one two = two

enter_decisions : (world : WorldState) (entry : Entry) → (enter world entry).decisions ≡ world.decisions
enter_decisions world entry = either_decisions (is_full world.book.setup world.book.history entry.deed) world (with_entry world entry) world refl refl

moved_stay : (world : WorldState) (m : Move) (reference : ℕ) (given : Ruling) → ruling_of world.decisions reference ≡ Some given
    → ruling_of (moved world m).decisions reference ≡ Some given
moved_stay world (move.Arrive caller raw) reference given is = ap (λ ds. ruling_of ds reference) (enter_decisions world (call_entry caller raw)) ∙ is
moved_stay world (move.Poll run) reference given is = ap (λ ds. ruling_of ds reference) (polled_decisions world (flight_in world.flights run)) ∙ is
moved_stay world (move.Drop run) reference given is = ap (λ ds. ruling_of ds reference) (given_up_decisions world why.Pending (flight_in world.flights run)) ∙ is
moved_stay world (move.Fail run) reference given is = ap (λ ds. ruling_of ds reference) (given_up_decisions world why.Failed (flight_in world.flights run)) ∙ is
moved_stay world (move.Decide other ruling) reference given is = decision_stays world.decisions reference other given ruling (ruling_of world.decisions other) is
moved_stay world (move.Clock now) reference given is = ap (λ ds. ruling_of ds reference) (enter_decisions world (tick_entry 0 now)) ∙ is
moved_stay world (move.Resume caller) reference given is = ap (λ ds. ruling_of ds reference) (enter_decisions world (resume_entry caller)) ∙ is

either_stay : (b : Bool) (world other : WorldState) (reference : ℕ) (given : Ruling) → ruling_of world.decisions reference ≡ Some given
    → ruling_of other.decisions reference ≡ Some given → ruling_of (cond b world other).decisions reference ≡ Some given
either_stay true world other reference given one two = one
either_stay false world other reference given one two = two

pub decisions_stay : DecisionsStay
decisions_stay world m reference given is = either_stay (is_possible m) (moved world m) world reference given (moved_stay world m reference given is) is

-- ---- replies

-- what is said to an entry is what was said last behind it
last_entry : (setup : Setup) (history : List Entry) (entry : Entry) → last_said setup (history ++ entry ∷ []) ≡ said_to setup history entry
unfolding last_said effect_to
last_entry setup history entry =
    ap (λ (past : List Happening). newest (saids_after past)) (past_more setup history entry)
    ∙ ap newest (fold-append (λ (all : List Said) (x : Happening). x.said ∷ all) [] (past_of setup history)
    (happening_of setup (past_of setup history) entry ∷ []))

-- the reply to an entry, and to none
pub replied_entry : (book : BookState) (entry : Entry) → replied book (entered book entry) ≡ reply_in (said_behind book entry)
replied_entry book entry =
    let longer : length (book.history ++ entry ∷ []) ≡ length book.history + 1 = length-append book.history (entry ∷ []) in
    let apart : (length (book.history ++ entry ∷ []) == length book.history) ≡ false = grind (arith, nat_tests, longer) in
    ap (λ b. cond b None (reply_in (last_said book.setup (book.history ++ entry ∷ [])))) apart
    ∙ ap reply_in (last_entry book.setup book.history entry)

pub replied_same : (book : BookState) → replied book book ≡ None
replied_same book =
    ap (λ b. cond b None (reply_in (last_said book.setup book.history))) (eq-eqb (length book.history) (length book.history) refl)

pub replied_end : (book : BookState) (entry : Option Entry) → replied book (and_entry book entry) ≡ reply_to book entry
replied_end book None = replied_same book
replied_end book (Some entry) = replied_entry book entry

-- a move adds one entry, or none
abbrev pub BookStep : BookState → BookState → Type 0
BookStep old new = (new ≡ old) ⊎ ((entry : Entry) × (new ≡ entered old entry))

either_book : (b : Bool) (world other : WorldState) (old : BookState) → BookStep old world.book → BookStep old other.book → BookStep old (cond b world other).book
either_book true world other old one two = one
either_book false world other old one two = two

enter_book : (world : WorldState) (entry : Entry) → BookStep world.book (enter world entry).book
enter_book world entry = either_book (is_full world.book.setup world.book.history entry.deed) world (with_entry world entry) world.book (inl refl) (inr (entry, refl))

ruled_book : (world : WorldState) (flight : Flight) (found : Option Ruling) → BookStep world.book (ruled world flight found).book
ruled_book world flight None = inl refl
ruled_book world flight (Some ruling) = inr (finish_entry flight.caller flight ruling, refl)

polled_book : (world : WorldState) (found : Option Flight) → BookStep world.book (polled world found).book
polled_book world None = inl refl
polled_book world (Some flight) = ruled_book (with_ask world flight) flight (ruling_of world.decisions flight.order.reference)

given_up_book : (world : WorldState) (reason : Why) (found : Option Flight) → BookStep world.book (given_up world reason found).book
given_up_book world reason None = inl refl
given_up_book world reason (Some flight) = inr (park_entry flight.caller flight reason, refl)

moved_book : (world : WorldState) (m : Move) → BookStep world.book (moved world m).book
moved_book world (move.Arrive caller raw) = enter_book world (call_entry caller raw)
moved_book world (move.Poll run) = polled_book world (flight_in world.flights run)
moved_book world (move.Drop run) = given_up_book world why.Pending (flight_in world.flights run)
moved_book world (move.Fail run) = given_up_book world why.Failed (flight_in world.flights run)
moved_book world (move.Decide reference ruling) = inl refl
moved_book world (move.Clock now) = enter_book world (tick_entry 0 now)
moved_book world (move.Resume caller) = enter_book world (resume_entry caller)

pub move_book : (world : WorldState) (m : Move) → BookStep world.book (after_move world m).book
move_book world m = either_book (is_possible m) (moved world m) world world.book (moved_book world m) (inl refl)

said_is : (said : Said) (reply : Reply) → reply_in said ≡ Some reply → said ≡ Replies reply
said_is (Replies given) reply is = let same : given ≡ reply = cc in ap Replies same
said_is (Waits order) reply is = absurd (cc)
said_is Silence reply is = absurd (cc)

last_is : (old new : BookState) (reply : Reply) → BookStep old new → replied old new ≡ Some reply → IsLastReply new reply
last_is old new reply (inl same) is =
    let clash : None ≡ Some reply = sym (replied_same old) ∙ ap (replied old) (sym same) ∙ is in
    absurd (cc)
last_is old new reply (inr more) is =
    subst (λ (book : BookState). IsLastReply book reply) (sym more.1) (record {
      before = old.history;
      entry = more.0;
      stands = refl;
      said = said_is (said_behind old more.0) reply (sym (replied_entry old more.0) ∙ ap (replied old) (sym more.1) ∙ is);
    })

replies_of_moves : (world : WorldState) → RepliesAreAnswers world
replies_of_moves world m reply is = last_is world.book (after_move world m).book reply (move_book world m) is

-- ---- everywhere

pub legal : Everywhere IsLegalWorld
legal setup fit moves = (all_sound setup moves fit).well.legal

pub asks_are_orders : Everywhere AsksAreOrders
asks_are_orders setup fit moves = (all_sound setup moves fit).well.asks

pub asks_are_of_live_attempts : Everywhere AsksOfLiveAttempts
asks_are_of_live_attempts setup fit moves = move_asks (after_moves (new_world setup) moves) (all_sound setup moves fit)

pub rulings_are_decisions : Everywhere RulingsAreDecisions
rulings_are_decisions setup fit moves = (all_sound setup moves fit).well.rulings

pub authorised_once : Everywhere AuthorisedOnce
authorised_once setup fit moves = once_of (after_moves (new_world setup) moves) (all_sound setup moves fit)

pub replies_are_answers : Everywhere RepliesAreAnswers
replies_are_answers setup fit moves = replies_of_moves (after_moves (new_world setup) moves)
