-- Every move keeps what holds of a world.
use Rattle.std.proofs.Common.{◌≡◌, ℕ, suc, ◌+◌, ◌^◌, ◌<◌, ◌≤◌, ◌==◌, nat_le, cond, Bool, true, false, IsTrue, List, [], ◌∷◌, ◌++◌, length, take, drop, get_or, Option, Some, None, refl, sym, ap, ◌∙◌, subst, arith, Result, Ok, Err}
use Rattle.std.specs.Prelude.{OnOk, OnErr}
use Rattle.std.proofs.lemmas.Bool.{leb-true, ltb-true}
use Rattle.std.proofs.lemmas.List.{take_more, take-append-drop}
use Rattle.std.proofs.Math.Seq.{drop-cons}
use Rattle.ph_base.specs.declared.acquirer.Ruling.{Ruling}
use Rattle.ph_base.specs.declared.acquirer.Why.{Why}
use Rattle.ph_base.specs.declared.acquirer.Why.TheVariants as why
use Rattle.ph_attempts.specs.declared.flights.Flight.{Flight}
use Rattle.ph_bank.specs.declared.memory.Decision.{Decision}
use Rattle.ph_bank.specs.Scripts.{and_decision, ruling_of}
use Rattle.ph_doings.specs.Standings.{Live}
use Rattle.ph_doings.proofs.LawProofs.{live_is_run}
use Rattle.ph_http.specs.declared.message.Raw.{Raw}
use Rattle.ph_items.specs.Clocks.{clock_limit}
use Rattle.ph_book.specs.declared.acts.Deed.TheVariants as deed
use Rattle.ph_book.specs.declared.acts.Entry.{Entry}
use Rattle.ph_book.specs.declared.setup.Setup.{Setup}
use Rattle.ph_book.specs.Entries.{call_entry, finish_entry, park_entry, resume_entry, tick_entry}
use Rattle.ph_book.specs.History.{doings_of}
use Rattle.ph_book.specs.Laws.{all_but_run, runs_of}
use Rattle.ph_book.specs.Legal.{EndsOwn, is_full}
use Rattle.ph_book.specs.State.{BookState}
use Rattle.ph_book.specs.Tickets.{Holds}
use Rattle.ph_book.proofs.HistoryLemmas.{may_come}
use Rattle.ph_book.proofs.StepLemmas.{finish_room, park_room}
use Rattle.ph_world.specs.declared.ask.Ask.{Ask}
use Rattle.ph_world.specs.declared.moves.Move.{Move}
use Rattle.ph_world.specs.declared.moves.Move.TheVariants as move
use Rattle.ph_world.specs.declared.moves.WorldError.{WorldError}
use Rattle.ph_world.specs.declared.moves.WorldError.TheVariants as error
use Rattle.ph_world.specs.Flights.{AllInHand, flight_in, without}
use Rattle.ph_world.specs.Laws.{AllAreOrders, IsFit, IsLive, IsOrder, IsReached, doings_in}
use Rattle.ph_world.specs.Moves.{after_move, after_moves, is_caller, is_possible, is_refused, moved}
use Rattle.ph_world.specs.Playing.{NoneRefused, StopsAt}
use Rattle.ph_world.specs.Worlds.{WorldState, decided, enter, given_up, new_world, polled, ruled, with_ask, with_entry}
use Rattle.ph_world.proofs.EntryLemmas.{call_goes, finish_goes, lawful, park_goes, resume_goes, tick_goes}
use Rattle.ph_world.proofs.RisingLemmas.{one_goes}
use Rattle.ph_world.proofs.FlightLemmas.{found_run}
use Rattle.ph_world.proofs.WellLemmas.{IsWell, entry_well, flight_began, flight_flies, flight_held, flights_rise, new_well, tickets_in_hand}

-- ---- decisions

-- a decision stays where another comes behind
pub ruling_stays : (decisions : List Decision) (reference other : ℕ) (given more : Ruling) → ruling_of decisions reference ≡ Some given
    → ruling_of (decisions ++ record { reference = other; ruling = more } ∷ []) reference ≡ Some given
ruling_stays [] reference other given more is = absurd (cc)
ruling_stays (decision ∷ decisions) reference other given more is =
    at (decision.reference == reference) refl (ruling_stays decisions reference other given more)
  where
    at : (b : Bool) → (decision.reference == reference) ≡ b
        → (ruling_of decisions reference ≡ Some given → ruling_of (decisions ++ record { reference = other; ruling = more } ∷ []) reference ≡ Some given)
        → cond (decision.reference == reference) (Some decision.ruling) (ruling_of (decisions ++ record { reference = other; ruling = more } ∷ []) reference) ≡ Some given
    at true e rest =
        ap (λ b. cond b (Some decision.ruling) (ruling_of (decisions ++ record { reference = other; ruling = more } ∷ []) reference)) e
        ∙ ap (λ b. cond b (Some decision.ruling) (ruling_of decisions reference)) (sym e) ∙ is
    at false e rest =
        ap (λ b. cond b (Some decision.ruling) (ruling_of (decisions ++ record { reference = other; ruling = more } ∷ []) reference)) e
        ∙ rest (ap (λ b. cond b (Some decision.ruling) (ruling_of decisions reference)) (sym e) ∙ is)

pub decision_stays : (decisions : List Decision) (reference other : ℕ) (given more : Ruling) (had : Option Ruling) → ruling_of decisions reference ≡ Some given
    → ruling_of (and_decision had other more decisions) reference ≡ Some given
decision_stays decisions reference other given more None is = ruling_stays decisions reference other given more is
decision_stays decisions reference other given more (Some old) is = is

decided_well : (world : WorldState) (reference : ℕ) (ruling : Ruling) → IsWell world → IsWell (decided world reference ruling)
decided_well world reference ruling well = record {
  legal = record { history = well.legal.history; flights = well.legal.flights };
  began = well.began;
  asks = well.asks;
  rulings = λ other intent order given h.
      decision_stays world.decisions other reference given ruling (ruling_of world.decisions reference) (well.rulings other intent order given h);
}

-- ---- own runs

pub ends_park : (setup : Setup) (history : List Entry) (caller : ℕ) (ticket : Flight) (reason : Why) → Holds setup history caller ticket
    → EndsOwn (doings_of setup history) caller (deed.Park ticket.run reason)
unfolding Holds
ends_park setup history caller ticket reason holds = (ticket, holds)

ends_finish : (setup : Setup) (history : List Entry) (caller : ℕ) (ticket : Flight) (ruling : Ruling) → Holds setup history caller ticket
    → EndsOwn (doings_of setup history) caller (deed.Finish ticket.run ruling)
unfolding Holds
ends_finish setup history caller ticket ruling holds = (ticket, holds)

-- ---- asks

orders_push : (book : BookState) (asks : List Ask) (ask : Ask) → AllAreOrders book asks → IsOrder book ask → AllAreOrders book (asks ++ ask ∷ [])
orders_push book [] ask all last = (last, tt)
orders_push book (first ∷ asks) ask all last = (all.0, orders_push book asks ask all.1 last)

module _ (world : WorldState) (few : world.book.setup.entries < 2 ^ 32) (well : IsWell world) where
  -- the attempt of a flight is live
  pub flight_live : (run : ℕ) (flight : Flight) → flight_in world.flights run ≡ Some flight → IsLive (doings_in world.book) flight.order
  flight_live run flight is =
      let finds = (live_is_run (doings_in world.book) (lawful world.book.setup world.book.history few well.legal.history)).finds flight.run flight
      (flight_flies world few well run flight is) in
      record { intent = finds.intent; standing = finds.standing }

  ask_well : (run : ℕ) (flight : Flight) → flight_in world.flights run ≡ Some flight → IsWell (with_ask world flight)
  ask_well run flight is =
      let live = flight_live run flight is in
      record {
        legal = record { history = well.legal.history; flights = well.legal.flights };
        began = well.began;
        asks = orders_push world.book world.asks (record { run = flight.run; order = flight.order }) well.asks (record {
          run = (flight_began world few well run flight is).waits;
          attempt = record { intent = live.intent; state = Live; standing = live.standing };
        });
        rulings = well.rulings;
      }

  -- ---- the ends of runs

  -- the runs that are left
  left_are : (run : ℕ) (flight : Flight) → flight_in world.flights run ≡ Some flight
      → without flight.run world.flights ≡ all_but_run flight (runs_of world.book.setup world.book.history)
  left_are run flight is =
      let number : flight.run ≡ run = found_run world.flights run flight is in
      ap (λ n. without n world.flights) number
      ∙ one_goes run flight world.flights 0 (length (doings_in world.book)) (flights_rise world few well) is
      ∙ ap (all_but_run flight) well.legal.flights

  pub park_well : (run : ℕ) (reason : Why) (flight : Flight) → flight_in world.flights run ≡ Some flight → IsWell (with_entry world (park_entry flight.caller flight reason))
  park_well run reason flight is =
      let holds = flight_held world few well run flight is in
      entry_well world few well (park_entry flight.caller flight reason) (all_but_run flight (runs_of world.book.setup world.book.history))
      (may_come world.book.setup world.book.history flight.caller (deed.Park flight.run reason) (flight_began world few well run flight is).small tt
      (ends_park world.book.setup world.book.history flight.caller flight reason holds) (park_room world.book.setup world.book.history flight.run reason))
      (left_are run flight is)
      (park_goes world.book.setup world.book.history few well.legal.history world.decisions flight.caller flight reason holds)

  pub finish_well : (run : ℕ) (ruling : Ruling) (flight : Flight) → flight_in world.flights run ≡ Some flight
      → ruling_of world.decisions flight.order.reference ≡ Some ruling → IsWell (with_entry world (finish_entry flight.caller flight ruling))
  finish_well run ruling flight is decided =
      let holds = flight_held world few well run flight is in
      entry_well world few well (finish_entry flight.caller flight ruling) (all_but_run flight (runs_of world.book.setup world.book.history))
      (may_come world.book.setup world.book.history flight.caller (deed.Finish flight.run ruling) (flight_began world few well run flight is).small tt
      (ends_finish world.book.setup world.book.history flight.caller flight ruling holds) (finish_room world.book.setup world.book.history flight.run ruling))
      (left_are run flight is)
      (finish_goes world.book.setup world.book.history few well.legal.history world.decisions flight.caller flight ruling holds decided)

  given_up_well : (run : ℕ) (reason : Why) (found : Option Flight) → flight_in world.flights run ≡ found → IsWell (given_up world reason found)
  given_up_well run reason None is = well
  given_up_well run reason (Some flight) is = park_well run reason flight is

  -- ---- entries that end no run

  enter_well : (entry : Entry) → (is_full world.book.setup world.book.history entry.deed ≡ false → IsWell (with_entry world entry)) → IsWell (enter world entry)
  enter_well entry room = at (is_full world.book.setup world.book.history entry.deed) refl
    where
      at : (b : Bool) → is_full world.book.setup world.book.history entry.deed ≡ b
          → IsWell (cond (is_full world.book.setup world.book.history entry.deed) world (with_entry world entry))
      at true e = subst (λ b. IsWell (cond b world (with_entry world entry))) (sym e) well
      at false e = subst (λ b. IsWell (cond b world (with_entry world entry))) (sym e) (room e)

  call_well : (caller : ℕ) (raw : Raw) → caller < 2 ^ 62 → IsWell (enter world (call_entry caller raw))
  call_well caller raw small = enter_well (call_entry caller raw) (λ room.
      entry_well world few well (call_entry caller raw) (runs_of world.book.setup world.book.history)
      (may_come world.book.setup world.book.history caller (deed.Call raw) small tt tt room) well.legal.flights
      (call_goes world.book.setup world.book.history few well.legal.history world.decisions caller raw))

  resume_well : (caller : ℕ) → caller < 2 ^ 62 → IsWell (enter world (resume_entry caller))
  resume_well caller small = enter_well (resume_entry caller) (λ room.
      entry_well world few well (resume_entry caller) (runs_of world.book.setup world.book.history)
      (may_come world.book.setup world.book.history caller deed.Resume small tt tt room) well.legal.flights
      (resume_goes world.book.setup world.book.history few well.legal.history world.decisions caller))

  tick_well : (moment : ℕ) → moment ≤ clock_limit → IsWell (enter world (tick_entry 0 moment))
  tick_well moment shown = enter_well (tick_entry 0 moment) (λ room.
      entry_well world few well (tick_entry 0 moment) (runs_of world.book.setup world.book.history)
      (may_come world.book.setup world.book.history 0 (deed.Tick moment) (omega arith) shown tt room) well.legal.flights
      (tick_goes world.book.setup world.book.history few well.legal.history world.decisions 0 moment))

-- ---- polls

-- a flight that was asked of, where its ruling is this
ruled_well : (world : WorldState) → world.book.setup.entries < 2 ^ 32 → (run : ℕ) (flight : Flight) (found : Option Ruling) → IsWell world
    → flight_in world.flights run ≡ Some flight → ruling_of world.decisions flight.order.reference ≡ found → IsWell (ruled world flight found)
ruled_well world few run flight None well is decided = well
ruled_well world few run flight (Some ruling) well is decided = finish_well world few well run ruling flight is decided

polled_well : (world : WorldState) → world.book.setup.entries < 2 ^ 32 → (run : ℕ) (found : Option Flight) → IsWell world
    → flight_in world.flights run ≡ found → IsWell (polled world found)
polled_well world few run None well is = well
polled_well world few run (Some flight) well is =
    ruled_well (with_ask world flight) few run flight (ruling_of world.decisions flight.order.reference) (ask_well world few well run flight is) is refl

-- ---- moves

pub caller_small : (caller : ℕ) → is_caller caller ≡ true → caller < 2 ^ 62
caller_small caller is = ltb-true caller (2 ^ 62) is

pub moment_shown : (moment : ℕ) → nat_le moment clock_limit ≡ true → moment ≤ clock_limit
moment_shown moment is = leb-true moment clock_limit is

moved_well : (world : WorldState) (m : Move) → world.book.setup.entries < 2 ^ 32 → IsWell world → is_possible m ≡ true → IsWell (moved world m)
moved_well world (move.Arrive caller raw) few well possible = call_well world few well caller raw (caller_small caller possible)
moved_well world (move.Poll run) few well possible = polled_well world few run (flight_in world.flights run) well refl
moved_well world (move.Drop run) few well possible = given_up_well world few well run why.Pending (flight_in world.flights run) refl
moved_well world (move.Fail run) few well possible = given_up_well world few well run why.Failed (flight_in world.flights run) refl
moved_well world (move.Decide reference ruling) few well possible = decided_well world reference ruling well
moved_well world (move.Clock now) few well possible = tick_well world few well now (moment_shown now possible)
moved_well world (move.Resume caller) few well possible = resume_well world few well caller (caller_small caller possible)

pub move_well : (world : WorldState) (m : Move) → world.book.setup.entries < 2 ^ 32 → IsWell world → IsWell (after_move world m)
move_well world m few well = at (is_possible m) refl
  where
    at : (b : Bool) → is_possible m ≡ b → IsWell (cond (is_possible m) (moved world m) world)
    at true e = subst (λ b. IsWell (cond b (moved world m) world)) (sym e) (moved_well world m few well e)
    at false e = subst (λ b. IsWell (cond b (moved world m) world)) (sym e) well

-- no move changes the setup
ruled_setup : (world : WorldState) (flight : Flight) (found : Option Ruling) → (ruled world flight found).book.setup ≡ world.book.setup
ruled_setup world flight None = refl
ruled_setup world flight (Some ruling) = refl

polled_setup : (world : WorldState) (found : Option Flight) → (polled world found).book.setup ≡ world.book.setup
polled_setup world None = refl
polled_setup world (Some flight) = ruled_setup (with_ask world flight) flight (ruling_of world.decisions flight.order.reference)

given_up_setup : (world : WorldState) (reason : Why) (found : Option Flight) → (given_up world reason found).book.setup ≡ world.book.setup
given_up_setup world reason None = refl
given_up_setup world reason (Some flight) = refl

either_setup : (b : Bool) (world other : WorldState) (setup : Setup) → world.book.setup ≡ setup → other.book.setup ≡ setup
    → (cond b world other).book.setup ≡ setup
either_setup true world other setup one two = one
either_setup false world other setup one two = two

enter_setup : (world : WorldState) (entry : Entry) → (enter world entry).book.setup ≡ world.book.setup
enter_setup world entry = either_setup (is_full world.book.setup world.book.history entry.deed) world (with_entry world entry) world.book.setup refl refl

moved_setup : (world : WorldState) (m : Move) → (moved world m).book.setup ≡ world.book.setup
moved_setup world (move.Arrive caller raw) = enter_setup world (call_entry caller raw)
moved_setup world (move.Poll run) = polled_setup world (flight_in world.flights run)
moved_setup world (move.Drop run) = given_up_setup world why.Pending (flight_in world.flights run)
moved_setup world (move.Fail run) = given_up_setup world why.Failed (flight_in world.flights run)
moved_setup world (move.Decide reference ruling) = refl
moved_setup world (move.Clock now) = enter_setup world (tick_entry 0 now)
moved_setup world (move.Resume caller) = enter_setup world (resume_entry caller)

pub move_setup : (world : WorldState) (m : Move) → (after_move world m).book.setup ≡ world.book.setup
move_setup world m = either_setup (is_possible m) (moved world m) world world.book.setup (moved_setup world m) refl

-- ---- lists of moves

-- what holds, with a setup with which a book may be made
pub record IsSound (world : WorldState) : Type 0 where
  pub fit : IsFit world.book.setup
  pub well : IsWell world

pub move_sound : (world : WorldState) (m : Move) → IsSound world → IsSound (after_move world m)
move_sound world m holds = record {
  fit = subst IsFit (sym (move_setup world m)) holds.fit;
  well = move_well world m holds.fit.few holds.well;
}

pub moves_sound : (world : WorldState) (moves : List Move) → IsSound world → IsSound (after_moves world moves)
moves_sound world [] holds = holds
moves_sound world (m ∷ moves) holds = moves_sound (after_move world m) moves (move_sound world m holds)

pub new_sound : (setup : Setup) → IsFit setup → IsSound (new_world setup)
new_sound setup fit = record { fit = fit; well = new_well setup fit }

pub all_sound : (setup : Setup) (moves : List Move) → IsFit setup → IsSound (after_moves (new_world setup) moves)
all_sound setup moves fit = moves_sound (new_world setup) moves (new_sound setup fit)

-- ---- what moves lead to

pub reached_sound : (world : WorldState) → IsReached world → IsSound world
reached_sound world reached = subst IsSound (sym reached.led) (all_sound world.book.setup reached.moves reached.fit)

pub reached_new : (setup : Setup) → IsFit setup → IsReached (new_world setup)
reached_new setup fit = record { fit = fit; moves = []; led = refl }

pub one_more : (world : WorldState) (moves : List Move) (m : Move) → after_moves world (moves ++ m ∷ []) ≡ after_move (after_moves world moves) m
one_more world [] m = refl
one_more world (first ∷ moves) m = one_more (after_move world first) moves m

pub reached_after : (world : WorldState) (m : Move) → IsReached world → IsReached (after_move world m)
reached_after world m reached =
    let setup : (after_move world m).book.setup ≡ world.book.setup = move_setup world m in
    record {
      fit = subst IsFit (sym setup) reached.fit;
      moves = reached.moves ++ m ∷ [];
      led = ap (λ (w : WorldState). after_move w m) reached.led
          ∙ sym (one_more (new_world world.book.setup) reached.moves m)
          ∙ ap (λ (s : Setup). after_moves (new_world s) (reached.moves ++ m ∷ [])) (sym setup);
    }

-- the tickets of a world that moves lead to are in hand
pub reached_in_hand : (world : WorldState) → IsReached world → AllInHand world.book world.flights
reached_in_hand world reached =
    let holds = reached_sound world reached in tickets_in_hand world holds.fit.few holds.well

-- so it is after a step, whatever it answers
pub reached_step : {X E : Type 0} (result : Result X E) (old new : WorldState) (m : Move) → IsReached old
    → OnOk result (new ≡ after_move old m) → OnErr result (new ≡ old) → IsReached new
reached_step (Ok x) old new m reached ok err = subst IsReached (sym ok) (reached_after old m reached)
reached_step (Err x) old new m reached ok err = subst IsReached (sym err) reached

-- ---- lists that are played

-- a move more
pub plays_on : (old : WorldState) (moves : List Move) (at : ℕ) (m : Move) (before after : WorldState) → at < length moves → m ≡ get_or moves at m
    → before ≡ after_moves old (take at moves) → after ≡ after_move before m → after ≡ after_moves old (take (at + 1) moves)
plays_on old moves at m before after within here led is =
    is ∙ ap (λ (w : WorldState). after_move w m) led ∙ sym (one_more old (take at moves) m)
    ∙ ap (λ (next : Move). after_moves old (take at moves ++ next ∷ [])) here
    ∙ ap (after_moves old) (sym (take_more moves at m within))

none_push : (world : WorldState) (moves : List Move) (m : Move) → NoneRefused world moves
    → is_refused (after_moves world moves).book m ≡ false → NoneRefused world (moves ++ m ∷ [])
none_push world [] m none last = (last, tt)
none_push world (first ∷ moves) m none last = (none.0, none_push (after_move world first) moves m none.1 last)

pub none_more : (old : WorldState) (moves : List Move) (at : ℕ) (m : Move) (before : WorldState) → at < length moves → m ≡ get_or moves at m
    → before ≡ after_moves old (take at moves) → NoneRefused old (take at moves) → is_refused before.book m ≡ false
    → NoneRefused old (take (at + 1) moves)
none_more old moves at m before within here led none room =
    subst (NoneRefused old) (ap (λ (next : Move). take at moves ++ next ∷ []) here ∙ sym (take_more moves at m within))
    (none_push old (take at moves) m none (subst (λ (w : WorldState). is_refused w.book m ≡ false) led room))

-- a move that is refused
pub stops_at : (old : WorldState) (moves : List Move) (at : ℕ) (m : Move) (before after : WorldState) (why : WorldError)
    → at < length moves → m ≡ get_or moves at m → before ≡ after_moves old (take at moves) → NoneRefused old (take at moves) → after ≡ before
    → (why ≡ error.Full → IsTrue (is_refused before.book m)) → StopsAt old moves after why
stops_at old moves at m before after why within here led none same full = record {
  played = take at moves;
  refused = m;
  left = drop (suc at) moves;
  moves_are = sym (take-append-drop at moves)
      ∙ ap (λ (rest : List Move). take at moves ++ rest)
      (drop-cons moves at m within ∙ ap (λ (next : Move). next ∷ drop (suc at) moves) (sym here));
  room = none;
  stands = same ∙ led;
  full = λ is. subst (λ (w : WorldState). IsTrue (is_refused w.book m)) (sym same) (full is);
}
