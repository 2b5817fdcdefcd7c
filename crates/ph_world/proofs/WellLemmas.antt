-- What every world keeps that moves lead to, and that one entry more keeps it.
use Rattle.std.proofs.Common.{◌≡◌, ℕ, ◌+◌, ◌^◌, ◌<◌, List, [], ◌∷◌, ◌++◌, length, Option, Some, None, refl, sym, ap, ◌∙◌, subst}
use Rattle.std.proofs.lemmas.List.{append_assoc}
use Rattle.ph_attempts.specs.declared.flights.Flight.{Flight}
use Rattle.ph_doings.specs.Doings.{Doing}
use Rattle.ph_doings.specs.Lawful.{MayDo}
use Rattle.ph_doings.specs.Runs.{Flies, live_run}
use Rattle.ph_doings.proofs.LawProofs.{live_is_run}
use Rattle.ph_items.specs.declared.orders.Order.{Order}
use Rattle.ph_book.specs.declared.acts.Entry.{Entry}
use Rattle.ph_book.specs.declared.setup.Setup.{Setup}
use Rattle.ph_book.specs.History.{doings_of, effect_to, past_of}
use Rattle.ph_book.specs.Laws.{ended_in}
use Rattle.ph_book.specs.Legal.{IsAllowed}
use Rattle.ph_book.specs.Replies.{Said, Replies, Waits, Silence}
use Rattle.ph_book.specs.State.{BookState, entered}
use Rattle.ph_book.specs.Tickets.{Holds}
use Rattle.ph_book.proofs.HistoryLemmas.{doings_grow, legal_more}
use Rattle.ph_book.proofs.RunLemmas.{run_held}
use Rattle.ph_world.specs.declared.ask.Ask.{Ask}
use Rattle.ph_world.specs.Flights.{AllInHand, InHand, flight_in, said_behind}
use Rattle.ph_world.specs.Laws.{AllAreOrders, HasBegun, IsFit, IsLegalWorld, IsOrder, RulingsAreDecisions, WaitsAt, doings_in}
use Rattle.ph_world.specs.Worlds.{WorldState, new_world, with_begun, with_entry, without_ended}
use Rattle.ph_world.proofs.DoingLemmas.{AreDecided, begun_stays, decided_stays}
use Rattle.ph_world.proofs.EntryLemmas.{Goes, lawful, may_do}
use Rattle.ph_world.proofs.FlightLemmas.{AllAre, all_found, all_push, all_still, all_without, in_hand_all}
use Rattle.ph_world.proofs.RisingLemmas.{FliesIn, RiseWithin, live_fly, live_rise}

-- ---- what waits

-- the run of a flight began: the entry of its place waits for its order, and its caller is one that a history may have
pub record Began (book : BookState) (flight : Flight) : Type 0 where
  pub waits : WaitsAt book flight.run flight.order
  pub small : flight.caller < 2 ^ 62

-- what waited still did
waits_more : (book : BookState) (entry : Entry) (place : ℕ) (order : Order) → WaitsAt book place order → WaitsAt (entered book entry) place order
waits_more book entry place order waits = record {
  before = waits.before;
  entry = waits.entry;
  later = waits.later ++ entry ∷ [];
  stands = ap (λ (history : List Entry). history ++ entry ∷ []) waits.stands ∙ append_assoc waits.before (waits.entry ∷ waits.later) (entry ∷ []);
  place_is = waits.place_is;
  waits = waits.waits;
}

began_more : (book : BookState) (entry : Entry) (flight : Flight) → Began book flight → Began (entered book entry) flight
began_more book entry flight began = record { waits = waits_more book entry flight.run flight.order began.waits; small = began.small }

-- so do those whose runs are in flight after an entry
began_behind : (book : BookState) (entry : Entry) (flights : List Flight) (said : Said) → said_behind book entry ≡ said → entry.caller < 2 ^ 62
    → AllAre (Began (entered book entry)) flights → AllAre (Began (entered book entry)) (with_begun entry.caller (length book.history + 1) said flights)
began_behind book entry flights (Replies reply) is small all = all
began_behind book entry flights (Waits order) is small all =
    all_push (Began (entered book entry)) flights (record { caller = entry.caller; run = length book.history + 1; order = order }) all (record {
      waits = record { before = book.history; entry = entry; later = []; stands = refl; place_is = refl; waits = is };
      small = small;
    })
began_behind book entry flights Silence is small all = all

began_left : (book : BookState) (ends : Option ℕ) (flights : List Flight) → AllAre (Began book) flights → AllAre (Began book) (without_ended ends flights)
began_left book None flights all = all
began_left book (Some run) flights all = all_without (Began book) flights run all

-- ---- a world

-- its history is legal, the runs in flight are the live ones and began by entries, asks are orders, and rulings are decisions
pub record IsWell (world : WorldState) : Type 0 where
  pub legal : IsLegalWorld world
  pub began : AllAre (Began world.book) world.flights
  pub asks : AllAreOrders world.book world.asks
  pub rulings : RulingsAreDecisions world

pub new_well : (setup : Setup) → IsFit setup → IsWell (new_world setup)
unfolding doings_of
new_well setup fit = record {
  legal = record { history = record { opened = fit.opened; allowed = tt }; flights = refl };
  began = tt;
  asks = tt;
  rulings = λ reference intent order given h. absurd (cc);
}

-- ---- one entry more

order_more : (book : BookState) (entry : Entry) (ask : Ask) → MayDo (doings_in book) (effect_to book.setup book.history entry).doing
    → IsOrder book ask → IsOrder (entered book entry) ask
order_more book entry ask may is = record {
  run = waits_more book entry ask.run ask.order is.run;
  attempt = subst (λ (past : List Doing). HasBegun past ask.order) (sym (doings_grow book.setup book.history entry))
      (begun_stays (doings_in book) (effect_to book.setup book.history entry).doing ask.order may is.attempt);
}

orders_more : (book : BookState) (entry : Entry) (asks : List Ask) → MayDo (doings_in book) (effect_to book.setup book.history entry).doing
    → AllAreOrders book asks → AllAreOrders (entered book entry) asks
orders_more book entry [] may all = tt
orders_more book entry (ask ∷ asks) may all = (order_more book entry ask may all.0, orders_more book entry asks may all.1)

module _ (world : WorldState) (few : world.book.setup.entries < 2 ^ 32) (well : IsWell world) where
  -- an entry that may come, whose end leaves these runs
  pub entry_well : (entry : Entry) (left : List Flight) → IsAllowed world.book.setup (past_of world.book.setup world.book.history) entry
      → without_ended (ended_in entry.deed) world.flights ≡ left
      → Goes world.book.setup world.book.history world.decisions entry left → IsWell (with_entry world entry)
  entry_well entry left allowed ends goes =
      let may = may_do world.book.setup world.book.history few well.legal.history entry allowed in
      record {
        legal = record {
          history = legal_more world.book.setup world.book.history entry well.legal.history allowed;
          flights = ap (with_begun entry.caller (length world.book.history + 1) (said_behind world.book entry)) ends ∙ sym goes.runs;
        };
        began = began_behind world.book entry (without_ended (ended_in entry.deed) world.flights) (said_behind world.book entry) refl allowed.caller
            (all_still (Began world.book) (Began (entered world.book entry)) (λ flight began. began_more world.book entry flight began)
            (without_ended (ended_in entry.deed) world.flights) (began_left world.book (ended_in entry.deed) world.flights well.began));
        asks = orders_more world.book entry world.asks may well.asks;
        rulings = subst (λ (past : List Doing). AreDecided past world.decisions) (sym (doings_grow world.book.setup world.book.history entry))
            (decided_stays (doings_in world.book) world.decisions (effect_to world.book.setup world.book.history entry).doing goes.does well.rulings);
      }

  own_numbers : (run : ℕ) (flight : Flight) → live_run (doings_in world.book) run ≡ Flies flight → flight.run ≡ run
  own_numbers = (live_is_run (doings_in world.book) (lawful world.book.setup world.book.history few well.legal.history)).number

  -- the numbers of the runs in flight rise
  pub flights_rise : RiseWithin 0 (length (doings_in world.book)) world.flights
  flights_rise = subst (RiseWithin 0 (length (doings_in world.book))) (sym well.legal.flights) (live_rise (doings_in world.book) own_numbers)

  -- each of them flies
  pub flights_fly : AllAre (FliesIn (doings_in world.book)) world.flights
  flights_fly = subst (AllAre (FliesIn (doings_in world.book))) (sym well.legal.flights) (live_fly (doings_in world.book) own_numbers)

  both_in_hand : (flights : List Flight) → AllAre (FliesIn (doings_in world.book)) flights → AllAre (Began world.book) flights → AllAre (InHand world.book) flights
  both_in_hand [] fly began = tt
  both_in_hand (flight ∷ flights) fly began = (
    record { small = began.0.small; holds = run_held world.book.setup world.book.history flight.caller flight fly.0 refl },
    both_in_hand flights fly.1 began.1,
  )

  -- their tickets are in hand
  pub tickets_in_hand : AllInHand world.book world.flights
  tickets_in_hand = in_hand_all world.book world.flights (both_in_hand world.flights flights_fly well.began)

  pub flight_flies : (run : ℕ) (flight : Flight) → flight_in world.flights run ≡ Some flight → live_run (doings_in world.book) flight.run ≡ Flies flight
  flight_flies run flight is = all_found (FliesIn (doings_in world.book)) world.flights run flight flights_fly is

  pub flight_began : (run : ℕ) (flight : Flight) → flight_in world.flights run ≡ Some flight → Began world.book flight
  flight_began run flight is = all_found (Began world.book) world.flights run flight well.began is

  pub flight_held : (run : ℕ) (flight : Flight) → flight_in world.flights run ≡ Some flight → Holds world.book.setup world.book.history flight.caller flight
  flight_held run flight is = run_held world.book.setup world.book.history flight.caller flight (flight_flies run flight is) refl
