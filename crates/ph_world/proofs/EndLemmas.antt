-- The runs in flight are given up one by one, and none is live then.
use Rattle.std.proofs.Common.{◌≡◌, ℕ, ◌^◌, ◌<◌, ◌≤◌, List, [], ◌∷◌, ◌++◌, length, map, get_or, remove, Some, refl, sym, ap, ◌∙◌, subst, arith}
use Rattle.std.proofs.lemmas.List.{append-nil, append_assoc}
use Rattle.ph_attempts.specs.declared.flights.Flight.{Flight}
use Rattle.ph_base.specs.declared.acquirer.Why.TheVariants as why
use Rattle.ph_book.specs.declared.acts.Deed.TheVariants as deed
use Rattle.ph_book.specs.declared.acts.Entry.{Entry}
use Rattle.ph_book.specs.declared.setup.Setup.{Setup}
use Rattle.ph_book.specs.History.{doings_of}
use Rattle.ph_book.specs.Laws.{RunsFollow, all_but_run, runs_of}
use Rattle.ph_book.specs.Legal.{IsLegal}
use Rattle.ph_book.specs.State.{BookState, entered}
use Rattle.ph_book.specs.Tickets.{Holds}
use Rattle.ph_book.proofs.HistoryLemmas.{legal_more, may_come}
use Rattle.ph_book.proofs.RunLemmas.{runs_follow, run_held}
use Rattle.ph_book.proofs.StepLemmas.{park_room}
use Rattle.ph_doings.proofs.LawProofs.{live_is_run}
use Rattle.ph_world.specs.Flights.{AllInHand, AreApart, IsApart}
use Rattle.ph_world.specs.Laws.{IsReached, doings_in}
use Rattle.ph_world.specs.Playing.{dropped_entry, ended}
use Rattle.ph_world.specs.Worlds.{WorldState}
use Rattle.ph_world.proofs.EntryLemmas.{lawful}
use Rattle.ph_world.proofs.FlightLemmas.{AllAre}
use Rattle.ph_world.proofs.MoveLemmas.{ends_park, reached_sound}
use Rattle.ph_world.proofs.RisingLemmas.{FliesIn, RiseWithin, first_goes, live_fly, live_rise}
use Rattle.ph_world.proofs.WellLemmas.{flights_rise}

-- ---- tickets

-- those whose numbers rise are apart
apart_above : (flight : Flight) (flights : List Flight) (low high : ℕ) → flight.run ≤ low → RiseWithin low high flights → IsApart flight flights
apart_above flight [] low high le rise = tt
apart_above flight (other ∷ flights) low high le rise =
    let lt : low < other.run = rise.0 in (
      λ same. absurd (omega (arith, same, lt, le)),
      apart_above flight flights other.run high (omega (arith, lt, le)) rise.1,
    )

rising_apart : (flights : List Flight) (low high : ℕ) → RiseWithin low high flights → AreApart flights
rising_apart [] low high rise = tt
rising_apart (flight ∷ flights) low high rise =
    (apart_above flight flights flight.run high (omega arith) rise.1, rising_apart flights flight.run high rise.1)

pub reached_apart : (world : WorldState) → IsReached world → AreApart world.flights
reached_apart world reached =
    let holds = reached_sound world reached in
    rising_apart world.flights 0 (length (doings_in world.book)) (flights_rise world holds.fit.few holds.well)

-- the tickets that are left stay in hand
still_in_hand : (book : BookState) (ticket : Flight) (tickets : List Flight) → RunsFollow book.setup book.history → IsApart ticket tickets
    → AllInHand book tickets → AllInHand (entered book (dropped_entry ticket)) tickets
still_in_hand book ticket [] runs apart hand = tt
still_in_hand book ticket (other ∷ tickets) runs apart hand = (
  record {
    small = hand.0.small;
    holds = runs.stays (dropped_entry ticket) other.caller other hand.0.holds
        (λ own same. let both : Some ticket.run ≡ Some other.run = same in apart.0 (cc));
  },
  still_in_hand book ticket tickets runs apart.1 hand.1,
)

pub left_in_hand : (before after : BookState) (ticket : Flight) (tickets : List Flight) → RunsFollow before.setup before.history
    → AreApart (ticket ∷ tickets) → AllInHand before (ticket ∷ tickets) → after ≡ entered before (dropped_entry ticket) → AllInHand after tickets
left_in_hand before after ticket tickets runs apart hand is =
    subst (λ (book : BookState). AllInHand book tickets) (sym is) (still_in_hand before ticket tickets runs apart.0 hand.1)

-- the first of tickets, and those behind it
pub head_is : (tickets : List Flight) (ticket : Flight) (rest : List Flight) → 0 < length tickets → ticket ≡ get_or tickets 0 ticket
    → rest ≡ remove tickets 0 → tickets ≡ ticket ∷ rest
head_is [] ticket rest some is left = absurd (omega (arith, some))
head_is (first ∷ tickets) ticket rest some is left = λ i. sym is i ∷ sym left i

-- what holds of the setup and the history that a book lends
pub runs_as : (book : BookState) (setup : Setup) (history : List Entry) → setup ≡ book.setup → history ≡ book.history
    → RunsFollow setup history → RunsFollow book.setup book.history
runs_as book setup history one two runs =
    subst (λ (s : Setup). RunsFollow s book.history) one (subst (λ (h : List Entry). RunsFollow setup h) two runs)

-- what is left to be given up
pub ended_more : (before after : BookState) (ticket : Flight) (tickets : List Flight) → after ≡ entered before (dropped_entry ticket)
    → ended after tickets ≡ ended before (ticket ∷ tickets)
ended_more before after ticket tickets is =
    ap (λ (book : BookState). ended book tickets) is
    ∙ ap (λ (history : List Entry). record before { history = history }) (append_assoc before.history (dropped_entry ticket ∷ []) (map dropped_entry tickets))

pub ended_none : (book : BookState) → ended book [] ≡ book
ended_none book = ap (λ (history : List Entry). record book { history = history }) (append-nil book.history)

-- ---- no run is live at the end

-- the callers of the runs are ones that a history may have
abbrev Small : Flight → Type 0
Small flight = flight.caller < 2 ^ 62

all_small : (book : BookState) (tickets : List Flight) → AllInHand book tickets → AllAre Small tickets
all_small book [] hand = tt
all_small book (ticket ∷ tickets) hand = (hand.0.small, all_small book tickets hand.1)

none_live : (setup : Setup) (history : List Entry) (flights : List Flight) → setup.entries < 2 ^ 32 → IsLegal setup history
    → flights ≡ runs_of setup history → AllAre Small flights → runs_of setup (history ++ map dropped_entry flights) ≡ []
none_live setup history [] few legal is small = ap (runs_of setup) (append-nil history) ∙ sym is
none_live setup history (flight ∷ flights) few legal is small =
    let numbers = (live_is_run (doings_of setup history) (lawful setup history few legal)).number in
    let flies : AllAre (FliesIn (doings_of setup history)) (flight ∷ flights) =
    subst (AllAre (FliesIn (doings_of setup history))) (sym is) (live_fly (doings_of setup history) numbers) in
    let rise : RiseWithin 0 (length (doings_of setup history)) (flight ∷ flights) =
    subst (RiseWithin 0 (length (doings_of setup history))) (sym is) (live_rise (doings_of setup history) numbers) in
    let holds : Holds setup history flight.caller flight = run_held setup history flight.caller flight flies.0 refl in
    let next : IsLegal setup (history ++ dropped_entry flight ∷ []) =
    legal_more setup history (dropped_entry flight) legal
    (may_come setup history flight.caller (deed.Park flight.run why.Pending) small.0 tt (ends_park setup history flight.caller flight why.Pending holds)
    (park_room setup history flight.run why.Pending)) in
    let left : flights ≡ runs_of setup (history ++ dropped_entry flight ∷ []) =
    sym ((runs_follow setup history few legal).parked flight.caller flight why.Pending holds ∙ ap (all_but_run flight) (sym is)
    ∙ first_goes flight flights 0 (length (doings_of setup history)) rise) in
    ap (runs_of setup) (sym (append_assoc history (dropped_entry flight ∷ []) (map dropped_entry flights)))
    ∙ none_live setup (history ++ dropped_entry flight ∷ []) flights few next left small.1

pub reached_none : (world : WorldState) → IsReached world → AllInHand world.book world.flights
    → runs_of (ended world.book world.flights).setup (ended world.book world.flights).history ≡ []
reached_none world reached hand =
    let holds = reached_sound world reached in
    none_live world.book.setup world.book.history world.flights holds.fit.few holds.well.legal.history holds.well.legal.flights
    (all_small world.book world.flights hand)
