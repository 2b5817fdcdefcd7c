-- What the calls of a world leave is what its definitions say.
use Rattle.std.proofs.Common.{◌≡◌, ℕ, ◌+◌, cond, false, List, [], ◌∷◌, ◌++◌, length, Option, Some, None, refl, sym, ap, ◌∙◌, subst, append-nil}
use Rattle.std.specs.Prelude.{option_map}
use Rattle.ph_base.specs.declared.acquirer.Ruling.{Ruling}
use Rattle.ph_base.specs.declared.acquirer.Why.{Why}
use Rattle.ph_attempts.specs.declared.flights.Flight.{Flight}
use Rattle.ph_bank.specs.declared.memory.Decision.{Decision}
use Rattle.ph_bank.specs.Scripts.{ruling_of}
use Rattle.ph_items.specs.declared.orders.Order.{Order}
use Rattle.ph_book.specs.declared.acts.Answer.{Answer}
use Rattle.ph_book.specs.declared.acts.Answer.TheVariants as answer
use Rattle.ph_book.specs.declared.acts.Entry.{Entry}
use Rattle.ph_book.specs.Answers.{Says}
use Rattle.ph_book.specs.Entries.{finish_entry, park_entry}
use Rattle.ph_book.specs.Laws.{ended_in}
use Rattle.ph_book.specs.Legal.{is_full}
use Rattle.ph_book.specs.Replies.{Said, Replies, Waits, Silence}
use Rattle.ph_book.specs.State.{BookState, entered}
use Rattle.ph_world.specs.declared.ask.Ask.{Ask}
use Rattle.ph_world.specs.Flights.{AllInHand, and_entry, finish_of, flight_in, given_in, park_of, reply_in, reply_to, said_behind, tickets_in, without}
use Rattle.ph_world.specs.Moves.{replied}
use Rattle.ph_world.specs.Worlds.{WorldState, enter, given_up, polled, ruled, with_ask, with_begun, with_end, with_entry, without_ended}
use Rattle.ph_world.proofs.EntryLemmas.{IsReplied, finish_replied, none_begun, park_replied}
use Rattle.ph_world.proofs.FlightLemmas.{found_run, in_hand, none_left}
use Rattle.ph_world.proofs.LawLemmas.{replied_end, replied_entry}

-- ---- entries that end no run

-- the runs in flight with the ticket that an answer is
says_flights : (place caller : ℕ) (said : Said) (given : Answer) (flights : List Flight) → Says place caller said given
    → flights ++ tickets_in given ≡ with_begun caller place said flights
says_flights place caller (Replies reply) (answer.Reply given) flights says = append-nil flights
says_flights place caller (Replies reply) (answer.Wait ticket) flights says = absurd says
says_flights place caller (Replies reply) answer.Done flights says = absurd says
says_flights place caller (Waits order) (answer.Reply given) flights says = absurd says
says_flights place caller (Waits order) (answer.Wait ticket) flights says = ap (λ (f : Flight). flights ++ f ∷ []) says
says_flights place caller (Waits order) answer.Done flights says = absurd says
says_flights place caller Silence (answer.Reply given) flights says = absurd says
says_flights place caller Silence (answer.Wait ticket) flights says = absurd says
says_flights place caller Silence answer.Done flights says = append-nil flights

-- the reply that an answer is
pub says_reply : (place caller : ℕ) (said : Said) (given : Answer) → Says place caller said given → reply_in said ≡ given_in given
says_reply place caller (Replies reply) (answer.Reply given) says = ap Some (sym says)
says_reply place caller (Replies reply) (answer.Wait ticket) says = absurd says
says_reply place caller (Replies reply) answer.Done says = absurd says
says_reply place caller (Waits order) (answer.Reply given) says = absurd says
says_reply place caller (Waits order) (answer.Wait ticket) says = refl
says_reply place caller (Waits order) answer.Done says = absurd says
says_reply place caller Silence (answer.Reply given) says = absurd says
says_reply place caller Silence (answer.Wait ticket) says = absurd says
says_reply place caller Silence answer.Done says = refl

module _ (world : WorldState) (entry : Entry) (given : Answer) (book : BookState) (flights : List Flight)
    (says : Says (length world.book.history + 1) entry.caller (said_behind world.book entry) given)
    (is : book ≡ entered world.book entry) where
  enters : is_full world.book.setup world.book.history entry.deed ≡ false → ended_in entry.deed ≡ None
      → flights ≡ world.flights ++ tickets_in given
      → record { book = book; flights = flights; decisions = world.decisions; asks = world.asks } ≡ enter world entry
  enters room none more =
      let begun : flights ≡ with_begun entry.caller (length world.book.history + 1) (said_behind world.book entry) (without_ended (ended_in entry.deed) world.flights) =
      more ∙ says_flights (length world.book.history + 1) entry.caller (said_behind world.book entry) given world.flights says
      ∙ ap (λ ends. with_begun entry.caller (length world.book.history + 1) (said_behind world.book entry) (without_ended ends world.flights)) (sym none) in
      let here : record { book = book; flights = flights; decisions = world.decisions; asks = world.asks } ≡ with_entry world entry =
      λ i. record { book = is i; flights = begun i; decisions = world.decisions; asks = world.asks } in
      here ∙ sym (ap (λ b. cond b world (with_entry world entry)) room)

  answers : given_in given ≡ replied world.book book
  answers =
      sym (says_reply (length world.book.history + 1) entry.caller (said_behind world.book entry) given says)
      ∙ sym (replied_entry world.book entry) ∙ ap (replied world.book) (sym is)

-- the world after an entry that was answered so, from the values that a call has
pub entered_is : (old : WorldState) (before after : BookState) (flights now : List Flight) (decisions : List Decision) (asks : List Ask) (entry : Entry) (given : Answer)
    → record { book = before; flights = flights; decisions = decisions; asks = asks } ≡ old
    → Says (length before.history + 1) entry.caller (said_behind before entry) given → after ≡ entered before entry
    → is_full before.setup before.history entry.deed ≡ false → ended_in entry.deed ≡ None → now ≡ flights ++ tickets_in given
    → record { book = after; flights = now; decisions = decisions; asks = asks } ≡ enter old entry
entered_is old before after flights now decisions asks entry given view says is room none more =
    enters (record { book = before; flights = flights; decisions = decisions; asks = asks }) entry given after now says is room none more
    ∙ ap (λ (w : WorldState). enter w entry) view

pub entered_reply : (old : WorldState) (before after : BookState) (flights : List Flight) (decisions : List Decision) (asks : List Ask) (entry : Entry) (given : Answer)
    → record { book = before; flights = flights; decisions = decisions; asks = asks } ≡ old
    → Says (length before.history + 1) entry.caller (said_behind before entry) given → after ≡ entered before entry
    → given_in given ≡ replied old.book after
entered_reply old before after flights decisions asks entry given view says is =
    answers (record { book = before; flights = flights; decisions = decisions; asks = asks }) entry given after flights says is
    ∙ ap (λ (w : WorldState). replied w.book after) view

-- ---- the ends of runs

module _ (entry_of : Flight → Entry) (ends : (flight : Flight) → ended_in (entry_of flight).deed ≡ Some flight.run) where
  ended_with : (world : WorldState) (run : ℕ) (found : Option Flight) (book : BookState) (flights : List Flight) → flight_in world.flights run ≡ found
      → ((flight : Flight) → found ≡ Some flight → IsReplied (said_behind world.book (entry_of flight)))
      → book ≡ and_entry world.book (option_map entry_of found) → flights ≡ without run world.flights
      → record { book = book; flights = flights; decisions = world.decisions; asks = world.asks } ≡ with_end world (option_map entry_of found)
  ended_with world run None book flights is replies book_is flights_are =
      let left : flights ≡ world.flights = flights_are ∙ none_left world.flights run is in
      λ i. record { book = book_is i; flights = left i; decisions = world.decisions; asks = world.asks }
  ended_with world run (Some flight) book flights is replies book_is flights_are =
      let left : flights ≡ with_begun (entry_of flight).caller (length world.book.history + 1) (said_behind world.book (entry_of flight))
      (without_ended (ended_in (entry_of flight).deed) world.flights) =
      flights_are ∙ ap (λ n. without n world.flights) (sym (found_run world.flights run flight is))
      ∙ ap (λ o. without_ended o world.flights) (sym (ends flight))
      ∙ sym (none_begun (entry_of flight).caller (length world.book.history + 1) (said_behind world.book (entry_of flight))
      (without_ended (ended_in (entry_of flight).deed) world.flights) (replies flight refl)) in
      λ i. record { book = book_is i; flights = left i; decisions = world.decisions; asks = world.asks }

finish_ends : (world : WorldState) (run : ℕ) (ruling : Ruling) (book : BookState) (flights : List Flight) → AllInHand world.book world.flights
    → book ≡ and_entry world.book (finish_of ruling (flight_in world.flights run)) → flights ≡ without run world.flights
    → record { book = book; flights = flights; decisions = world.decisions; asks = world.asks } ≡ with_end world (finish_of ruling (flight_in world.flights run))
finish_ends world run ruling book flights hand book_is flights_are =
    ended_with (λ flight. finish_entry flight.caller flight ruling) (λ flight. refl) world run (flight_in world.flights run) book flights refl
    (λ flight is. finish_replied world.book.setup world.book.history flight.caller flight ruling (in_hand world.book world.flights run flight hand is).holds)
    book_is flights_are

park_ends : (world : WorldState) (run : ℕ) (why : Why) (book : BookState) (flights : List Flight) → AllInHand world.book world.flights
    → book ≡ and_entry world.book (park_of why (flight_in world.flights run)) → flights ≡ without run world.flights
    → record { book = book; flights = flights; decisions = world.decisions; asks = world.asks } ≡ given_up world why (flight_in world.flights run)
park_ends world run why book flights hand book_is flights_are =
    ended_with (λ flight. park_entry flight.caller flight why) (λ flight. refl) world run (flight_in world.flights run) book flights refl
    (λ flight is. park_replied world.book.setup world.book.history flight.caller flight why (in_hand world.book world.flights run flight hand is).holds)
    book_is flights_are

-- the world after a run was given up, from the values that a call has
pub given_up_is : (old : WorldState) (before after : BookState) (flights now : List Flight) (decisions : List Decision) (asks : List Ask) (run : ℕ) (why : Why)
    → record { book = before; flights = flights; decisions = decisions; asks = asks } ≡ old → AllInHand old.book old.flights
    → after ≡ and_entry before (park_of why (flight_in flights run)) → now ≡ without run flights
    → record { book = after; flights = now; decisions = decisions; asks = asks } ≡ given_up old why (flight_in old.flights run)
given_up_is old before after flights now decisions asks run why view hand book_is flights_are =
    park_ends (record { book = before; flights = flights; decisions = decisions; asks = asks }) run why after now
    (subst (λ (w : WorldState). AllInHand w.book w.flights) (sym view) hand) book_is flights_are
    ∙ ap (λ (w : WorldState). given_up w why (flight_in w.flights run)) view

-- the reply to an end
pub ended_reply : (old : WorldState) (before after : BookState) (flights : List Flight) (decisions : List Decision) (asks : List Ask) (entry : Option Entry)
    → record { book = before; flights = flights; decisions = decisions; asks = asks } ≡ old → after ≡ and_entry before entry
    → reply_to before entry ≡ replied old.book after
ended_reply old before after flights decisions asks entry view is =
    sym (replied_end before entry) ∙ ap (replied before) (sym is) ∙ ap (λ (w : WorldState). replied w.book after) view

-- a world whose parts are as they were
pub stays_is : (old : WorldState) (before after : BookState) (flights now : List Flight) (decisions : List Decision) (asks more : List Ask)
    → record { book = before; flights = flights; decisions = decisions; asks = asks } ≡ old → after ≡ before → now ≡ flights → more ≡ asks
    → record { book = after; flights = now; decisions = decisions; asks = more } ≡ old
stays_is old before after flights now decisions asks more view book_is flights_are asks_are =
    (λ i. record { book = book_is i; flights = flights_are i; decisions = decisions; asks = asks_are i }) ∙ view

-- ---- polls

order_found : (found : Option Flight) (order : Order) → option_map (λ (flight : Flight). flight.order) found ≡ Some order
    → (flight : Flight) × (found ≡ Some flight) × (flight.order ≡ order)
order_found None order is = absurd (cc)
order_found (Some flight) order is = let same : flight.order ≡ order = cc in (flight, refl, same)

-- the asks with the one of a poll
asked_is : (world : WorldState) (run : ℕ) (order : Order) (flight : Flight) → flight_in world.flights run ≡ Some flight → flight.order ≡ order
    → world.asks ++ record { run = run; order = order } ∷ [] ≡ (with_ask world flight).asks
asked_is world run order flight found same =
    λ i. world.asks ++ record { run = sym (found_run world.flights run flight found) i; order = sym same i } ∷ []

-- nothing is decided
polled_pending : (world : WorldState) (run : ℕ) (order : Order) (flight : Flight) (asks : List Ask) → flight_in world.flights run ≡ Some flight
    → flight.order ≡ order → ruling_of world.decisions order.reference ≡ None → asks ≡ world.asks ++ record { run = run; order = order } ∷ []
    → record { book = world.book; flights = world.flights; decisions = world.decisions; asks = asks } ≡ polled world (flight_in world.flights run)
polled_pending world run order flight asks found same none more =
    let all : asks ≡ (with_ask world flight).asks = more ∙ asked_is world run order flight found same in
    let here : record { book = world.book; flights = world.flights; decisions = world.decisions; asks = asks } ≡ with_ask world flight =
    λ i. record { book = world.book; flights = world.flights; decisions = world.decisions; asks = all i } in
    here ∙ sym (ap (ruled (with_ask world flight) flight) (ap (λ (o : Order). ruling_of world.decisions o.reference) same ∙ none))
    ∙ sym (ap (polled world) found)

-- a ruling is entered
polled_ruled : (world : WorldState) (run : ℕ) (order : Order) (flight : Flight) (ruling : Ruling) (book : BookState) (flights : List Flight) (asks : List Ask)
    → AllInHand world.book world.flights → flight_in world.flights run ≡ Some flight
    → flight.order ≡ order → ruling_of world.decisions order.reference ≡ Some ruling → asks ≡ world.asks ++ record { run = run; order = order } ∷ []
    → book ≡ and_entry world.book (finish_of ruling (flight_in world.flights run)) → flights ≡ without run world.flights
    → record { book = book; flights = flights; decisions = world.decisions; asks = asks } ≡ polled world (flight_in world.flights run)
polled_ruled world run order flight ruling book flights asks hand found same decided more book_is flights_are =
    let all : asks ≡ (with_ask world flight).asks = more ∙ asked_is world run order flight found same in
    let here : record { book = book; flights = flights; decisions = world.decisions; asks = asks }
    ≡ record { book = book; flights = flights; decisions = world.decisions; asks = (with_ask world flight).asks } =
    λ i. record { book = book; flights = flights; decisions = world.decisions; asks = all i } in
    let ended : record { book = book; flights = flights; decisions = world.decisions; asks = (with_ask world flight).asks }
    ≡ with_end (with_ask world flight) (finish_of ruling (flight_in world.flights run)) =
    finish_ends (with_ask world flight) run ruling book flights hand book_is flights_are in
    here ∙ ended ∙ ap (λ o. with_end (with_ask world flight) (finish_of ruling o)) found
    ∙ sym (ap (ruled (with_ask world flight) flight) (ap (λ (o : Order). ruling_of world.decisions o.reference) same ∙ decided))
    ∙ sym (ap (polled world) found)

module _ (old : WorldState) (before : BookState) (flights : List Flight) (decisions : List Decision) (asks : List Ask)
    (view : record { book = before; flights = flights; decisions = decisions; asks = asks } ≡ old) where
  -- no such run is in flight
  pub polled_none : (run : ℕ) → option_map (λ (flight : Flight). flight.order) (flight_in flights run) ≡ None
      → old ≡ polled old (flight_in old.flights run)
  polled_none run is =
      subst (λ (w : WorldState). w ≡ polled w (flight_in w.flights run)) view
      (sym (ap (polled (record { book = before; flights = flights; decisions = decisions; asks = asks })) (no_flight (flight_in flights run) is)))
    where
      no_flight : (found : Option Flight) → option_map (λ (flight : Flight). flight.order) found ≡ None → found ≡ None
      no_flight None e = refl
      no_flight (Some flight) e = absurd (cc)

  pub pending_is : (run : ℕ) (order : Order) (now : List Ask) → option_map (λ (flight : Flight). flight.order) (flight_in flights run) ≡ Some order
      → ruling_of decisions order.reference ≡ None → now ≡ asks ++ record { run = run; order = order } ∷ []
      → record { book = before; flights = flights; decisions = decisions; asks = now } ≡ polled old (flight_in old.flights run)
  pending_is run order now is none more =
      let found = order_found (flight_in flights run) order is in
      polled_pending (record { book = before; flights = flights; decisions = decisions; asks = asks }) run order found.0 now found.1 found.2 none more
      ∙ ap (λ (w : WorldState). polled w (flight_in w.flights run)) view

  pub ruled_is : (run : ℕ) (order : Order) (ruling : Ruling) (after : BookState) (left : List Flight) (now : List Ask) → AllInHand old.book old.flights
      → option_map (λ (flight : Flight). flight.order) (flight_in flights run) ≡ Some order
      → ruling_of decisions order.reference ≡ Some ruling → now ≡ asks ++ record { run = run; order = order } ∷ []
      → after ≡ and_entry before (finish_of ruling (flight_in flights run)) → left ≡ without run flights
      → record { book = after; flights = left; decisions = decisions; asks = now } ≡ polled old (flight_in old.flights run)
  ruled_is run order ruling after left now hand is decided more book_is flights_are =
      let found = order_found (flight_in flights run) order is in
      polled_ruled (record { book = before; flights = flights; decisions = decisions; asks = asks }) run order found.0 ruling after left now
      (subst (λ (w : WorldState). AllInHand w.book w.flights) (sym view) hand) found.1 found.2 decided more book_is flights_are
      ∙ ap (λ (w : WorldState). polled w (flight_in w.flights run)) view
