-- Runs in flight, their tickets, and the entries that end them.
use Rattle.std.specs.Prelude.{◌≢◌, ℕ, ◌^◌, ◌<◌, ◌==◌, if◌then◌else◌, Bool, List, [], ◌∷◌, Option, Some, None, option_map}
use Rattle.std.specs.List.{find}
use Rattle.ph_base.specs.declared.acquirer.Ruling.{Ruling}
use Rattle.ph_base.specs.declared.acquirer.Why.{Why}
use Rattle.ph_attempts.specs.declared.flights.Flight.{Flight}
use Rattle.ph_http.specs.declared.message.Reply.{Reply}
use Rattle.ph_book.specs.declared.acts.Answer.{Answer}
use Rattle.ph_book.specs.declared.acts.Answer.TheVariants as answer
use Rattle.ph_book.specs.declared.acts.Entry.{Entry}
use Rattle.ph_book.specs.Entries.{finish_entry, park_entry}
use Rattle.ph_book.specs.History.{said_to}
use Rattle.ph_book.specs.Replies.{Said, Replies, Waits, Silence}
use Rattle.ph_book.specs.State.{BookState, entered}
use Rattle.ph_book.specs.Tickets.{Holds}

-- it is the flight of the run of a number
abbrev pub is_of : ℕ → Flight → Bool
is_of run flight = flight.run == run

-- the flight of the run of a number
abbrev pub flight_in : List Flight → ℕ → Option Flight
flight_in flights run = find (is_of run) flights

-- the flights without that of the run of a number
abbrev pub without : ℕ → List Flight → List Flight
without run [] = []
without run (flight ∷ flights) = if is_of run flight then flights else flight ∷ without run flights

-- a ticket is in hand: it is that of a live run of its own caller, which is one that a history may have
pub record InHand (book : BookState) (ticket : Flight) : Type 0 where
  pub small : ticket.caller < 2 ^ 62
  pub holds : Holds book.setup book.history ticket.caller ticket

abbrev pub AllInHand : BookState → List Flight → Type 0
AllInHand book [] = Unit {0}
AllInHand book (ticket ∷ tickets) = InHand book ticket × AllInHand book tickets

-- a flight is of another run than each of these
abbrev pub IsApart : Flight → List Flight → Type 0
IsApart flight [] = Unit {0}
IsApart flight (other ∷ flights) = (flight.run ≢ other.run) × IsApart flight flights

-- no two of these are of one run
abbrev pub AreApart : List Flight → Type 0
AreApart [] = Unit {0}
AreApart (flight ∷ flights) = IsApart flight flights × AreApart flights

-- ---- what is said

-- the reply that is said, where one is
abbrev pub reply_in : Said → Option Reply
reply_in (Replies reply) = Some reply
reply_in (Waits order) = None
reply_in Silence = None

-- what is said to an entry behind a book's history
abbrev pub said_behind : BookState → Entry → Said
said_behind book entry = said_to book.setup book.history entry

-- the reply to an entry, where there is one
abbrev pub reply_to : BookState → Option Entry → Option Reply
reply_to book None = None
reply_to book (Some entry) = reply_in (said_behind book entry)

-- the book with an entry more, where there is one
abbrev pub and_entry : BookState → Option Entry → BookState
and_entry book None = book
and_entry book (Some entry) = entered book entry

-- the entry by which a run in flight is given up for a reason, where there is one
abbrev pub park_of : Why → Option Flight → Option Entry
park_of why found = option_map (λ flight. park_entry flight.caller flight why) found

-- the entry of a ruling on the order of a run in flight, where there is one
abbrev pub finish_of : Ruling → Option Flight → Option Entry
finish_of ruling found = option_map (λ flight. finish_entry flight.caller flight ruling) found

-- ---- answers

-- the ticket that an answer is
abbrev pub tickets_in : Answer → List Flight
tickets_in (answer.Reply reply) = []
tickets_in (answer.Wait ticket) = ticket ∷ []
tickets_in answer.Done = []

-- the reply that an answer is
abbrev pub given_in : Answer → Option Reply
given_in (answer.Reply reply) = Some reply
given_in (answer.Wait ticket) = None
given_in answer.Done = None
