-- What contracts see of a world, and what each part of a move makes of it.
use Rattle.std.specs.Prelude.{ℕ, ◌+◌, if◌then◌else◌, List, [], ◌∷◌, ◌++◌, length, Option, Some, None}
use Rattle.ph_base.specs.declared.acquirer.Ruling.{Ruling}
use Rattle.ph_base.specs.declared.acquirer.Why.{Why}
use Rattle.ph_attempts.specs.declared.flights.Flight.{Flight}
use Rattle.ph_bank.specs.declared.memory.Decision.{Decision}
use Rattle.ph_bank.specs.Scripts.{and_decision, ruling_of}
use Rattle.ph_book.specs.declared.acts.Entry.{Entry}
use Rattle.ph_book.specs.declared.setup.Setup.{Setup}
use Rattle.ph_book.specs.Laws.{ended_in}
use Rattle.ph_book.specs.Legal.{is_full}
use Rattle.ph_book.specs.Replies.{Said, Replies, Waits, Silence}
use Rattle.ph_book.specs.State.{BookState, entered}
use Rattle.ph_world.specs.declared.ask.Ask.{Ask}
use Rattle.ph_world.specs.Flights.{finish_of, park_of, said_behind, without}

-- a world: a book with one history, the runs in flight with their callers and orders, what the acquirer has decided, and what
-- it was asked
pub record WorldState : Type 0 where
  pub book : BookState
  pub flights : List Flight
  pub decisions : List Decision
  pub asks : List Ask

-- a new world: nothing was entered, decided or asked
abbrev pub new_world : Setup → WorldState
new_world setup = record { book = record { setup = setup; history = [] }; flights = []; decisions = []; asks = [] }

-- ---- entries

-- the flights without that of the run that an entry ends, where it ends one
abbrev pub without_ended : Option ℕ → List Flight → List Flight
without_ended None flights = flights
without_ended (Some run) flights = without run flights

-- the flights with that of the run that an entry of a caller begins to which this is said: where it waits, its run has its
-- place as the number
abbrev pub with_begun : ℕ → ℕ → Said → List Flight → List Flight
with_begun caller place (Replies reply) flights = flights
with_begun caller place (Waits order) flights = flights ++ record { caller = caller; run = place; order = order } ∷ []
with_begun caller place Silence flights = flights

-- the world with one entry more
abbrev pub with_entry : WorldState → Entry → WorldState
with_entry world entry = record world {
  book = entered world.book entry;
  flights = with_begun entry.caller (length world.book.history + 1) (said_behind world.book entry)
      (without_ended (ended_in entry.deed) world.flights);
}

-- the world with one entry more, where there is one
abbrev pub with_end : WorldState → Option Entry → WorldState
with_end world None = world
with_end world (Some entry) = with_entry world entry

-- the world with one entry more, where the history has room for it
abbrev pub enter : WorldState → Entry → WorldState
enter world entry = if is_full world.book.setup world.book.history entry.deed then world else with_entry world entry

-- ---- asks, rulings, parks and decisions

-- the world with one ask more, under the order of a flight
abbrev pub with_ask : WorldState → Flight → WorldState
with_ask world flight = record world { asks = world.asks ++ record { run = flight.run; order = flight.order } ∷ [] }

-- the world with a ruling on the order of a flight entered, where there is one
abbrev pub ruled : WorldState → Flight → Option Ruling → WorldState
ruled world flight None = world
ruled world flight (Some ruling) = with_end world (finish_of ruling (Some flight))

-- a flight is polled, where there is one: its order is asked once, and what is decided of it is entered
abbrev pub polled : WorldState → Option Flight → WorldState
polled world None = world
polled world (Some flight) = ruled (with_ask world flight) flight (ruling_of world.decisions flight.order.reference)

-- a flight is given up for a reason, where there is one
abbrev pub given_up : WorldState → Why → Option Flight → WorldState
given_up world why flight = with_end world (park_of why flight)

-- a reference is decided, unless it was decided before
abbrev pub decided : WorldState → ℕ → Ruling → WorldState
decided world reference ruling =
    record world { decisions = and_decision (ruling_of world.decisions reference) reference ruling world.decisions }
