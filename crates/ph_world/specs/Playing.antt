-- A list of moves that is played up to a refusal, and the end of a world.
use Rattle.std.specs.Prelude.{◌≡◌, false, List, [], ◌∷◌, ◌++◌, map, IsTrue}
use Rattle.ph_attempts.specs.declared.flights.Flight.{Flight}
use Rattle.ph_base.specs.declared.acquirer.Why.TheVariants as why
use Rattle.ph_book.specs.declared.acts.Entry.{Entry}
use Rattle.ph_book.specs.Entries.{park_entry}
use Rattle.ph_book.specs.State.{BookState}
use Rattle.ph_world.specs.declared.moves.Move.{Move}
use Rattle.ph_world.specs.declared.moves.WorldError.{WorldError}
use Rattle.ph_world.specs.declared.moves.WorldError.TheVariants as error
use Rattle.ph_world.specs.Moves.{after_move, after_moves, is_refused}
use Rattle.ph_world.specs.Worlds.{WorldState}

-- none of a list of moves is refused, each where those before it lead
abbrev pub NoneRefused : WorldState → List Move → Type 0
NoneRefused world [] = Unit {0}
NoneRefused world (move ∷ moves) = (is_refused world.book move ≡ false) × NoneRefused (after_move world move) moves

-- what was played before a move that was refused: none of the moves before it was refused, they stand, and Full is answered
-- only where the history has no room for it
pub record StopsAt (old : WorldState) (moves : List Move) (new : WorldState) (why : WorldError) : Type 0 where
  pub played : List Move
  pub refused : Move
  pub left : List Move
  pub moves_are : moves ≡ played ++ refused ∷ left
  pub room : NoneRefused old played
  pub stands : new ≡ after_moves old played
  pub full : why ≡ error.Full → IsTrue (is_refused new.book refused)

-- a flight is given up while the acquirer's ruling is pending
abbrev pub dropped_entry : Flight → Entry
dropped_entry flight = park_entry flight.caller flight why.Pending

-- a book after each of these runs was given up, in their order
abbrev pub ended : BookState → List Flight → BookState
ended book flights = record book { history = book.history ++ map dropped_entry flights }
