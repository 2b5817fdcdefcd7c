-- Moves, and what a list of moves leads to.
use Rattle.std.specs.Prelude.{ℕ, ◌^◌, ◌==◌, ◌&&◌, nat_le, nat_lt, Bool, true, false, if◌then◌else◌, List, [], ◌∷◌, length, Option, None}
use Rattle.ph_base.specs.declared.acquirer.Why.TheVariants as why
use Rattle.ph_http.specs.declared.message.Reply.{Reply}
use Rattle.ph_items.specs.Clocks.{clock_limit}
use Rattle.ph_book.specs.declared.acts.Deed.TheVariants as deed
use Rattle.ph_book.specs.declared.acts.Entry.{Entry}
use Rattle.ph_book.specs.declared.setup.Setup.{Setup}
use Rattle.ph_book.specs.Entries.{call_entry, resume_entry, tick_entry}
use Rattle.ph_book.specs.History.{past_of, saids_after}
use Rattle.ph_book.specs.Legal.{is_full}
use Rattle.ph_book.specs.Replies.{Said, Silence}
use Rattle.ph_book.specs.State.{BookState}
use Rattle.ph_world.specs.declared.moves.Move.{Move}
use Rattle.ph_world.specs.declared.moves.Move.TheVariants as move
use Rattle.ph_world.specs.Flights.{flight_in, reply_in}
use Rattle.ph_world.specs.Worlds.{WorldState, decided, enter, given_up, polled}

-- a caller that a history may have
abbrev pub is_caller : ℕ → Bool
is_caller caller = nat_lt caller (2 ^ 62)

-- a move that can be made: its caller is one that a history may have, and its moment one that a clock shows
abbrev pub is_possible : Move → Bool
is_possible (move.Arrive caller raw) = is_caller caller
is_possible (move.Poll run) = true
is_possible (move.Drop run) = true
is_possible (move.Fail run) = true
is_possible (move.Decide reference ruling) = true
is_possible (move.Clock now) = nat_le now clock_limit
is_possible (move.Resume caller) = is_caller caller

-- what a move that can be made does: a request, a moment and the taking up of an attempt are entered, a moment by caller 0; a
-- poll asks under the order of a run in flight and enters the ruling, where there is one; a drop and a failure give a run in
-- flight up; a decision is on a reference that wasn't decided before
abbrev pub moved : WorldState → Move → WorldState
moved world (move.Arrive caller raw) = enter world (call_entry caller raw)
moved world (move.Poll run) = polled world (flight_in world.flights run)
moved world (move.Drop run) = given_up world why.Pending (flight_in world.flights run)
moved world (move.Fail run) = given_up world why.Failed (flight_in world.flights run)
moved world (move.Decide reference ruling) = decided world reference ruling
moved world (move.Clock now) = enter world (tick_entry 0 now)
moved world (move.Resume caller) = enter world (resume_entry caller)

-- the world after a move: one that can't be made changes nothing
abbrev pub after_move : WorldState → Move → WorldState
after_move world move = if is_possible move then moved world move else world

-- the world after a list of moves
abbrev pub after_moves : WorldState → List Move → WorldState
after_moves world [] = world
after_moves world (move ∷ moves) = after_moves (after_move world move) moves

-- ---- what a move is answered

-- the newest of what was said
abbrev pub newest : List Said → Said
newest [] = Silence
newest (said ∷ saids) = said

-- what was said to the last entry of a history
unfoldable pub last_said : Setup → List Entry → Said
last_said setup history = newest (saids_after (past_of setup history))

-- a move is answered the reply to the last entry, where it added one and that has a reply
abbrev pub replied : BookState → BookState → Option Reply
replied old new = if length new.history == length old.history then None else reply_in (last_said new.setup new.history)

-- ---- what is refused

-- the history has no room for what a move is to enter
abbrev pub has_no_room : BookState → Move → Bool
has_no_room book (move.Arrive caller raw) = is_full book.setup book.history (deed.Call raw)
has_no_room book (move.Poll run) = false
has_no_room book (move.Drop run) = false
has_no_room book (move.Fail run) = false
has_no_room book (move.Decide reference ruling) = false
has_no_room book (move.Clock now) = is_full book.setup book.history (deed.Tick now)
has_no_room book (move.Resume caller) = is_full book.setup book.history deed.Resume

-- a move that can be made is refused where the history has no room for it
abbrev pub is_refused : BookState → Move → Bool
is_refused book move = is_possible move && has_no_room book move
