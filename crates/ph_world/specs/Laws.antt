-- What holds after every list of moves.
use Rattle.std.specs.Prelude.{◌≡◌, ℕ, ◌+◌, ◌<◌, ◌≤◌, ◌^◌, ◌==◌, ◌&&◌, ◌⊎◌, Bool, true, false, List, [], ◌∷◌, ◌++◌, length, Option, Some, None, count_by}
use Rattle.std.specs.List.{filter, list_any}
use Rattle.ph_base.specs.declared.acquirer.Ruling.{Ruling}
use Rattle.ph_base.specs.declared.acquirer.Ruling.TheVariants as ruling
use Rattle.ph_http.specs.declared.message.Reply.{Reply}
use Rattle.ph_items.specs.Clocks.{clock_limit}
use Rattle.ph_items.specs.declared.orders.Order.{Order}
use Rattle.ph_bank.specs.Scripts.{ruling_of}
use Rattle.ph_doings.specs.Confirmations.{attempts_of_confirmation}
use Rattle.ph_doings.specs.Doings.{Doing}
use Rattle.ph_doings.specs.Standings.{Live, Settled, Stands, State, standing_of}
use Rattle.ph_book.specs.declared.acts.Entry.{Entry}
use Rattle.ph_book.specs.declared.setup.Setup.{Setup}
use Rattle.ph_book.specs.History.{doings_of, said_to}
use Rattle.ph_book.specs.Laws.{runs_of}
use Rattle.ph_book.specs.Legal.{IsLegal}
use Rattle.ph_book.specs.Replies.{Replies, Waits}
use Rattle.ph_book.specs.State.{BookState}
use Rattle.ph_world.specs.declared.ask.Ask.{Ask}
use Rattle.ph_world.specs.declared.moves.Move.{Move}
use Rattle.ph_world.specs.Moves.{after_move, after_moves, replied}
use Rattle.ph_world.specs.Worlds.{WorldState, new_world}

-- a setup with which a book may be made: it opens at a moment that a clock shows, and has room for fewer entries than its
-- type may say
pub record IsFit (setup : Setup) : Type 0 where
  pub opened : setup.opened ≤ clock_limit
  pub few : setup.entries < 2 ^ 32

-- what was done to payment intents and attempts in a book
abbrev pub doings_in : BookState → List Doing
doings_in book = doings_of book.setup book.history

-- some list of moves leads there from a new world
pub record IsReached (world : WorldState) : Type 0 where
  pub fit : IsFit world.book.setup
  pub moves : List Move
  pub led : world ≡ after_moves (new_world world.book.setup) moves

-- a law of every world that some list of moves leads to
abbrev pub Everywhere : (WorldState → Type 0) → Type 0
Everywhere law = (setup : Setup) → IsFit setup → (moves : List Move) → law (after_moves (new_world setup) moves)

-- ---- the history

-- the history is legal, and the runs in flight are its live runs, in the order in which they began
pub record IsLegalWorld (world : WorldState) : Type 0 where
  pub history : IsLegal world.book.setup world.book.history
  pub flights : world.flights ≡ runs_of world.book.setup world.book.history

-- ---- asks

-- the entry of a place waits for the ruling on an order
pub record WaitsAt (book : BookState) (place : ℕ) (order : Order) : Type 0 where
  pub before : List Entry
  pub entry : Entry
  pub later : List Entry
  pub stands : book.history ≡ before ++ entry ∷ later
  pub place_is : length before + 1 ≡ place
  pub waits : said_to book.setup before entry ≡ Waits order

-- an attempt has begun under an order
pub record HasBegun (past : List Doing) (order : Order) : Type 0 where
  pub intent : ℕ
  pub state : State
  pub standing : standing_of past order.reference ≡ Stands intent order state

-- an ask carries the order for which the entry that began its run waits, and with which its attempt began
pub record IsOrder (book : BookState) (ask : Ask) : Type 0 where
  pub run : WaitsAt book ask.run ask.order
  pub attempt : HasBegun (doings_in book) ask.order

abbrev pub AllAreOrders : BookState → List Ask → Type 0
AllAreOrders book [] = Unit {0}
AllAreOrders book (ask ∷ asks) = IsOrder book ask × AllAreOrders book asks

abbrev pub AsksAreOrders : WorldState → Type 0
AsksAreOrders world = AllAreOrders world.book world.asks

-- an attempt is live under an order
pub record IsLive (past : List Doing) (order : Order) : Type 0 where
  pub intent : ℕ
  pub standing : standing_of past order.reference ≡ Stands intent order Live

-- the acquirer was asked once more, of an attempt that was live then
pub record AsksLive (old new : WorldState) : Type 0 where
  pub ask : Ask
  pub more : new.asks ≡ old.asks ++ ask ∷ []
  pub live : IsLive (doings_in old.book) ask.order

-- a move asks nothing, or once and of a live attempt: an attempt that is settled, or parked, is never asked of
abbrev pub AsksOfLiveAttempts : WorldState → Type 0
AsksOfLiveAttempts world = (move : Move) → ((after_move world move).asks ≡ world.asks) ⊎ AsksLive world (after_move world move)

-- the asks of the attempt of a reference
abbrev pub asks_of : ℕ → List Ask → List Ask
asks_of reference asks = filter (λ ask. ask.order.reference == reference) asks

-- an attempt that is settled is never asked of: whatever moves come, the asks of it are those that were made before
abbrev pub NeverAskedWhenSettled : WorldState → Type 0
NeverAskedWhenSettled world = (moves : List Move) (reference intent : ℕ) (order : Order) (given : Ruling)
    → standing_of (doings_in world.book) reference ≡ Stands intent order (Settled given)
    → asks_of reference (after_moves world moves).asks ≡ asks_of reference world.asks

-- ---- rulings

-- an attempt that is settled stays settled with its ruling, for the same payment intent and under the same order, whatever
-- moves come
abbrev pub SettledStays : WorldState → Type 0
SettledStays world = (moves : List Move) (reference intent : ℕ) (order : Order) (given : Ruling)
    → standing_of (doings_in world.book) reference ≡ Stands intent order (Settled given)
    → standing_of (doings_in (after_moves world moves).book) reference ≡ Stands intent order (Settled given)

-- each attempt that is settled is settled with its decision
abbrev pub RulingsAreDecisions : WorldState → Type 0
RulingsAreDecisions world = (reference intent : ℕ) (order : Order) (given : Ruling)
    → standing_of (doings_in world.book) reference ≡ Stands intent order (Settled given) → ruling_of world.decisions reference ≡ Some given

-- a decision never changes, whatever the world
abbrev pub DecisionsStay : Type 0
DecisionsStay = (world : WorldState) (move : Move) (reference : ℕ) (given : Ruling) → ruling_of world.decisions reference ≡ Some given
    → ruling_of (after_move world move).decisions reference ≡ Some given

-- ---- confirmations

-- the acquirer was asked of an attempt
abbrev pub is_asked : List Ask → ℕ → Bool
is_asked asks reference = list_any (λ ask. ask.order.reference == reference) asks

abbrev pub is_approval : Option Ruling → Bool
is_approval None = false
is_approval (Some ruling.Approved) = true
is_approval (Some (ruling.Declined decline)) = false
is_approval (Some ruling.Challenge) = false

-- an attempt is authorised: the acquirer was asked of it, and has approved it
abbrev pub is_authorised : WorldState → ℕ → Bool
is_authorised world reference = is_asked world.asks reference && is_approval (ruling_of world.decisions reference)

-- how many attempts of the confirmation of a place are authorised
abbrev pub authorised_of : WorldState → ℕ → ℕ
authorised_of world confirmation = count_by (is_authorised world) (attempts_of_confirmation (doings_in world.book) confirmation)

-- no confirmation is authorised twice
abbrev pub AuthorisedOnce : WorldState → Type 0
AuthorisedOnce world = (confirmation : ℕ) → authorised_of world confirmation ≤ 1

-- ---- replies

-- a reply is what is said to the last entry
pub record IsLastReply (book : BookState) (reply : Reply) : Type 0 where
  pub before : List Entry
  pub entry : Entry
  pub stands : book.history ≡ before ++ entry ∷ []
  pub said : said_to book.setup before entry ≡ Replies reply

-- each reply that a move is answered is what is said to the entry at the last place
abbrev pub RepliesAreAnswers : WorldState → Type 0
RepliesAreAnswers world = (move : Move) (reply : Reply) → replied world.book (after_move world move).book ≡ Some reply
    → IsLastReply (after_move world move).book reply
