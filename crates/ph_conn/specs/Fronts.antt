-- What a session knows of a history: a front of it, and which of its entries are the session's own.
use Rattle.std.specs.Prelude.{◌≡◌, ℕ, ◌+◌, ◌^◌, ◌<◌, Bool, true, false, List, [], ◌∷◌, ◌++◌, length, map, Option, None}
use Rattle.ph_attempts.specs.declared.flights.Flight.{Flight}
use Rattle.ph_lock.specs.Histories.{StartsWith}
use Rattle.atomic_table.specs.Seated.{TableId}
use Rattle.ph_lock.specs.Passes.{Shown, IsPass, SamePass}
use Rattle.ph_book.specs.declared.acts.Act.{Act}
use Rattle.ph_book.specs.declared.acts.Answer.{Answer}
use Rattle.ph_book.specs.declared.acts.Entry.{Entry}
use Rattle.ph_book.specs.declared.hosted.Kept.{Kept}
use Rattle.ph_book.specs.declared.hosted.Kept.TheVariants as kept
use Rattle.ph_book.specs.declared.setup.Setup.{Setup}
use Rattle.ph_book.specs.Entries.{entry_of}
use Rattle.ph_book.specs.History.{doings_of, said_to}
use Rattle.ph_book.specs.Hosts.{Answers, Allows}
use Rattle.ph_book.specs.Legal.{IsLegal}
use Rattle.ph_book.specs.OwnRuns.{RunsAfter}
use Rattle.ph_book.specs.Replies.{Said}
use Rattle.ph_book.specs.Runs.{own_run}
use Rattle.ph_book.specs.State.{BookState}

-- an entry of a history, and whether it stands in a store, too
pub record Filed : Type 0 where
  pub entry : Entry
  pub kept : Kept

-- the entries, whatever is kept of them
abbrev pub entries_in : List Filed → List Entry
entries_in front = map (λ filed. filed.entry) front

-- an entry that a store has
abbrev pub is_kept : Kept → Bool
is_kept kept.Yes = true
is_kept kept.Failed = false
is_kept kept.NoMemory = false

-- what a session knows: the setup of the history, the caller that it enters as, the front of the history that it has seen, and its own entries there with their places, from 1 on
pub record Known : Type 0 where
  pub setup : Setup
  pub caller : ℕ
  pub front : List Filed
  pub mine : List (ℕ × Filed)

-- the live run of the session's caller with a number
abbrev pub live_in : Known → ℕ → Option Flight
live_in known run = own_run (doings_of known.setup (entries_in known.front)) known.caller run

-- what is said to an entry behind a front
abbrev pub said_behind : Setup → List Filed → Entry → Said
said_behind setup front entry = said_to setup (entries_in front) entry

-- the session's caller may do this
abbrev pub MayDo : Known → Act → Type 0
MayDo known act = Allows known.setup (entries_in known.front) known.caller act

-- the live runs of the session's caller are those that they were
abbrev pub KeepsLive : Known → Known → Type 0
KeepsLive old new = (run : ℕ) → live_in new run ≡ live_in old run

-- setup and caller are as they were, and the history is legal
pub record IsSame (old new : Known) : Type 0 where
  pub setup : new.setup ≡ old.setup
  pub caller : new.caller ≡ old.caller
  pub legal : IsLegal new.setup (entries_in new.front)

-- more may have been seen of the history, but nothing was entered
pub record OnlySaw (old new : Known) : Type 0 where
  pub same : IsSame old new
  pub front : StartsWith new.front old.front
  pub mine : new.mine ≡ old.mine
  pub live : KeepsLive old new

-- the entry of an act of a caller, as it is filed
abbrev pub filed : ℕ → Act → Kept → Filed
filed caller act kept = record { entry = entry_of caller act; kept = kept }

-- what was known when the entry came: this front
abbrev pub known_at : Known → List Filed → Known
known_at known front = record known { front = front }

-- an act was entered: the front begins with the old one and ends with the act's entry, which mine gained, and the answer is the one to it there
pub record Entered (old new : Known) (act : Act) (given : Answer) (mark : Kept) : Type 0 where
  pub same : IsSame old new
  -- the history that the act found: the old front, and behind it entries of others
  pub before : List Filed
  pub seen : StartsWith before old.front
  pub live : KeepsLive old (known_at old before)
  pub front : new.front ≡ before ++ filed old.caller act mark ∷ []
  pub mine : new.mine ≡ old.mine ++ (length before + 1, filed old.caller act mark) ∷ []
  pub answered : Answers old.setup (entries_in before) (entry_of old.caller act) given
  -- what the entry does to the live runs of its caller, of which none had the number of its place
  pub runs : RunsAfter old.setup (entries_in before) (entry_of old.caller act)
  pub fresh : live_in (known_at old before) (length (entries_in before) + 1) ≡ None

-- ---- what is known of a book that no one else has, and by a pass

-- each with its place, from this one on
abbrev pub placed_from : {A : Type 0} → ℕ → List A → List (ℕ × A)
placed_from place [] = []
placed_from place (x ∷ xs) = (place, x) ∷ placed_from (place + 1) xs

-- an entry of a book, all of which are kept
abbrev pub kept_entry : Entry → Filed
kept_entry entry = record { entry = entry; kept = kept.Yes }

-- of a book that no one else has all is known, and each entry is the session's own, of caller 0
abbrev pub known_alone : BookState → Known
known_alone book = record {
  setup = book.setup;
  caller = 0;
  front = map kept_entry book.history;
  mine = placed_from 1 (map kept_entry book.history);
}

module _ {E Base : Type 0} (setup : Base → Setup) (plain : E → Entry) (mark : E → Kept) where
  -- an entry of a hosted object: the book's, and its mark
  abbrev pub filed_as : E → Filed
  filed_as entry = record { entry = plain entry; kept = mark entry }

  abbrev pub placed_as : ℕ × E → ℕ × Filed
  placed_as own = (own.0, filed_as own.1)

  -- what a pass of a hosted object knows
  abbrev pub known_by : Shown E Base → Known
  known_by pass = record {
    setup = setup pass.base;
    caller = pass.caller;
    front = map filed_as pass.front;
    mine = map placed_as pass.mine;
  }

module _ {E Base : Type 0} where
  -- a pass of this lock, whose caller may enter acts
  pub record IsFit (by : E → ℕ) (lawful : Base → List E → Type 0) (table : TableId) (pass : Shown E Base) : Type 0 where
    pub lock : pass.lock ≡ table
    pub small : pass.caller < 2 ^ 62
    pub is_pass : IsPass by lawful pass

  -- the same pass, which may have seen more
  pub record Grown (old new : Shown E Base) : Type 0 where
    pub same : SamePass old new
    pub front : StartsWith new.front old.front
