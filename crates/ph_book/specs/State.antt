-- What contracts see of a book, and what holds of what it keeps.
use Rattle.std.specs.Prelude.{◌≡◌, ℕ, ◌+◌, ◌*◌, ◌^◌, ◌≤◌, ◌<◌, ◌==◌, ◌&&◌, not, Bool, true, List, [], ◌∷◌, ◌++◌, length, Option, Some, None}
use Rattle.std.specs.List.{list_all}
use Rattle.ph_attempts.specs.declared.flights.Attempt.{Attempt}
use Rattle.ph_doings.specs.Kept.{attempts_after}
use Rattle.ph_doings.specs.Runs.{live_runs}
use Rattle.ph_http.specs.Replies.{is_status}
use Rattle.ph_idem.specs.declared.key_record.KeyRecord.{KeyRecord}
use Rattle.ph_idem.specs.declared.key_record.Saved.{Saved}
use Rattle.ph_idem.specs.Kept.{records_after}
use Rattle.ph_rows.specs.declared.rows.Row.{Row}
use Rattle.ph_book.specs.declared.setup.Setup.{Setup}
use Rattle.ph_book.specs.declared.acts.Entry.{Entry}
use Rattle.ph_book.specs.History.{past_of, rows_of, time_of, doings_of, reply_at, saids_after, turns_after}
use Rattle.ph_book.specs.Legal.{weight_after, IsLegal}

-- a book is its setup and its history
pub record BookState : Type 0 where
  pub setup : Setup
  pub history : List Entry

-- the book with one entry more
abbrev pub entered : BookState → Entry → BookState
entered book entry = record book { history = book.history ++ entry ∷ [] }

-- the records of keys that are kept after a history
unfoldable pub records_of : Setup → List Entry → List KeyRecord
records_of setup history =
    records_after (reply_at (saids_after (past_of setup history))) setup.opened (turns_after setup (past_of setup history))

-- a saved status is one that replies are written with, and none of a run that was given up
abbrev pub is_status_well : ℕ → Bool
is_status_well status = is_status status && not (status == 500)

abbrev pub is_reply_well : Option Saved → Bool
is_reply_well None = true
is_reply_well (Some saved) = is_status_well saved.status

abbrev pub is_saved_well : KeyRecord → Bool
is_saved_well kept = is_reply_well kept.result

-- what a book keeps beside its entries follows from them, and they are a legal history
pub record IsBook (setup : Setup) (history : List Entry) (rows : List Row) (time weight : ℕ) (attempts : List Attempt) (records : List KeyRecord) (live : ℕ) : Type 0 where
  pub rows_are : rows ≡ rows_of setup history
  pub time_is : time ≡ time_of setup history
  pub weight_is : weight ≡ weight_after setup (past_of setup history)
  pub attempts_are : attempts ≡ attempts_after (doings_of setup history)
  pub records_are : records ≡ records_of setup history
  pub statuses : list_all is_saved_well records ≡ true
  pub live_is : live ≡ length (live_runs (doings_of setup history))
  pub few : setup.entries < 2 ^ 32
  pub legal : IsLegal setup history

-- there is room for the end of each live run: for an entry, a row and its weight, and a reply
pub record HasRoom (live count entries_room rows_room spares weight : ℕ) : Type 0 where
  pub for_entries : count + live ≤ entries_room
  pub for_rows : live ≤ rows_room
  pub for_replies : live ≤ spares
  pub for_weight : weight + 256 * live < 2 ^ 64
