-- What the top call does.
use Rattle.std.specs.Prelude.{◌≡◌, ℕ, List, [], Result, Ok, Err}
use Rattle.ph_io.specs.Told.{SourceState, SinkState}
use Rattle.ph_bank.specs.Links.{Link}
use Rattle.ph_bank.specs.Patiences.{Granted}
use Rattle.ph_book.specs.State.{BookState}
use Rattle.ph_conn.specs.Fronts.{known_alone}
use Rattle.ph_conn.specs.Session.{SoloSession}
use Rattle.ph_conn.specs.declared.endings.Closed.{Closed}
use Rattle.ph_conn.specs.declared.endings.Stop.{Stop}
use Rattle.ph_conn.specs.declared.endings.Stop.TheVariants as stop
use Rattle.ph_conn.specs.declared.endings.TalkError.{TalkError}
use Rattle.ph_conn.specs.declared.endings.TalkError.TheVariants as fault
use Rattle.ph_host.specs.Means.{means_of}
use Rattle.ph_host.specs.Setups.{setup_of}

-- how many requests the session of `stdio` serves
abbrev pub session_limit : ℕ
session_limit = 100000

-- the status of a stop: 0 where the input was read to its end or a request asked for the end, 1 for a closing reply or the limit
abbrev pub stop_status : Stop → ℕ
stop_status stop.End = 0
stop_status stop.Asked = 0
stop_status stop.Limit = 1
stop_status (stop.Refused status) = 1

-- the status of each ending: 3 for a read that failed, 4 for a write that failed, 5 for an input that ends within a request, 6 for want of memory, 9 for a full history; a book keeps each entry, so none ends for one that isn't kept
abbrev pub status_of : Result Closed TalkError → ℕ
status_of (Ok closed) = stop_status closed.stop
status_of (Err fault.ReadFault) = 3
status_of (Err fault.WriteFault) = 4
status_of (Err fault.Cut) = 5
status_of (Err fault.NoMemory) = 6
status_of (Err fault.Full) = 9
status_of (Err fault.KeepFault) = 6

-- the book that a session begins with: the setup of the words, and no entries
abbrev pub new_book : List (List ℕ) → BookState
new_book words = record { setup = setup_of words; history = [] }

-- one session was served from an empty history on, and its ending gives the status
pub record Runs (words : List (List ℕ)) (status : ℕ) (link0 link1 : Link) (counts0 counts1 : Granted) (input0 input1 : SourceState) (output0 output1 : SinkState) : Type 0 where
  pub ending : Result Closed TalkError
  pub book : BookState
  pub status_is : status ≡ status_of ending
  pub session : SoloSession ending session_limit (means_of (known_alone (new_book words)) link0 counts0) (means_of (known_alone book) link1 counts1) input0 input1 output0 output1

-- the session that was served broke off at a request for which the book has no room
pub record EndsFull (words : List (List ℕ)) (link0 link1 : Link) (counts0 counts1 : Granted) (input0 input1 : SourceState) (output0 output1 : SinkState) : Type 0 where
  pub book : BookState
  pub session : SoloSession (Err fault.Full) session_limit (means_of (known_alone (new_book words)) link0 counts0) (means_of (known_alone book) link1 counts1) input0 input1 output0 output1
