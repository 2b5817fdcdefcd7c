-- What a session does with the next item.
use Rattle.std.specs.Prelude.{◌≡◌, ⊤, ℕ, ◌+◌, ◌==◌, ◌||◌, ◌⊎◌, Bool, if◌then◌else◌, Option, Some, None, Result, Ok, Err, IsTrue, is_some}
use Rattle.ph_io.specs.Told.{SinkState}
use Rattle.ph_io.specs.Writes.{Takes, TakesFront}
use Rattle.ph_http.specs.declared.message.Raw.{Raw}
use Rattle.ph_errors.specs.Fixed.{closing_of}
use Rattle.ph_errors.specs.declared.fixed.Fixed.TheVariants as fixed
use Rattle.ph_conn.specs.Answers.{Answers}
use Rattle.ph_conn.specs.Means.{Means}
use Rattle.ph_conn.specs.Sends.{Parts, Closes, Sends}
use Rattle.ph_conn.specs.Texts.{line_for}
use Rattle.ph_conn.specs.declared.answers.Outcome.{Outcome}
use Rattle.ph_conn.specs.declared.endings.Closed.{Closed}
use Rattle.ph_conn.specs.declared.endings.Stop.{Stop}
use Rattle.ph_conn.specs.declared.endings.Stop.TheVariants as stop
use Rattle.ph_conn.specs.declared.endings.TalkError.{TalkError}
use Rattle.ph_conn.specs.declared.endings.TalkError.TheVariants as fault
use Rattle.ph_conn.specs.declared.reads.Fetched.{Fetched}
use Rattle.ph_conn.specs.declared.reads.Fetched.TheVariants as fetched

-- the end of a session behind so many replies
abbrev pub closed_as : ℕ → Stop → Closed
closed_as replies stop = record { replies = replies; stop = stop }

-- the reply to a request is the last one of its session, before which so many were written
abbrev pub is_last_of : ℕ → ℕ → Bool → Bool
is_last_of limit replies asked = asked || replies + 1 == limit

-- behind a reply the session closes, where the request asked for that
abbrev pub closes_if : Bool → ℕ → Option (Result Closed TalkError)
closes_if asked replies = if asked then Some (Ok (closed_as replies stop.Asked)) else None

-- the end that the sending of a reply gives, or what then follows
abbrev pub after_sending : Result ⊤ TalkError → Option (Result Closed TalkError) → Option (Result Closed TalkError)
after_sending (Ok done) next = next
after_sending (Err why) next = Some (Err why)

-- the request was answered behind the line that it waits for
pub record Serves (limit i : ℕ) (raw : Raw) (continues : Bool) (end : Option (Result Closed TalkError)) (means0 means1 : Means) (output0 output1 : SinkState) : Type 0 where
  pub middle : SinkState
  pub announced : Takes output0 middle (line_for continues)
  pub what : Outcome
  pub answers : Answers means0 means1 raw what
  pub sent : Result ⊤ TalkError
  pub sends : Sends what (is_last_of limit i raw.close) sent middle output1
  pub end_is : end ≡ after_sending sent (closes_if raw.close (i + 1))

-- the line wasn't written whole, and the session breaks off
pub record FailsAtLine (continues : Bool) (end : Option (Result Closed TalkError)) (means0 means1 : Means) (output0 output1 : SinkState) : Type 0 where
  pub front : TakesFront output0 output1 (line_for continues)
  pub means : means1 ≡ means0
  pub end_is : end ≡ Some (Err fault.WriteFault)

-- the session ends so, and nothing was entered, asked or written
pub record EndsAs (result : Result Closed TalkError) (end : Option (Result Closed TalkError)) (means0 means1 : Means) (output0 output1 : SinkState) : Type 0 where
  pub end_is : end ≡ Some result
  pub means : means1 ≡ means0
  pub output : output1 ≡ output0

-- the session ends with a closing reply
pub record EndsClosing (status i : ℕ) (end : Option (Result Closed TalkError)) (means0 means1 : Means) (output0 output1 : SinkState) : Type 0 where
  pub result : Result Closed TalkError
  pub end_is : end ≡ Some result
  pub means : means1 ≡ means0
  pub closes : Closes status i result output0 output1

-- the session ends for want of memory
pub record RunsOut (end : Option (Result Closed TalkError)) (means0 means1 : Means) (output0 output1 : SinkState) : Type 0 where
  pub why : TalkError
  pub end_is : end ≡ Some (Err why)
  pub means : means1 ≡ means0
  pub parts : Parts fixed.NoMemory fault.NoMemory why output0 output1

-- what a session that serves so many requests, and answered so many, does with what it fetched: it ends so, or goes on
abbrev pub Steps : ℕ → ℕ → Fetched → Option (Result Closed TalkError) → Means → Means → SinkState → SinkState → Type 0
Steps limit i (fetched.Request raw continues) end means0 means1 output0 output1 =
    Serves limit i raw continues end means0 means1 output0 output1 ⊎ FailsAtLine continues end means0 means1 output0 output1
Steps limit i (fetched.Close status) end means0 means1 output0 output1 = EndsClosing status i end means0 means1 output0 output1
Steps limit i fetched.End end means0 means1 output0 output1 = EndsAs (Ok (closed_as i stop.End)) end means0 means1 output0 output1
Steps limit i fetched.Cut end means0 means1 output0 output1 = EndsAs (Err fault.Cut) end means0 means1 output0 output1
Steps limit i fetched.ReadFault end means0 means1 output0 output1 = EndsAs (Err fault.ReadFault) end means0 means1 output0 output1
Steps limit i fetched.NoMemory end means0 means1 output0 output1 = RunsOut end means0 means1 output0 output1

-- a session is closed with no other status than a closing one
abbrev pub ClosesKnown : Fetched → Type 0
ClosesKnown (fetched.Request raw continues) = Unit {0}
ClosesKnown (fetched.Close status) = IsTrue (is_some (closing_of status))
ClosesKnown fetched.End = Unit {0}
ClosesKnown fetched.Cut = Unit {0}
ClosesKnown fetched.ReadFault = Unit {0}
ClosesKnown fetched.NoMemory = Unit {0}
