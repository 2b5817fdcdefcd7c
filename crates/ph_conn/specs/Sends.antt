-- What a session writes at one step.
use Rattle.std.specs.Prelude.{◌≡◌, ⊤, ℕ, Bool, ◌⊎◌, Result, Ok, Err, IsTrue}
use Rattle.ph_io.specs.Told.{SinkState}
use Rattle.ph_io.specs.Writes.{Takes, TakesFront}
use Rattle.ph_http.specs.Replies.{is_status, rendered}
use Rattle.ph_errors.specs.declared.fixed.Fixed.{Fixed}
use Rattle.ph_errors.specs.declared.fixed.Fixed.TheVariants as fixed
use Rattle.ph_errors.specs.Fixed.{closing_of}
use Rattle.ph_conn.specs.declared.answers.Outcome.{Outcome}
use Rattle.ph_conn.specs.declared.answers.Outcome.TheVariants as outcome
use Rattle.ph_conn.specs.declared.endings.Closed.{Closed}
use Rattle.ph_conn.specs.declared.endings.Stop.TheVariants as stop
use Rattle.ph_conn.specs.declared.endings.TalkError.{TalkError}
use Rattle.ph_conn.specs.declared.endings.TalkError.TheVariants as fault
use Rattle.ph_conn.specs.Texts.{last_words, tail_text}

-- the last words were written whole and the session breaks off so, or a front of them up to a write that failed
abbrev pub Parts : Fixed → TalkError → TalkError → SinkState → SinkState → Type 0
Parts words why got old new =
    ((got ≡ why) × Takes old new (last_words words)) ⊎ ((got ≡ fault.WriteFault) × TakesFront old new (last_words words))

-- the last words for want of memory were written whole, or a front of them up to a write that failed; either way the session breaks off for want of memory
abbrev pub PartsOut : TalkError → SinkState → SinkState → Type 0
PartsOut got old new =
    (got ≡ fault.NoMemory) × (Takes old new (last_words fixed.NoMemory) ⊎ TakesFront old new (last_words fixed.NoMemory))

-- the closing reply of this status was written whole, or a front of it up to a write that failed
abbrev pub Closes : ℕ → ℕ → Result Closed TalkError → SinkState → SinkState → Type 0
Closes status replies (Ok closed) old new =
    (closed ≡ record { replies = replies; stop = stop.Refused status }) × Takes old new (tail_text (closing_of status))
Closes status replies (Err fault.WriteFault) old new = TakesFront old new (tail_text (closing_of status))
Closes status replies (Err fault.ReadFault) old new = ⊥
Closes status replies (Err fault.Cut) old new = ⊥
Closes status replies (Err fault.NoMemory) old new = ⊥
Closes status replies (Err fault.Full) old new = ⊥
Closes status replies (Err fault.KeepFault) old new = ⊥

-- the reply has a status that replies are written with
abbrev pub IsWritable : Outcome → Type 0
IsWritable (outcome.Reply reply) = IsTrue (is_status reply.status)
IsWritable outcome.Parked = Unit {0}
IsWritable (outcome.Unkept why) = Unit {0}
IsWritable outcome.Full = Unit {0}
IsWritable outcome.NoMemory = Unit {0}

-- the reply was written whole, or a front of it up to a write that failed, or nothing for want of memory; a request that wasn't entered got last words, and so did one whose run was given up for want of memory; one of which an entry isn't kept got nothing
abbrev pub Sends : Outcome → Bool → Result ⊤ TalkError → SinkState → SinkState → Type 0
Sends (outcome.Reply reply) last (Ok done) old new = Takes old new (rendered reply last)
Sends (outcome.Reply reply) last (Err fault.WriteFault) old new = TakesFront old new (rendered reply last)
Sends (outcome.Reply reply) last (Err fault.NoMemory) old new = new ≡ old
Sends (outcome.Reply reply) last (Err fault.ReadFault) old new = ⊥
Sends (outcome.Reply reply) last (Err fault.Cut) old new = ⊥
Sends (outcome.Reply reply) last (Err fault.Full) old new = ⊥
Sends (outcome.Reply reply) last (Err fault.KeepFault) old new = ⊥
Sends outcome.Parked last (Ok done) old new = ⊥
Sends outcome.Parked last (Err why) old new = PartsOut why old new
Sends (outcome.Unkept why) last (Ok done) old new = ⊥
Sends (outcome.Unkept why) last (Err got) old new = (got ≡ why) × (new ≡ old)
Sends outcome.Full last (Ok done) old new = ⊥
Sends outcome.Full last (Err why) old new = Parts fixed.HistoryFull fault.Full why old new
Sends outcome.NoMemory last (Ok done) old new = ⊥
Sends outcome.NoMemory last (Err why) old new = Parts fixed.NoMemory fault.NoMemory why old new
