-- What a worker does with the connections of its gate.
use Rattle.std.specs.Prelude.{◌≡◌, ℕ, ◌+◌, Bool, true, false, List, [], ◌∷◌, ◌++◌, length, map, Option, None, Some, Result, Ok, Err}
use Rattle.ph_io.specs.Told.{SourceState, SinkState}
use Rattle.ph_io.specs.Gates.{GateState, Return, IsFresh, AllBack, EndsAllBack, FailsAllBack, return_of}
use Rattle.ph_io.specs.declared.end.End.{End}
use Rattle.ph_io.specs.declared.end.End.TheVariants as end
use Rattle.ph_bank.specs.Patiences.{next_count, counted_on}
use Rattle.ph_conn.specs.Means.{Means}
use Rattle.ph_conn.specs.Session.{Session}
use Rattle.ph_conn.specs.declared.endings.Closed.{Closed}
use Rattle.ph_conn.specs.declared.endings.TalkError.{TalkError}
use Rattle.ph_conn.specs.declared.endings.TalkError.TheVariants as fault
use Rattle.ph_host.specs.declared.workers.WorkerEnd.{WorkerEnd}
use Rattle.ph_host.specs.declared.workers.WorkerEnd.TheVariants as worker

-- one connection: what its source and its sink told when it was handed out and when it went back, how its session ended, and what the worker had then
pub record Visit : Type 0 where
  pub source0 : SourceState
  pub source1 : SourceState
  pub sink0 : SinkState
  pub sink1 : SinkState
  pub ending : Result Closed TalkError
  pub means : Means

-- the end of a session, as its gate is told
abbrev pub end_of : Result Closed TalkError → End
end_of (Ok closed) = end.Closed
end_of (Err fault.ReadFault) = end.ReadFault
end_of (Err fault.WriteFault) = end.WriteFault
end_of (Err fault.Cut) = end.Cut
end_of (Err fault.NoMemory) = end.NoMemory
end_of (Err fault.KeepFault) = end.KeepFault
end_of (Err fault.Full) = end.Full

-- the record of a connection that went back
abbrev pub record_of : Visit → Return
record_of visit = return_of visit.source1 visit.sink1 (end_of visit.ending)

abbrev pub records_of : List Visit → List Return
records_of visits = map record_of visits

-- nothing was read from the connection before and nothing written to it, and one session was served over it, with what the worker had
pub record IsVisit (limit : ℕ) (means : Means) (visit : Visit) : Type 0 where
  pub fresh : IsFresh visit.source0 visit.sink0
  pub session : Session visit.ending limit means visit.means visit.source0 visit.source1 visit.sink0 visit.sink1

-- one connection after another was served, each with what the worker had when the one before it went back
abbrev pub AreVisits : ℕ → Means → List Visit → Means → Type 0
AreVisits limit means0 [] means1 = means1 ≡ means0
AreVisits limit means0 (visit ∷ visits) means1 = IsVisit limit means0 visit × AreVisits limit visit.means visits means1

-- the session was broken off by a read or a write that failed, by an input that ended within a request, or by a store that failed
abbrev pub is_broken : End → Bool
is_broken end.Closed = false
is_broken end.Cut = true
is_broken end.ReadFault = true
is_broken end.WriteFault = true
is_broken end.KeepFault = true
is_broken end.Full = false
is_broken end.NoMemory = false

-- how a worker ends behind a session that ended so, where it doesn't take the next connection
abbrev pub stop_of : End → Option WorkerEnd
stop_of end.Closed = None
stop_of end.Cut = None
stop_of end.ReadFault = None
stop_of end.WriteFault = None
stop_of end.KeepFault = None
stop_of end.Full = Some worker.Full
stop_of end.NoMemory = Some worker.NoMemory

-- a count one on, where this is so; at its type's end it stands
abbrev pub counted_if : Bool → ℕ → ℕ
counted_if true count = next_count count
counted_if false count = count

-- one, where this is so
abbrev pub one_if : Bool → ℕ
one_if true = 1
one_if false = 0

-- how many sessions were broken off
abbrev pub broken_in : List Visit → ℕ
broken_in [] = 0
broken_in (visit ∷ visits) = one_if (is_broken (end_of visit.ending)) + broken_in visits

-- the worker went on behind each of these
abbrev pub AllGoOn : List Visit → Type 0
AllGoOn [] = Unit {0}
AllGoOn (visit ∷ visits) = (stop_of (end_of visit.ending) ≡ None) × AllGoOn visits

-- the last session ended so, and the worker had gone on behind each before it
pub record LastEnds (how : End) (visits : List Visit) : Type 0 where
  pub before : List Visit
  pub last : Visit
  pub all : visits ≡ before ++ last ∷ []
  pub went_on : AllGoOn before
  pub ended : end_of last.ending ≡ how

-- each connection that the gate handed out came back with its record, and then there were no more; they and the broken sessions are counted
pub record EndsDone (visits : List Visit) (served given_up : ℕ) (gate0 gate1 : GateState) : Type 0 where
  pub all_back : EndsAllBack gate0 gate1 (records_of visits)
  pub went_on : AllGoOn visits
  pub sessions : served ≡ counted_on 0 (length visits)
  pub broken : given_up ≡ counted_on 0 (broken_in visits)

-- each connection that the gate handed out came back with its record, and then the gate failed
pub record EndsFailed (visits : List Visit) (gate0 gate1 : GateState) : Type 0 where
  pub all_back : FailsAllBack gate0 gate1 (records_of visits)
  pub went_on : AllGoOn visits

-- each connection that the gate handed out came back with its record; the last session ended so, and the gate has not ended
pub record EndsEarly (how : End) (visits : List Visit) (gate0 gate1 : GateState) : Type 0 where
  pub all_back : AllBack gate0 gate1 (records_of visits)
  pub early : gate1.ended ≡ false
  pub last : LastEnds how visits

-- how a worker ended
abbrev pub EndsAs : WorkerEnd → List Visit → GateState → GateState → Type 0
EndsAs worker.Idle visits gate0 gate1 = ⊥
EndsAs (worker.Done sessions broken) visits gate0 gate1 = EndsDone visits sessions broken gate0 gate1
EndsAs worker.GateFault visits gate0 gate1 = EndsFailed visits gate0 gate1
EndsAs worker.NoMemory visits gate0 gate1 = EndsEarly end.NoMemory visits gate0 gate1
EndsAs worker.Full visits gate0 gate1 = EndsEarly end.Full visits gate0 gate1

-- What a worker did with its gate: these connections were handed out, served and handed back, and it ended so.
pub record Served (limit : ℕ) (end : WorkerEnd) (means0 means1 : Means) (gate0 gate1 : GateState) : Type 0 where
  pub visits : List Visit
  pub served : AreVisits limit means0 visits means1
  pub ended : EndsAs end visits gate0 gate1
