-- What sending a request changes in what a dialer tells.
use Rattle.std.specs.Prelude.{◌≡◌, ℕ, ◌⊎◌, List}
use Rattle.ph_io.specs.Told.{SourceState, SinkState}
use Rattle.ph_io.specs.Reads.{FailsAfter}
use Rattle.ph_io.specs.Writes.{Takes, TakesFront}
use Rattle.ph_io.specs.Gates.{IsFresh}
use Rattle.ph_dial.specs.Dialers.{DialerState, Dialed, LeadsTo, Dials, DialFails, HangsUp}
use Rattle.ph_delivery.specs.declared.outcome.Outcome.{Outcome}
use Rattle.ph_delivery.specs.declared.outcome.Outcome.TheVariants as outcome
use Rattle.ph_courier.specs.Answers.{Hears}

-- the request couldn't be written whole: a front of it was, the write after that failed, and nothing
-- was read
pub record Stalls (source0 source1 : SourceState) (sink0 sink1 : SinkState) (request : List ℕ) (result : Outcome) : Type 0 where
  pub front : TakesFront sink0 sink1 request
  pub unread : source1 ≡ source0
  pub outcome : result ≡ outcome.Unreached

-- the request was written whole, and then a read failed
pub record Breaks (source0 source1 : SourceState) (sink0 sink1 : SinkState) (request : List ℕ) (result : Outcome) : Type 0 where
  pub whole : Takes sink0 sink1 request
  pub bytes : List ℕ
  pub broke : FailsAfter source0 source1 bytes
  pub outcome : result ≡ outcome.Unreached

-- the request was written whole, and the answer to it was heard
pub record Answers (source0 source1 : SourceState) (sink0 sink1 : SinkState) (request : List ℕ) (result : Outcome) : Type 0 where
  pub whole : Takes sink0 sink1 request
  pub bytes : List ℕ
  pub heard : Hears source0 source1 bytes result

-- what became of a request on a connection
abbrev pub Ends : SourceState → SourceState → SinkState → SinkState → List ℕ → Outcome → Type 0
Ends source0 source1 sink0 sink1 request result =
    Stalls source0 source1 sink0 sink1 request result
    ⊎ Breaks source0 source1 sink0 sink1 request result
    ⊎ Answers source0 source1 sink0 sink1 request result

-- a connection to the host and the port was opened, the request ended so on it, and it was handed back
pub record Calls (old new : DialerState) (host : List ℕ) (port : ℕ) (request : List ℕ) (result : Outcome) : Type 0 where
  pub source : SourceState
  pub sink : SinkState
  pub fresh : IsFresh source sink
  pub between : DialerState
  pub dialed : Dials old between
  pub back : Dialed
  pub hung_up : HangsUp between new back
  pub leads : LeadsTo old.calls back.address host port
  pub ended : Ends source back.source sink back.sink request result

-- the dial failed, and nothing was sent
pub record IsUndialed (old new : DialerState) (result : Outcome) : Type 0 where
  pub failed : DialFails old new
  pub outcome : result ≡ outcome.Unreached

-- what became of a request to a host and a port
abbrev pub Delivers : DialerState → DialerState → List ℕ → ℕ → List ℕ → Outcome → Type 0
Delivers old new host port request result =
    IsUndialed old new result ⊎ Calls old new host port request result
