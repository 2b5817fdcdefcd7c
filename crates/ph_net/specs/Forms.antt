-- The states of the connections and the gates that this crate has.
use Rattle.std.specs.Prelude.{ℕ, ◌+◌, nat_lt, Bool, false, None}
use Rattle.ph_io.specs.Told.{SourceState, SinkState, BesideSource, BesideSink}
use Rattle.ph_io.specs.Forms.{untold_source, untold_sink}
use Rattle.ph_io.specs.Gates.{GateState}

-- a connection over TCP: the counts of its ends and of the faults of its reads and writes
pub record TcpDuplexState : Type 0 where
  pub ends : ℕ
  pub read_faults : ℕ
  pub write_faults : ℕ

-- a connection of which nothing was read and to which nothing was written
abbrev pub unused : TcpDuplexState
unused = record { ends = 0; read_faults = 0; write_faults = 0 }

-- a read or a write of the connection failed
abbrev pub has_failed : TcpDuplexState → Bool
has_failed state = nat_lt 0 (state.read_faults + state.write_faults)

-- no content is known of its source
abbrev pub source_of : TcpDuplexState → SourceState
source_of state = untold_source state.ends state.read_faults

-- no content is known of its sink
abbrev pub sink_of : TcpDuplexState → SinkState
sink_of state = untold_sink state.write_faults

-- beside its source it tells its sink, and no address
abbrev pub beside_source_of : TcpDuplexState → BesideSource
beside_source_of state = record { sink = sink_of state; address = None }

-- beside its sink it tells its source, and no address
abbrev pub beside_sink_of : TcpDuplexState → BesideSink
beside_sink_of state = record { source = source_of state; address = None }

-- a gate over TCP: whether its port is listened on, how many connections it may hand out, how many
-- it did and how many of these are out still, whether its last answer was that there are no more,
-- and how often it failed
pub record TcpGateState : Type 0 where
  pub listens : Bool
  pub most : ℕ
  pub given : ℕ
  pub out : ℕ
  pub ended : Bool
  pub faults : ℕ

-- a gate that handed out nothing yet
abbrev pub unopened : Bool → ℕ → TcpGateState
unopened listens most = record {
  listens = listens;
  most = most;
  given = 0;
  out = 0;
  ended = false;
  faults = 0;
}

-- a gate over TCP tells no records
abbrev pub told_by_gate : TcpGateState → GateState
told_by_gate state = record {
  given = state.given;
  out = state.out;
  returned = None;
  ended = state.ended;
  faults = state.faults;
}
