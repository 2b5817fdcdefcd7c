-- The states of the dialer and of what it opens: connections whose calls have a limit of time.
use Rattle.std.specs.Prelude.{◌≡◌, ℕ, ◌+◌, ◌≤◌, List, ◌∷◌, ◌++◌, [], None, ◌⊎◌}
use Rattle.ph_io.specs.Told.{SourceState, SinkState, BesideSource, BesideSink}
use Rattle.ph_dial.specs.Dialers.{DialerState}
use Rattle.ph_net.specs.Forms.{TcpDuplexState, source_of, sink_of, beside_source_of, beside_sink_of}

-- a connection whose calls have a limit: its counts, the port of its far end, and how long a read
-- and a write may wait, in nanoseconds, all of it as the system tells
pub record TimedDuplexState : Type 0 where
  pub conn : TcpDuplexState
  pub port : ℕ
  pub read_limit : ℕ
  pub write_limit : ℕ

-- its source is that of the connection
abbrev pub timed_source_of : TimedDuplexState → SourceState
timed_source_of state = source_of state.conn

-- its sink is that of the connection
abbrev pub timed_sink_of : TimedDuplexState → SinkState
timed_sink_of state = sink_of state.conn

-- beside its source it tells what the connection does
abbrev pub beside_timed_source : TimedDuplexState → BesideSource
beside_timed_source state = beside_source_of state.conn

-- beside its sink it tells what the connection does
abbrev pub beside_timed_sink : TimedDuplexState → BesideSink
beside_timed_sink state = beside_sink_of state.conn

-- the longest that the system may round a limit up by: a hundredth of a second
abbrev pub tick : ℕ
tick = 10_000_000

-- neither a read nor a write may wait longer than this, as the system rounds it
pub record IsLimited (conn : TimedDuplexState) (limit : ℕ) : Type 0 where
  pub read : conn.read_limit ≤ limit + tick
  pub write : conn.write_limit ≤ limit + tick

-- where it leads to and its limits stay
pub record Stays (old new : TimedDuplexState) : Type 0 where
  pub port : new.port ≡ old.port
  pub read_limit : new.read_limit ≡ old.read_limit
  pub write_limit : new.write_limit ≡ old.write_limit

-- the host is looked up by this name: itself, or what stands between its brackets, of which the
-- opening one is 91 and the closing one 93
abbrev pub IsNameOf : List ℕ → List ℕ → Type 0
IsNameOf name host = (name ≡ host) ⊎ (host ≡ 91 ∷ name ++ 93 ∷ [])

-- a dialer over TCP: its limit in nanoseconds, how many dials there were, how many connections are
-- out, how many of those that came back were broken, and how many dials failed
pub record TcpDialerState : Type 0 where
  pub limit : ℕ
  pub dials : ℕ
  pub out : ℕ
  pub broken : ℕ
  pub faults : ℕ

-- a dialer of this limit that dialed nothing yet
abbrev pub undialed : ℕ → TcpDialerState
undialed limit = record { limit = limit; dials = 0; out = 0; broken = 0; faults = 0 }

-- a dialer over TCP tells no records
abbrev pub told_by_dialer : TcpDialerState → DialerState
told_by_dialer state = record {
  out = state.out;
  calls = None;
  broken = state.broken;
  faults = state.faults;
}
