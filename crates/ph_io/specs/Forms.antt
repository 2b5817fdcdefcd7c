-- The states of the sources and sinks that this crate has.
use Rattle.std.specs.Prelude.{ℕ, List, [], Bool, ◌==◌, Option, None, Some}
use Rattle.std.specs.List.{list_any}
use Rattle.ph_io.specs.Told.{SourceState, SinkState, BesideSource, BesideSink}
use Rattle.ph_io.specs.declared.address.Address.{Address}

-- bytes in memory that are read from the front: those that are left and those that were taken
pub record TapeState : Type 0 where
  pub left : List ℕ
  pub taken : List ℕ

-- a tape of which nothing was taken
abbrev pub unread : List ℕ → TapeState
unread bytes = record { left = bytes; taken = [] }

-- a source in memory: its tape, its counts, the most bytes that a read moves, the numbers of the
-- reads that fail, and how many reads there were
pub record MemSourceState : Type 0 where
  pub tape : TapeState
  pub ends : ℕ
  pub faults : ℕ
  pub most : ℕ
  pub failing : List ℕ
  pub reads : ℕ

-- a source in memory that was not read yet
abbrev pub unread_mem : List ℕ → ℕ → List ℕ → MemSourceState
unread_mem bytes most failing = record {
  tape = unread bytes;
  ends = 0;
  faults = 0;
  most = most;
  failing = failing;
  reads = 0;
}

-- a source in memory tells all of its bytes
abbrev pub told_by_mem : MemSourceState → SourceState
told_by_mem state = record {
  left = Some state.tape.left;
  taken = Some state.tape.taken;
  ends = state.ends;
  faults = state.faults;
}

-- a source that never fails: its tape and the count of its ends
pub record SureSourceState : Type 0 where
  pub tape : TapeState
  pub ends : ℕ

-- a source that never fails and was not read yet
abbrev pub unread_sure : List ℕ → SureSourceState
unread_sure bytes = record { tape = unread bytes; ends = 0 }

-- a source that never fails tells all of its bytes, and its count of faults is 0 for ever
abbrev pub told_by_sure : SureSourceState → SourceState
told_by_sure state = record {
  left = Some state.tape.left;
  taken = Some state.tape.taken;
  ends = state.ends;
  faults = 0;
}

-- a source over a reader: the bytes that the reader has still to give, where it tells them, and its counts
pub record StdSourceState : Type 0 where
  pub remaining : Option (List ℕ)
  pub ends : ℕ
  pub faults : ℕ

-- a source of which no content is known
abbrev pub untold_source : ℕ → ℕ → SourceState
untold_source ends faults = record {
  left = None;
  taken = None;
  ends = ends;
  faults = faults;
}

-- a sink in memory: the bytes that were written, its count, the most bytes that a write takes, the
-- numbers of the writes that fail, and how many writes there were
pub record MemSinkState : Type 0 where
  pub bytes : List ℕ
  pub faults : ℕ
  pub most : ℕ
  pub failing : List ℕ
  pub writes : ℕ

-- a sink in memory to which nothing was written yet
abbrev pub unwritten : ℕ → List ℕ → MemSinkState
unwritten most failing = record {
  bytes = [];
  faults = 0;
  most = most;
  failing = failing;
  writes = 0;
}

-- a sink in memory tells all of its bytes
abbrev pub told_by_sink : MemSinkState → SinkState
told_by_sink state = record { written = Some state.bytes; faults = state.faults }

-- a sink over a writer: the bytes that the writer holds, where it tells them, and its count
pub record StdSinkState : Type 0 where
  pub contents : Option (List ℕ)
  pub faults : ℕ

-- a sink of which no content is known
abbrev pub untold_sink : ℕ → SinkState
untold_sink faults = record { written = None; faults = faults }

-- the call of this number is one of those that fail
abbrev pub is_listed : List ℕ → ℕ → Bool
is_listed failing call = list_any (λ n. n == call) failing

-- a connection in memory: its source, its sink and its address
pub record MemDuplexState : Type 0 where
  pub source : MemSourceState
  pub sink : MemSinkState
  pub address : Option Address

-- beside its source a connection in memory tells its sink and its address
abbrev pub beside_mem_source : MemDuplexState → BesideSource
beside_mem_source state = record { sink = told_by_sink state.sink; address = state.address }

-- beside its sink a connection in memory tells its source and its address
abbrev pub beside_mem_sink : MemDuplexState → BesideSink
beside_mem_sink state = record { source = told_by_mem state.source; address = state.address }
