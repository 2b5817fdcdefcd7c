-- The state of a gate in memory.
use Rattle.std.specs.Prelude.{ℕ, ◌-◌, List, [], length, map, Bool, false, Some}
use Rattle.ph_io.specs.Forms.{MemDuplexState, told_by_mem, told_by_sink}
use Rattle.ph_io.specs.Gates.{GateState, Return, IsFresh, return_of}
use Rattle.ph_io.specs.declared.mem_gate.Returned.{Returned}

-- a gate in memory: the connections that it has to hand out, those that came back, how many it
-- handed out and how many of these are out still, whether its last answer was that there are no
-- more, the numbers of the calls that fail, how many calls there were, and how many failed
pub record MemGateState : Type 0 where
  pub waiting : List MemDuplexState
  pub returned : List Returned
  pub given : ℕ
  pub out : ℕ
  pub ended : Bool
  pub failing : List ℕ
  pub calls : ℕ
  pub faults : ℕ

-- a gate to which so many connections were added: those that don't wait were handed out, and those
-- of them that didn't come back are out
abbrev pub mem_gate_of :
    List MemDuplexState → List Returned → ℕ → Bool → List ℕ → ℕ → ℕ → MemGateState
mem_gate_of waiting returned added ended failing calls faults = record {
  waiting = waiting;
  returned = returned;
  given = added - length waiting;
  out = added - length waiting - length returned;
  ended = ended;
  failing = failing;
  calls = calls;
  faults = faults;
}

-- a gate to which no connection was added yet
abbrev pub unopened : List ℕ → MemGateState
unopened failing = mem_gate_of [] [] 0 false failing 0 0

-- nothing was read from the connection, and nothing was written to it
abbrev pub IsUnused : MemDuplexState → Type 0
IsUnused conn = IsFresh (told_by_mem conn.source) (told_by_sink conn.sink)

-- the record of a connection that came back
abbrev pub returned_as : Returned → Return
returned_as back = return_of (told_by_mem back.conn.source) (told_by_sink back.conn.sink) back.end

-- a gate in memory tells all of its records
abbrev pub told_by_gate : MemGateState → GateState
told_by_gate state = record {
  given = state.given;
  out = state.out;
  returned = Some (map returned_as state.returned);
  ended = state.ended;
  faults = state.faults;
}
