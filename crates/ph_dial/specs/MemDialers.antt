-- The state of a dialer in memory.
use Rattle.std.specs.Prelude.{ℕ, ◌-◌, List, [], length, map, count_by, Some}
use Rattle.ph_io.specs.Forms.{MemDuplexState, told_by_mem, told_by_sink}
use Rattle.ph_io.specs.Gates.{IsFresh}
use Rattle.ph_dial.specs.Dialers.{DialerState, Dialed, dialed_of, is_broken}
use Rattle.ph_dial.specs.declared.mem_dialer.FarEnd.{FarEnd}

-- a dialer in memory: the far ends that wait to be dialed, the connections that came back, how many
-- are out, the numbers of the dials that fail, how many dials there were, and how many failed
pub record MemDialerState : Type 0 where
  pub waiting : List FarEnd
  pub returned : List MemDuplexState
  pub out : ℕ
  pub failing : List ℕ
  pub dials : ℕ
  pub faults : ℕ

-- a dialer to which so many far ends were added: those that don't wait were dialed, and those of
-- them that didn't come back are out
abbrev pub mem_dialer_of :
    List FarEnd → List MemDuplexState → ℕ → List ℕ → ℕ → ℕ → MemDialerState
mem_dialer_of waiting returned added failing dials faults = record {
  waiting = waiting;
  returned = returned;
  out = added - length waiting - length returned;
  failing = failing;
  dials = dials;
  faults = faults;
}

-- a dialer to which no far end was added yet
abbrev pub undialed : List ℕ → MemDialerState
undialed failing = mem_dialer_of [] [] 0 failing 0 0

-- nothing was read from the far end, and nothing was written to it
abbrev pub IsUnused : FarEnd → Type 0
IsUnused far = IsFresh (told_by_mem far.source) (told_by_sink far.sink)

-- the record of a connection that came back
abbrev pub dialed_as : MemDuplexState → Dialed
dialed_as conn = dialed_of conn.address (told_by_mem conn.source) (told_by_sink conn.sink)

-- a dialer in memory tells all of its records, and counts the broken ones among them
abbrev pub told_by_dialer : MemDialerState → DialerState
told_by_dialer state = record {
  out = state.out;
  calls = Some (map dialed_as state.returned);
  broken = count_by is_broken (map dialed_as state.returned);
  faults = state.faults;
}
