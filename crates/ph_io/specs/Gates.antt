-- What a gate tells of itself, and what its calls change in that.
use Rattle.std.specs.Prelude.{◌≡◌, ℕ, ◌+◌, ◌≤◌, List, [], ◌∷◌, ◌++◌, length, Option, option_map, Bool, true, false}
use Rattle.ph_base.specs.Counts.{Rose}
use Rattle.ph_io.specs.Told.{SourceState, SinkState, IsSpent}
use Rattle.ph_io.specs.declared.end.End.{End}

-- the record of a connection that came back: what its source and its sink told then, which is the
-- bytes that it had left, those that were read and written, and how often its reads and writes
-- failed; and how its session ended
pub record Return : Type 0 where
  pub source : SourceState
  pub sink : SinkState
  pub end : End

-- the record of a connection that tells this and whose session ended so
abbrev pub return_of : SourceState → SinkState → End → Return
return_of source sink end = record { source = source; sink = sink; end = end }

-- what a gate tells: how many connections it handed out, how many of them haven't come back yet,
-- the records of those that came back, where it tells them, whether its last answer was that there
-- are no more, and how often it failed
pub record GateState : Type 0 where
  pub given : ℕ
  pub out : ℕ
  pub returned : Option (List Return)
  pub ended : Bool
  pub faults : ℕ

-- of this connection nothing was read, to it nothing was written, and no call of it ended or failed
pub record IsFresh (source : SourceState) (sink : SinkState) : Type 0 where
  pub taken : IsSpent source.taken
  pub written : IsSpent sink.written
  pub ends : source.ends ≡ 0
  pub read_faults : source.faults ≡ 0
  pub write_faults : sink.faults ≡ 0

-- a connection was handed out: one more was given, and one more is out
pub record Gives (old new : GateState) : Type 0 where
  pub given : new.given ≡ old.given + 1
  pub out : new.out ≡ old.out + 1
  pub returned : new.returned ≡ old.returned
  pub ended : new.ended ≡ false
  pub faults : new.faults ≡ old.faults

-- there were no more connections
pub record GateEnds (old new : GateState) : Type 0 where
  pub given : new.given ≡ old.given
  pub out : new.out ≡ old.out
  pub returned : new.returned ≡ old.returned
  pub ended : new.ended ≡ true
  pub faults : new.faults ≡ old.faults

-- the gate failed, handed out nothing, and counted a fault
pub record GateFails (old new : GateState) : Type 0 where
  pub given : new.given ≡ old.given
  pub out : new.out ≡ old.out
  pub returned : new.returned ≡ old.returned
  pub ended : new.ended ≡ false
  pub counted : Rose old.faults new.faults
  pub not_fallen : old.faults ≤ new.faults

-- the records with these behind them, where they are told
abbrev pub returned_and : Option (List Return) → List Return → Option (List Return)
returned_and told more = option_map (λ records. records ++ more) told

-- a connection came back: one less is out, and its record stands behind the earlier ones
pub record TakesBack (old new : GateState) (back : Return) : Type 0 where
  pub given : new.given ≡ old.given
  pub out : old.out ≡ new.out + 1
  pub returned : new.returned ≡ returned_and old.returned (back ∷ [])
  pub ended : new.ended ≡ old.ended
  pub faults : new.faults ≡ old.faults

-- connections were handed out, and as many came back, with these records; the gate didn't fail
pub record AllBack (old new : GateState) (records : List Return) : Type 0 where
  pub given : new.given ≡ old.given + length records
  pub out : new.out ≡ old.out
  pub returned : new.returned ≡ returned_and old.returned records
  pub faults : new.faults ≡ old.faults

-- all that were handed out came back, with these records, and then there were no more
pub record EndsAllBack (old new : GateState) (records : List Return) : Type 0 where
  pub all_back : AllBack old new records
  pub ended : new.ended ≡ true

-- all that were handed out came back, with these records, and then the gate failed
pub record FailsAllBack (old new : GateState) (records : List Return) : Type 0 where
  pub given : new.given ≡ old.given + length records
  pub out : new.out ≡ old.out
  pub returned : new.returned ≡ returned_and old.returned records
  pub ended : new.ended ≡ false
  pub counted : Rose old.faults new.faults
  pub not_fallen : old.faults ≤ new.faults
