-- What a dialer tells of itself, and what its calls change in that.
use Rattle.std.specs.Prelude.{◌≡◌, ℕ, ◌+◌, ◌≤◌, nat_lt, Bool, true, false, List, [], ◌∷◌, ◌++◌, Option, Some, None, option_map}
use Rattle.ph_base.specs.Counts.{Rose}
use Rattle.ph_io.specs.Told.{SourceState, SinkState}
use Rattle.ph_io.specs.declared.address.Address.{Address}

-- the record of a connection that came back: where it led to, where it told that, and what its
-- source and its sink told then, which is the bytes that it had left, those that were read and
-- written, and how often its reads and writes failed
pub record Dialed : Type 0 where
  pub address : Option Address
  pub source : SourceState
  pub sink : SinkState

-- the record of a connection that tells this
abbrev pub dialed_of : Option Address → SourceState → SinkState → Dialed
dialed_of address source sink = record { address = address; source = source; sink = sink }

-- what a dialer tells: how many connections it opened that haven't come back yet, the records of
-- those that came back, where it tells them, how many of these were broken, and how often it failed
pub record DialerState : Type 0 where
  pub out : ℕ
  pub calls : Option (List Dialed)
  pub broken : ℕ
  pub faults : ℕ

-- where a dialer tells its records, the connection tells that it leads to this host and port
abbrev pub LeadsTo : Option (List Dialed) → Option Address → List ℕ → ℕ → Type 0
LeadsTo None address host port = Unit {0}
LeadsTo (Some calls) address host port = address ≡ Some (record { host = host; port = port })

-- a connection was opened: one more is out
pub record Dials (old new : DialerState) : Type 0 where
  pub out : new.out ≡ old.out + 1
  pub calls : new.calls ≡ old.calls
  pub broken : new.broken ≡ old.broken
  pub faults : new.faults ≡ old.faults

-- the dialer failed, opened nothing, and counted a fault
pub record DialFails (old new : DialerState) : Type 0 where
  pub out : new.out ≡ old.out
  pub calls : new.calls ≡ old.calls
  pub broken : new.broken ≡ old.broken
  pub counted : Rose old.faults new.faults
  pub not_fallen : old.faults ≤ new.faults

-- a read or a write of the connection failed
abbrev pub is_broken : Dialed → Bool
is_broken back = nat_lt 0 (back.source.faults + back.sink.faults)

-- the count of the broken connections rose where this one is broken, and only there
abbrev pub Tells : Bool → ℕ → ℕ → Type 0
Tells true old new = Rose old new × (old ≤ new)
Tells false old new = new ≡ old

-- the records with this one behind them, where they are told
abbrev pub calls_and : Option (List Dialed) → Dialed → Option (List Dialed)
calls_and told back = option_map (λ records. records ++ back ∷ []) told

-- a connection came back: one less is out, its record stands behind the earlier ones, and it is
-- counted where it is broken
pub record HangsUp (old new : DialerState) (back : Dialed) : Type 0 where
  pub out : old.out ≡ new.out + 1
  pub calls : new.calls ≡ calls_and old.calls back
  pub broken : Tells (is_broken back) old.broken new.broken
  pub faults : new.faults ≡ old.faults
