-- What a source and a sink tell of themselves.
use Rattle.std.specs.Prelude.{◌≡◌, ℕ, List, [], ◌++◌, Option, None, Some, option_map}
use Rattle.ph_io.specs.declared.address.Address.{Address}

-- what a source tells: the bytes that it has left and those that were read, where it tells them,
-- how often a read answered the end, and how often one failed
pub record SourceState : Type 0 where
  pub left : Option (List ℕ)
  pub taken : Option (List ℕ)
  pub ends : ℕ
  pub faults : ℕ

-- what a sink tells: the bytes that were written, where it tells them, and how often a write failed
pub record SinkState : Type 0 where
  pub written : Option (List ℕ)
  pub faults : ℕ

-- what a connection tells beside its source: its sink and its address, which no read changes
pub record BesideSource : Type 0 where
  pub sink : SinkState
  pub address : Option Address

-- what a connection tells beside its sink: its source and its address, which no write changes
pub record BesideSink : Type 0 where
  pub source : SourceState
  pub address : Option Address

-- a source that is no sink has nothing beside it
abbrev pub lone_source : BesideSource
lone_source = record { sink = record { written = None; faults = 0 }; address = None }

-- a sink that is no source has nothing beside it
abbrev pub lone_sink : BesideSink
lone_sink = record {
  source = record { left = None; taken = None; ends = 0; faults = 0 };
  address = None;
}

-- the list with these bytes behind it, where the list is told
abbrev pub followed_by : Option (List ℕ) → List ℕ → Option (List ℕ)
followed_by told bytes = option_map (λ list. list ++ bytes) told

-- the list with these bytes in front of it, where the list is told
abbrev pub preceded_by : Option (List ℕ) → List ℕ → Option (List ℕ)
preceded_by told bytes = option_map (λ list. bytes ++ list) told

-- a list that is told is empty
abbrev pub IsSpent : Option (List ℕ) → Type 0
IsSpent None = Unit {0}
IsSpent (Some list) = list ≡ []
