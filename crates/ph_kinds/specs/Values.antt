-- The values that a form gives under a name.
use Rattle.std.specs.Prelude.{ℕ, Bool, true, false, List, Option, Some, None, Result, Ok, Err}
use Rattle.ph_form.specs.declared.leaf.Leaf.{Leaf}
use Rattle.ph_form.specs.Readers.{entries_at, has_below, text_at}
use Rattle.ph_kinds.specs.declared.flaw.Flaw.{Flaw}
use Rattle.ph_kinds.specs.Kind.{Kind}
use Rattle.ph_kinds.specs.Kinds.{Value, map_value, text_value}

-- the text there, none where nothing is there, or this flaw where a map is
abbrev pub only_text : Flaw → Option (List ℕ) → Bool → Result (Option (List ℕ)) Flaw
only_text flaw (Some text) below = Ok (Some text)
only_text flaw None true = Err flaw
only_text flaw None false = Ok None

-- a value that is there
abbrev pub there : {X : Type 0} → Result X Flaw → Result (Option X) Flaw
there (Ok value) = Ok (Some value)
there (Err flaw) = Err flaw

-- the value of a kind where this text stands, or else a map of these entries, where one does
abbrev pub value_by : (k : Kind) → Option (List ℕ) → Bool → Option (List Leaf) → Result (Option (Value k)) Flaw
value_by k (Some text) below entries = there (text_value k text)
value_by k None true entries = there (map_value k entries)
value_by k None false entries = Ok None

-- the value of a kind under a name, none where nothing stands there, or the flaw of what does
abbrev pub value_at : (k : Kind) → List ℕ → List Leaf → Result (Option (Value k)) Flaw
value_at k name leaves = value_by k (text_at name leaves) (has_below name leaves) (entries_at name leaves)
