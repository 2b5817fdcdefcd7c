-- Metadata: a map of texts.
use Rattle.std.specs.Prelude.{ℕ, ◌==◌, ◌&&◌, nat_le, if◌then◌else◌, Bool, List, map, length, Option, Some, None, Result, Ok, Err}
use Rattle.std.specs.Str.{chars}
use Rattle.std.specs.List.{list_all}
use Rattle.ph_form.specs.declared.leaf.Leaf.{Leaf}
use Rattle.ph_kinds.specs.declared.flaw.Flaw.{Flaw}
use Rattle.ph_kinds.specs.declared.flaw.Flaw.TheVariants.{InvalidValue}
use Rattle.ph_kinds.specs.declared.metadata.Meta.{Meta}
use Rattle.ph_kinds.specs.declared.metadata.Meta.TheVariants.{Clear, Set}

-- a key of 1 to 40 characters, and a text of at most 500
abbrev pub is_metadata_entry : Leaf → Bool
is_metadata_entry entry =
    nat_le 1 (length (chars entry.name)) && nat_le (length (chars entry.name)) 40 && nat_le (length (chars entry.text)) 500

-- at most 50 such entries
abbrev pub is_metadata : List Leaf → Bool
is_metadata entries = nat_le (length entries) 50 && list_all is_metadata_entry entries

-- an entry's key and text
abbrev pub pair_of : Leaf → List ℕ × List ℕ
pair_of entry = (entry.name, entry.text)

-- what a text says of metadata: the empty text clears it
abbrev pub cleared_in : List ℕ → Result Meta Flaw
cleared_in text = if length text == 0 then Ok Clear else Err InvalidValue

-- what a map says of metadata; none of its entries are known where one is a map itself
abbrev pub metadata_in : Option (List Leaf) → Result Meta Flaw
metadata_in None = Err InvalidValue
metadata_in (Some entries) = if is_metadata entries then Ok (Set (map pair_of entries)) else Err InvalidValue
