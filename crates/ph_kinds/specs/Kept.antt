-- The metadata that a new object keeps of its call.
use Rattle.std.specs.Prelude.{ℕ, List, [], ◌∷◌, Option, None, Some}
use Rattle.std.specs.List.{fold}
use Rattle.ph_kinds.specs.declared.metadata.Meta.{Meta}
use Rattle.ph_kinds.specs.declared.metadata.Meta.TheVariants as meta
use Rattle.ph_items.specs.declared.metadata_pairs.MetadataPair.{MetadataPair}
use Rattle.ph_items.specs.Metadata.{with_pair}

-- metadata with one key set to a text
abbrev pub with_key : List MetadataPair → List ℕ × List ℕ → List MetadataPair
with_key pairs named = with_pair (record { key = named.0; value = named.1 }) pairs

-- metadata with these keys set to their texts, one after another
abbrev pub with_keys : List MetadataPair → List (List ℕ × List ℕ) → List MetadataPair
with_keys pairs named = fold with_key pairs named

-- the metadata of a new object: what its call names, an empty text too
abbrev pub first_metadata : Option Meta → List MetadataPair
first_metadata None = []
first_metadata (Some meta.Clear) = []
first_metadata (Some (meta.Set named)) = with_keys [] named

-- the keys and the texts of these pairs
abbrev pub pair_texts : List (List ℕ × List ℕ) → List (List ℕ)
pair_texts [] = []
pair_texts (pair ∷ pairs) = pair.0 ∷ pair.1 ∷ pair_texts pairs

-- the texts of the metadata that a call names
abbrev pub named_texts : Option Meta → List (List ℕ)
named_texts None = []
named_texts (Some meta.Clear) = []
named_texts (Some (meta.Set named)) = pair_texts named
