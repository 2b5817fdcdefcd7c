-- The metadata that an update leaves.
use Rattle.std.specs.Prelude.{ℕ, List, [], ◌∷◌, Option, None, Some}
use Rattle.std.specs.List.{fold}
use Rattle.ph_kinds.specs.declared.metadata.Meta.{Meta}
use Rattle.ph_kinds.specs.declared.metadata.Meta.TheVariants as meta
use Rattle.ph_items.specs.declared.metadata_pairs.MetadataPair.{MetadataPair}
use Rattle.ph_items.specs.Metadata.{with_pair, without_pair}

-- metadata with one key set to a text, or without it where the text is empty
abbrev pub with_change : List MetadataPair → List ℕ → List ℕ → List MetadataPair
with_change pairs key [] = without_pair key pairs
with_change pairs key (c ∷ text) = with_pair (record { key = key; value = c ∷ text }) pairs

-- metadata after the changes of these keys, one after another
abbrev pub with_changes : List MetadataPair → List (List ℕ × List ℕ) → List MetadataPair
with_changes pairs named = fold (λ changed change. with_change changed change.0 change.1) pairs named

-- the metadata that an update leaves: what it names is changed and all else stays, or nothing stays
abbrev pub merged_metadata : Option Meta → List MetadataPair → List MetadataPair
merged_metadata None pairs = pairs
merged_metadata (Some meta.Clear) pairs = []
merged_metadata (Some (meta.Set named)) pairs = with_changes pairs named
