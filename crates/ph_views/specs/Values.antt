-- The values that the documents of objects share.
use Rattle.std.specs.Prelude.{ℕ, ◌-◌, ◌^◌, min, pos, List, map, ◌++◌, Option, None, Some}
use Rattle.ph_base.specs.declared.ids.Kind.{Kind}
use Rattle.ph_base.specs.Ids.{prefix_of}
use Rattle.ph_base.specs.Numbers.{padded}
use Rattle.ph_items.specs.declared.metadata_pairs.MetadataPair.{MetadataPair}
use Rattle.ph_json.specs.declared.doc.Doc.{Doc}
use Rattle.ph_json.specs.declared.doc.Doc.TheVariants.{Null, Number, Text, Object}

-- a moment in seconds since 1970; the greatest number of a document stands for any later one, which no clock shows
abbrev pub moment_doc : ℕ → Doc
moment_doc moment = Number (pos (min moment (2 ^ 63 - 1)))

-- the printed id of an object: what the ids of its kind begin with, and its number in sixteen digits
unfoldable pub printed_id : Kind → ℕ → List ℕ
printed_id kind number = prefix_of kind ++ padded 16 number

-- the printed id of an object, or null where there is none
abbrev pub id_or_null : Kind → Option ℕ → Doc
id_or_null kind None = Null
id_or_null kind (Some number) = Text (printed_id kind number)

-- metadata: an object with a text for each name
abbrev pub metadata_doc : List MetadataPair → Doc
metadata_doc pairs = Object (map (λ pair. (pair.key, Text pair.value)) pairs)

-- an amount of money in minor units, or null where there is none
abbrev pub amount_or_null : Option ℕ → Doc
amount_or_null None = Null
amount_or_null (Some amount) = Number (pos amount)
