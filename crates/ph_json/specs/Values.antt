-- Members whose value may be missing.
use Rattle.std.specs.Prelude.{ℕ, ℤ, List, [], ◌∷◌, Option, Some, None}
use Rattle.ph_json.specs.declared.doc.Doc.{Doc}
use Rattle.ph_json.specs.declared.doc.Doc.TheVariants.{Null, Number, Text}

-- the number, or null where there is none
abbrev pub number_or_null : Option ℤ → Doc
number_or_null None = Null
number_or_null (Some number) = Number number

-- the text, or null where there is none
abbrev pub text_or_null : Option (List ℕ) → Doc
text_or_null None = Null
text_or_null (Some text) = Text text

-- the member with this key, left out where there is no value
abbrev pub member_if : List ℕ → Option Doc → List (List ℕ × Doc)
member_if key None = []
member_if key (Some value) = (key, value) ∷ []
