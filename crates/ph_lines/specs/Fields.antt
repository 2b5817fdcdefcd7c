-- The text of a field, and of a line by its fields.
use Rattle.std.specs.Prelude.{ℕ, Bool, true, false, List, [], ◌∷◌, ◌++◌, codes, Option, Some, None}
use Rattle.std.specs.List.{flat_map, join_with_byte}
use Rattle.std.specs.Fmt.{decimal}
use Rattle.hex.specs.Hex.{encode_lower}
use Rattle.ph_lines.specs.declared.fields.Field.{Field}
use Rattle.ph_lines.specs.declared.fields.Field.TheVariants as field

-- bytes that may be absent: an equals sign and their digits in lower-case hexadecimal, or a hyphen
abbrev pub octets : Option (List ℕ) → List ℕ
octets None = codes "-"
octets (Some bytes) = 61 ∷ encode_lower bytes

-- whether something is so
abbrev pub flag : Bool → List ℕ
flag true = codes "1"
flag false = codes "0"

-- the text of a field
abbrev pub field_text : Field → List ℕ
field_text (field.Word word) = word.now
field_text (field.Number number) = decimal number
field_text (field.Octets None) = octets None
field_text (field.Octets (Some bytes)) = octets (Some bytes.now)
field_text (field.Flag holds) = flag holds

-- a line without its LF: its fields, with a space between them
abbrev pub joined : List (List ℕ) → List ℕ
joined fields = join_with_byte 32 fields

-- each field with a space before it
abbrev pub spaced : List Field → List ℕ
spaced fields = flat_map (λ field. 32 ∷ field_text field) fields

-- a line with its LF
abbrev pub with_lf : List ℕ → List ℕ
with_lf line = line ++ 10 ∷ []

-- the text of a line of these fields
unfoldable pub line_text : List (List ℕ) → List ℕ
line_text fields = with_lf (joined fields)

-- lines as one text, each with its LF
abbrev pub text_of : List (List ℕ) → List ℕ
text_of lines = flat_map with_lf lines
