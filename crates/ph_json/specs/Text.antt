-- The JSON text of a document (RFC 8259).
use Rattle.std.specs.Prelude.{ℕ, List, [], ◌++◌, true, false, map, fold, codes}
use Rattle.std.specs.Cmp.Lexicographic.{slice_cmp}
use Rattle.std.specs.Fmt.{signed_decimal}
use Rattle.std.specs.List.{join_with_byte}
use Rattle.std.specs.Ordering.{nat_cmp}
use Rattle.std.specs.Str.Lossy.{utf8_lossy}
use Rattle.std.specs.BTreeMap.{insert_entry}
use Rattle.json.specs.Print.{quoted}
use Rattle.ph_json.specs.declared.doc.Doc.{Doc}
use Rattle.ph_json.specs.declared.doc.Doc.TheOpen.{Doc-F}
use Rattle.ph_json.specs.declared.doc.Doc.TheFolds.{fold-Doc}

-- the members in the byte order of their keys, each key once; of equal keys the last one counts
abbrev pub by_key : List (List ℕ × List ℕ) → List (List ℕ × List ℕ)
by_key members = fold (λ sorted member. insert_entry (slice_cmp nat_cmp) sorted (utf8_lossy member.0) member.1) [] members

-- a member: its key in quotes, a colon, and the text of its value
abbrev pub member_text : List ℕ × List ℕ → List ℕ
member_text member = quoted member.0 ++ codes ":" ++ member.1

-- one level, with the text of each document inside in its place; between quotes `"` and `\` follow a backslash,
-- the bytes below 32 are \b, \f, \n, \r, \t or \u00 and two lower-case digits, and all others stand as they are
abbrev pub text_step : Doc-F (List ℕ) → List ℕ
text_step Doc-F.Null = codes "null"
text_step (Doc-F.Truth true) = codes "true"
text_step (Doc-F.Truth false) = codes "false"
text_step (Doc-F.Number number) = signed_decimal number
text_step (Doc-F.Text text) = quoted (utf8_lossy text)
text_step (Doc-F.List texts) = codes "[" ++ join_with_byte 44 texts ++ codes "]"
text_step (Doc-F.Object members) = codes "{" ++ join_with_byte 44 (map member_text (by_key members)) ++ codes "}"

-- the text of a document
abbrev pub text_of : Doc → List ℕ
text_of = fold-Doc (List ℕ) text_step

-- a member's key, and the text of its value
abbrev pub member_of : List ℕ × Doc → List ℕ × List ℕ
member_of member = (member.0, text_of member.1)
