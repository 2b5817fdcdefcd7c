-- The pairs of a form: names and texts, as the WHATWG URL standard decodes them.
use Rattle.std.specs.Prelude.{ℕ, List, ◌++◌, map, String, string_bytes}
use Rattle.std.specs.declared.alloc.Global.{Global}
use Rattle.std.specs.Str.Lossy.{utf8_lossy}
use Rattle.form_urlencoded.specs.Form.{decode, raw_pairs}

-- the text of an encoded name or value: the decoded bytes, with U+FFFD where they are no UTF-8
abbrev pub text_of : List ℕ → List ℕ
text_of raw = utf8_lossy (decode raw)

-- a name and a value, decoded
abbrev pub pair_of : List ℕ × List ℕ → List ℕ × List ℕ
pair_of p = (text_of p.0, text_of p.1)

-- the pairs of a query or a body; an empty piece between two `&` is no pair
abbrev pub pairs_of : List ℕ → List (List ℕ × List ℕ)
pairs_of input = map pair_of (raw_pairs input)

-- the pairs of the query, and after them those of the body
abbrev pub pairs_in : List ℕ → List ℕ → List (List ℕ × List ℕ)
pairs_in query body = pairs_of query ++ pairs_of body

-- the bytes of a pair of strings
abbrev pub pair_bytes : String Global × String Global → List ℕ × List ℕ
pair_bytes p = (string_bytes p.0, string_bytes p.1)
