-- Which heads are taken, with a body of which length, and with which status a session closes at the others.
use Rattle.std.specs.Prelude.{ℕ, Bool, true, ◌&&◌, ◌||◌, not, nat_le, if◌then◌else◌, List, codes, bytes_eq, Option, Some, None}
use Rattle.std.specs.Str.{str_eq_ignore_ascii_case}
use Rattle.ph_head.specs.Parts.{HeadParts, parts_in}
use Rattle.ph_http.specs.Digits.{is_same_number, number_of}
use Rattle.ph_http.specs.Headers.{Headers, value_of, any_value, all_values}
use Rattle.ph_http.specs.Lines.{has_too_many_lines, has_other_version}
use Rattle.ph_http.specs.declared.verdict.Verdict.{Verdict}
use Rattle.ph_http.specs.declared.verdict.Verdict.TheVariants.{Refuses, Takes}

-- the methods that are served, whose case counts
abbrev pub is_served : List ℕ → Bool
is_served method =
    bytes_eq method (codes "GET") || bytes_eq method (codes "POST") || bytes_eq method (codes "DELETE")

-- any value at all
abbrev pub is_any : List ℕ → Bool
is_any value = true

-- a coding of the body that isn't served: any but `identity`
abbrev pub is_coded : List ℕ → Bool
is_coded value = not (str_eq_ignore_ascii_case value (codes "identity"))

-- the body would come in a transfer coding or in another content coding
abbrev pub has_coding : Headers → Bool
has_coding headers =
    any_value is_any (codes "transfer-encoding") headers || any_value is_coded (codes "content-encoding") headers

-- the greatest length of a body
abbrev pub body_limit : ℕ
body_limit = 65536

-- a body of so many bytes, at most 65,536
abbrev pub by_number : ℕ → Verdict
by_number n = if nat_le n body_limit then Takes n else Refuses 413

-- the length that the Content-Length headers give, whose first has this value: each is a number, and all the same one
abbrev pub by_length : Option (List ℕ) → Headers → Verdict
by_length None headers = Takes 0
by_length (Some value) headers =
    if all_values (is_same_number value) (codes "content-length") headers then by_number (number_of value) else Refuses 400

-- what a head of this method and these headers leads to
unfoldable pub verdict_of : List ℕ → Headers → Verdict
verdict_of method headers =
    if is_served method && not (has_coding headers) then by_length (value_of (codes "content-length") headers) headers
    else Refuses 501

pub data Judgement : Type 0 where
  -- the session closes with this status
  Closes : ℕ → Judgement
  -- a request of this head, whose body has so many bytes
  Accepts : HeadParts → ℕ → Judgement

-- by what the head leads to
abbrev pub by_verdict : HeadParts → Verdict → Judgement
by_verdict head (Refuses status) = Closes status
by_verdict head (Takes n) = Accepts head n

-- by the parts of the head that the bytes are, if they are one
abbrev pub by_head : Option HeadParts → Judgement
by_head None = Closes 400
by_head (Some head) = by_verdict head (verdict_of head.method head.headers)

-- by the version that the request line names
abbrev pub by_version : List ℕ → Judgement
by_version bytes = if has_other_version bytes then Closes 505 else by_head (parts_in bytes)

-- what is done with the bytes of a head
unfoldable pub judgement_of : List ℕ → Judgement
judgement_of bytes = if has_too_many_lines bytes then Closes 431 else by_version bytes
