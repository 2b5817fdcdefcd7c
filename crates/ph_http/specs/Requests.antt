-- The request that a head and a body make.
use Rattle.std.specs.Prelude.{ℕ, ◌+◌, Bool, ◌&&◌, ◌||◌, ◌==◌, nat_lt, List, take, drop, codes, Option, Some, None}
use Rattle.std.specs.List.{list_any, position, slice_split}
use Rattle.std.specs.Str.{str_eq_ignore_ascii_case}
use Rattle.httparse.specs.Grammar.{trim_ows}
use Rattle.ph_head.specs.Parts.{HeadParts}
use Rattle.ph_http.specs.Credentials.{auth_of}
use Rattle.ph_http.specs.Headers.{Headers, value_of, any_value}
use Rattle.ph_http.specs.declared.message.Raw.{Raw}

-- where the first question mark of the target stands
abbrev pub mark_of : List ℕ → Option ℕ
mark_of target = position (λ b. b == 63) target

-- the target up to that question mark
abbrev pub path_at : Option ℕ → List ℕ → List ℕ
path_at None target = target
path_at (Some i) target = take i target

-- what follows that question mark
abbrev pub query_at : Option ℕ → List ℕ → Option (List ℕ)
query_at None target = None
query_at (Some i) target = Some (drop (i + 1) target)

-- the text is the token `close`, with blanks around it or none
abbrev pub is_close : List ℕ → Bool
is_close text = str_eq_ignore_ascii_case (trim_ows text) (codes "close")

-- one of the tokens between the commas of the value is `close`
unfoldable pub lists_close : List ℕ → Bool
lists_close value = list_any is_close (slice_split (λ b. b == 44) value)

-- the session ends after the reply
abbrev pub closes_after : ℕ → Headers → Bool
closes_after minor headers = minor == 0 || any_value lists_close (codes "connection") headers

-- the request of these parts
unfoldable pub raw_with : List ℕ → List ℕ → ℕ → Headers → List ℕ → Raw
raw_with method target minor headers body = record {
  method = method;
  path = path_at (mark_of target) target;
  query = query_at (mark_of target) target;
  auth = auth_of headers;
  key = value_of (codes "idempotency-key") headers;
  account = value_of (codes "stripe-account") headers;
  body = body;
  close = closes_after minor headers;
}

-- the request of a head and a body
abbrev pub raw_of : HeadParts → List ℕ → Raw
raw_of head body = raw_with head.method head.target head.minor head.headers body

-- the value asks for a 100 line
abbrev pub is_expectation : List ℕ → Bool
is_expectation value = str_eq_ignore_ascii_case value (codes "100-continue")

-- a head of this version and these headers, with a body of n bytes, asks for a 100 line before the reply
unfoldable pub expects : ℕ → Headers → ℕ → Bool
expects minor headers n = minor == 1 && any_value is_expectation (codes "expect") headers && nat_lt 0 n
