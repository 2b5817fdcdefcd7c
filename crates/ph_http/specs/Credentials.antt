-- The credentials that an Authorization header presents.
use Rattle.std.specs.Prelude.{ℕ, ◌+◌, ◌==◌, if◌then◌else◌, List, take, drop, codes, Option, Some, None, option_map, option_and_then}
use Rattle.std.specs.List.{position}
use Rattle.std.specs.Str.{str_eq_ignore_ascii_case}
use Rattle.base64.specs.Engines.{standard}
use Rattle.base64.specs.GeneralPurpose.{decoded_of}
use Rattle.ph_http.specs.Headers.{Headers, value_of}

-- what the text stands for in base64, in the standard alphabet with its padding, if it is such a text
unfoldable pub plain_of : List ℕ → Option (List ℕ)
plain_of text = decoded_of standard text

-- the text up to its first colon, if it has one
abbrev pub before_colon : List ℕ → Option (List ℕ)
before_colon text = option_map (λ i. take i text) (position (λ b. b == 58) text)

-- the user that Basic credentials name
abbrev pub user_of : List ℕ → Option (List ℕ)
user_of text = option_and_then before_colon (plain_of text)

-- the credentials that a text gives under this scheme, whose case doesn't count
abbrev pub by_scheme : List ℕ → List ℕ → Option (List ℕ)
by_scheme scheme text =
    if str_eq_ignore_ascii_case scheme (codes "bearer") then Some text
    else (if str_eq_ignore_ascii_case scheme (codes "basic") then user_of text else None)

-- the credentials of a value whose first space stands there
abbrev pub credentials_at : Option ℕ → List ℕ → Option (List ℕ)
credentials_at None value = None
credentials_at (Some i) value = by_scheme (take i value) (drop (i + 1) value)

-- the credentials of a value: its scheme, a space and a text
abbrev pub credentials_in : List ℕ → Option (List ℕ)
credentials_in value = credentials_at (position (λ b. b == 32) value) value

-- what the first Authorization header presents
abbrev pub auth_of : Headers → Option (List ℕ)
auth_of headers = option_and_then credentials_in (value_of (codes "authorization") headers)
