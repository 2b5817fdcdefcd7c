-- The address of an endpoint: scheme `http`, a host, a port and a path.
use Rattle.std.specs.Prelude.{ℕ, ◌==◌, ◌&&◌, not, nat_lt, nat_le, if◌then◌else◌, List, [], ◌∷◌, ◌++◌, length, drop, Option, Some, None, codes, bytes_eq}
use Rattle.std.specs.List.{list_any}
use Rattle.http_uri.specs.ByteClasses.{at_sign, colon, framed_text}
use Rattle.http_uri.specs.Grammar.{authority_host, normal_scheme, path_of, query_of}
use Rattle.ph_base.specs.Numbers.{number_in}
use Rattle.ph_address.specs.declared.address.Address.{Address}
use Rattle.ph_address.specs.Absolute.{is_absolute, name_of, authority_of, tail_of, kept_of}

-- the number, where it is from 1 to 65535
abbrev pub port_in : Option ℕ → Option ℕ
port_in None = None
port_in (Some n) = if nat_le 1 n && nat_le n 65535 then Some n else None

-- the port of what follows the host: 80 for nothing, or the digits after a colon
abbrev pub port_from : List ℕ → Option ℕ
port_from [] = Some 80
port_from (b ∷ digits) = if b == colon then port_in (number_in digits) else None

-- the path, `/` where there is none, with its query
abbrev pub target_of : List ℕ → List ℕ
target_of kept = path_of kept ++ framed_text (codes "?") (query_of kept) []

-- the address with this host and path, where there is a port
abbrev pub address_at : List ℕ → List ℕ → List ℕ → Option ℕ → Option Address
address_at url host path None = None
address_at url host path (Some port) = Some (record { url = url; host = host; port = port; path = path })

-- the address of a text with this scheme, authority, and path with query: the scheme is `http`, the authority has no `@`, and there is a host
abbrev pub address_in : List ℕ → List ℕ → List ℕ → List ℕ → Option Address
address_in url scheme authority kept =
    if bytes_eq scheme (codes "http") && (not (list_any (λ b. b == at_sign) authority) && nat_lt 0 (length (authority_host authority)))
    then address_at url (authority_host authority) (target_of kept) (port_from (drop (length (authority_host authority)) authority))
    else None

-- the same of a text that may have no scheme or no authority
abbrev pub address_from : List ℕ → Option (List ℕ) → Option (List ℕ) → List ℕ → Option Address
address_from url None authority kept = None
address_from url (Some scheme) None kept = None
address_from url (Some scheme) (Some authority) kept = address_in url scheme authority kept

-- the address that a text is
unfoldable pub address_of : List ℕ → Option Address
address_of text =
    if is_absolute text
    then address_in text (normal_scheme (name_of text)) (authority_of text) (kept_of (tail_of text))
    else None
