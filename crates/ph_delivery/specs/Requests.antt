-- The request that delivers an event to an endpoint.
use Rattle.std.specs.Prelude.{◌≡◌, ℕ, ◌+◌, ◌≤◌, List, [], ◌∷◌, ◌++◌, length, codes, Contains}
use Rattle.std.specs.Fmt.{decimal}
use Rattle.ph_sign.specs.Signatures.{signature_header}
use Rattle.ph_sign.specs.Verdicts.{verdict_of}
use Rattle.ph_sign.specs.declared.verdicts.Verdict.TheVariants.{Good}

-- the end of a line
abbrev pub crlf : List ℕ
crlf = 13 ∷ 10 ∷ []

-- the request line, and the line of the host with its port
abbrev pub target_lines : List ℕ → ℕ → List ℕ → List ℕ
target_lines host port path =
    codes "POST " ++ path ++ codes " HTTP/1.1" ++ crlf
    ++ codes "Host: " ++ host ++ codes ":" ++ decimal port ++ crlf

-- the lines that every delivery has
abbrev pub plain_lines : List ℕ
plain_lines = codes "User-Agent: payhost" ++ crlf ++ codes "Content-Type: application/json" ++ crlf

-- the line of the signatures of this body at a moment, under each of these secrets
abbrev pub signature_line : List (List ℕ) → ℕ → List ℕ → List ℕ
signature_line secrets at body =
    codes "Stripe-Signature: " ++ signature_header secrets at body ++ crlf

-- the line of the body's length, the line that asks the far end to close, and the empty line
abbrev pub length_lines : ℕ → List ℕ
length_lines n =
    codes "Content-Length: " ++ decimal n ++ crlf ++ codes "Connection: close" ++ crlf ++ crlf

-- the request that delivers this body to a host, a port and a path, as it is sent at a moment
unfoldable pub delivery_request :
    List ℕ → ℕ → List ℕ → List (List ℕ) → ℕ → List ℕ → List ℕ
delivery_request host port path secrets at body =
    target_lines host port path
    ++ plain_lines
    ++ signature_line secrets at body
    ++ length_lines (length body)
    ++ body

-- the request carries the body behind a header `Stripe-Signature` that is good under each of these
-- secrets, from the moment of its signatures on until the tolerance has passed
pub record IsSigned (secrets : List (List ℕ)) (at : ℕ) (body request : List ℕ) : Type 0 where
  pub before : List ℕ
  pub signatures : List ℕ
  pub between : List ℕ
  pub carries : request
      ≡ before ++ codes "Stripe-Signature: " ++ signatures ++ crlf ++ between ++ body
  pub good : (secret : List ℕ) (now tolerance : ℕ) → Contains secrets secret → now ≤ at + tolerance
      → verdict_of signatures secret body now tolerance ≡ Good
