-- The signature header of a webhook.
use Rattle.std.specs.Prelude.{ℕ, List, ◌∷◌, ◌++◌, codes}
use Rattle.std.specs.List.{flat_map}
use Rattle.std.specs.Fmt.{decimal}
use Rattle.hex.specs.Hex.{encode_lower}
use Rattle.ph_sign.specs.Hmac.{hmac_of}

-- the text that is signed: the moment in decimal, a dot and the body
abbrev pub signed_text : ℕ → List ℕ → List ℕ
signed_text t body = decimal t ++ 46 ∷ body

-- the signature: the keyed hash of the signed text under the secret, in lower-case hexadecimal
abbrev pub signature_of : List ℕ → ℕ → List ℕ → List ℕ
signature_of secret t body = encode_lower (hmac_of secret (signed_text t body))

-- the item of one secret
abbrev pub signature_item : ℕ → List ℕ → List ℕ → List ℕ
signature_item t body secret = codes ",v1=" ++ signature_of secret t body

-- the header: the moment, and then a signature for each secret, in order
abbrev pub signature_header : List (List ℕ) → ℕ → List ℕ → List ℕ
signature_header secrets t body = codes "t=" ++ decimal t ++ flat_map (signature_item t body) secrets
