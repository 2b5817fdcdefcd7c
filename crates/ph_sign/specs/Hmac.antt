-- The keyed hash of RFC 2104 over SHA-256, whose block has 64 bytes.
use Rattle.std.specs.Prelude.{ℕ, ◌-◌, List, ◌++◌, length, map, replicate, nat_le, bit_xor, if◌then◌else◌}
use Rattle.sha2.specs.Sha256.{sha256}

-- a key over one block is hashed first
abbrev pub short_key : List ℕ → List ℕ
short_key key = if nat_le (length key) 64 then key else sha256 key

-- the key with zeros up to a block
abbrev pub block_key : List ℕ → List ℕ
block_key key = short_key key ++ replicate (64 - length (short_key key)) 0

-- each byte of a block, xored with the pad's byte
abbrev pub padded : ℕ → List ℕ → List ℕ
padded pad block = map (λ b. bit_xor b pad) block

-- the hash of the outer padded key and of the hash of the inner padded key and the text
unfoldable pub hmac_of : List ℕ → List ℕ → List ℕ
hmac_of key text = sha256 (padded 0x5c (block_key key) ++ sha256 (padded 0x36 (block_key key) ++ text))
