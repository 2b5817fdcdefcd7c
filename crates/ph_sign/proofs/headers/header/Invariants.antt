use Rattle.std.proofs.Common.{◌≡◌, ◌++◌, drop}
use Rattle.std.specs.List.{flat_map}
use Rattle.ph_sign.specs.Signatures.{signature_header, signature_item}
use Rattle.ph_sign.proofs.headers.header.Given as goal

-- what is written, and the items of the secrets that are left, are the header
abbrev pub invariant-secrets : goal.invariant-secrets
invariant-secrets l =
    l.text.items ++ flat_map (signature_item l.t l.body) (drop l.secret-index l.secrets) ≡ signature_header l.secrets l.t l.body
