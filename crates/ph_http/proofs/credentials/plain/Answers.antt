use Rattle.std.proofs.Common.{sym}
use Rattle.base64.specs.Engines.{standard}
use Rattle.ph_http.specs.Credentials.{plain_of}
use Rattle.ph_http.proofs.DecodedLemmas.{decoded_of-ok, decoded_of-err}
use Rattle.ph_http.proofs.credentials.plain.Goals as goal

pub returns-in-Ok : goal.returns-in-Ok
unfolding plain_of
returns-in-Ok c = sym (decoded_of-ok standard _ _ c.in-Ok.ensures.ok)

pub returns-in-Err-DecodeError : goal.returns-in-Err-DecodeError
unfolding plain_of
returns-in-Err-DecodeError c =
    let failed = rw c.in-Err-DecodeError.field-0-is at c.in-Err-DecodeError.ensures.err in
    sym (decoded_of-err standard _ c.in-Err-DecodeError.field-0-0 failed)
