-- Texts in base64, and what they stand for.
use Rattle.std.proofs.Common.{◌≡◌, ℕ, List, Some, None, Ok, Err, ap}
use Rattle.std.specs.Result.{result_ok}
use Rattle.base64.specs.declared.decode.DecodeError.{DecodeError}
use Rattle.base64.specs.declared.engine.general_purpose.GeneralPurpose.{GeneralPurpose}
use Rattle.base64.specs.GeneralPurpose.{decode_of, decoded_of}

-- what decodes has its bytes
pub decoded_of-ok : (e : GeneralPurpose) (s b : List ℕ) → decode_of e s ≡ Ok b → decoded_of e s ≡ Some b
unfolding decoded_of
decoded_of-ok e s b h = ap result_ok h

-- what doesn't has none
pub decoded_of-err : (e : GeneralPurpose) (s : List ℕ) (d : DecodeError) → decode_of e s ≡ Err d → decoded_of e s ≡ None
unfolding decoded_of
decoded_of-err e s d h = ap result_ok h
