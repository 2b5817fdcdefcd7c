use Rattle.std.proofs.Common.{◌≡◌, true, false, sym, Bool, refl}
use Rattle.std.proofs.lemmas.Str.{IsUtf8-from_is_utf8, is_utf8-from_IsUtf8}
use Rattle.std.specs.Str.{is_utf8}
use Rattle.ph_book.proofs.judged.is_text.Goals as goal

pub returns-in-Ok : goal.returns-in-Ok
returns-in-Ok c = sym (is_utf8-from_IsUtf8 c.args.key.now (c.in-Ok.ensures.cases.1))

pub returns-in-Err : goal.returns-in-Err
returns-in-Err c =
    let key = c.args.key.now in
    elim (is_utf8 key) as (λ (b : Bool). is_utf8 key ≡ b → false ≡ b) [ true ↦ λ e. absurd (c.in-Err.ensures.cases.0 (IsUtf8-from_is_utf8 key e)) | false ↦ λ e. refl ] refl
