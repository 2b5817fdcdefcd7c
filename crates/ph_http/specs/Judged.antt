-- What is done with the bytes of a head, by the places where its parts stand.
use Rattle.std.specs.Prelude.{ℕ, List}
use Rattle.httparse.specs.Spans.{IsRequestWithin}
use Rattle.httparse.specs.declared.spans.HeaderSpan.{HeaderSpan}
use Rattle.ph_head.specs.Parts.{parts_at}
use Rattle.ph_http.specs.Verdict.{Judgement, Closes, Accepts}
use Rattle.ph_http.specs.declared.judged.Judged.{Judged}
use Rattle.ph_http.specs.declared.judged.Judged.TheVariants as by_places

-- the parts stand within the bytes
abbrev pub IsWithinHead : List ℕ → List HeaderSpan → Judged → Type 0
IsWithinHead bytes room (by_places.Closes status) = Unit {0}
IsWithinHead bytes room (by_places.Accepts spans n) = IsRequestWithin bytes room spans

-- the same, with the parts themselves
abbrev pub told_at : List ℕ → List HeaderSpan → Judged → Judgement
told_at bytes room (by_places.Closes status) = Closes status
told_at bytes room (by_places.Accepts spans n) = Accepts (parts_at bytes room spans) n
