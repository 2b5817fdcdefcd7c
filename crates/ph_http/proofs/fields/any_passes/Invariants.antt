use Rattle.std.proofs.Common.{◌≡◌, drop, map}
use Rattle.httparse.specs.Spans.{header_bytes}
use Rattle.ph_http.specs.Headers.{any_value}
use Rattle.ph_http.specs.ValueTests.{passes}
use Rattle.ph_http.proofs.fields.any_passes.Given as goal

abbrev pub invariant-loop-header : goal.invariant-loop-header
invariant-loop-header l =
    any_value (passes l.test) l.name (map (header_bytes l.head) (drop l.header-index l.headers)) ≡ any_value (passes l.test) l.name (map (header_bytes l.head) l.headers)
