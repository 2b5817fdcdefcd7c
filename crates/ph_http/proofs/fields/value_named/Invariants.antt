use Rattle.std.proofs.Common.{◌≡◌, drop, map}
use Rattle.httparse.specs.Spans.{header_bytes}
use Rattle.ph_http.specs.Headers.{value_of}
use Rattle.ph_http.proofs.fields.value_named.Given as goal

abbrev pub invariant-loop-header : goal.invariant-loop-header
invariant-loop-header l = value_of l.name (map (header_bytes l.head) (drop l.header-index l.headers)) ≡ value_of l.name (map (header_bytes l.head) l.headers)
