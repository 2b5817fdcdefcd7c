use Rattle.std.proofs.Common.{◌≡◌, drop, map}
use Rattle.httparse.specs.Spans.{header_bytes}
use Rattle.ph_http.specs.Digits.{is_same_number}
use Rattle.ph_http.specs.Headers.{all_values}
use Rattle.ph_http.proofs.fields.all_same.Given as goal

abbrev pub invariant-loop-header : goal.invariant-loop-header
invariant-loop-header l =
    all_values (is_same_number l.number) l.name (map (header_bytes l.head) (drop l.header-index l.headers)) ≡ all_values (is_same_number l.number) l.name (map (header_bytes l.head) l.headers)
