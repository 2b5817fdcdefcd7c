-- The parts of a head that decide what is done with it.
use Rattle.std.specs.Prelude.{ℕ, List, map, take, Option, option_map}
use Rattle.httparse.specs.Grammar.{RequestHead}
use Rattle.httparse.specs.Spans.{name_and_value, header_bytes, span_bytes}
use Rattle.httparse.specs.declared.spans.HeaderSpan.{HeaderSpan}
use Rattle.httparse.specs.declared.spans.RequestSpans.{RequestSpans}
use Rattle.ph_head.specs.Reader.{head_of}

-- the method, the target, the minor version, and each header's name and trimmed value in their order
pub record HeadParts : Type 0 where
  pub method : List ℕ
  pub target : List ℕ
  pub minor : ℕ
  pub headers : List (List ℕ × List ℕ)

-- the parts of a head
abbrev pub parts_of : RequestHead → HeadParts
parts_of head = record {
  method = head.method;
  target = head.target;
  minor = head.minor;
  headers = map name_and_value head.fields;
}

-- the parts of the head that the bytes exactly are
abbrev pub parts_in : List ℕ → Option HeadParts
parts_in bytes = option_map parts_of (head_of bytes)

-- the headers that stand at these spans
abbrev pub headers_at : List ℕ → List HeaderSpan → RequestSpans → List (List ℕ × List ℕ)
headers_at bytes room spans = map (header_bytes bytes) (take spans.headers room)

-- the parts that stand at these spans
abbrev pub parts_at : List ℕ → List HeaderSpan → RequestSpans → HeadParts
parts_at bytes room spans = record {
  method = span_bytes bytes spans.method;
  target = span_bytes bytes spans.path;
  minor = spans.version;
  headers = headers_at bytes room spans;
}
