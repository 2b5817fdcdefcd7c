-- The head of a request as a function of its bytes: they are cut into the parts of a head, which are taken where they are of their classes and print as the bytes again.
use Rattle.std.specs.Prelude.{ℕ, zero, suc, ◌-◌, ◌==◌, ◌&&◌, nat_lt, nat_le, Bool, true, false, if◌then◌else◌, List, [], ◌∷◌, length, drop, slice_index, Option, Some, None, bytes_eq}
use Rattle.std.specs.List.{list_all}
use Rattle.std.specs.Str.{is_utf8}
use Rattle.httparse.specs.Grammar.{LineEnd, crlf, lf, Field, RequestHead, print_request, is_token_byte, is_uri_byte, is_value_byte, is_token}
use Rattle.httparse.specs.Pieces.{is_newline}

-- the bytes from the front on that pass, and those after them
abbrev pub front_that : (ℕ → Bool) → List ℕ → List ℕ × List ℕ
front_that p [] = ([], [])
front_that p (b ∷ bs) = if p b then (b ∷ (front_that p bs).0, (front_that p bs).1) else ([], b ∷ bs)

-- a line end, and what follows
abbrev pub end_at : List ℕ → LineEnd × List ℕ
end_at [] = (lf, [])
end_at (b ∷ bs) = if b == 13 then (crlf, drop 1 bs) else (lf, bs)

-- the empty lines at the front; the flag says that a CR was read
abbrev pub blank_at : Bool → List ℕ → List LineEnd × List ℕ
blank_at after [] = ([], [])
blank_at true (b ∷ bs) = (crlf ∷ (blank_at false bs).0, (blank_at false bs).1)
blank_at false (b ∷ bs) =
    if b == 10 then (lf ∷ (blank_at false bs).0, (blank_at false bs).1)
    else if b == 13 then blank_at true bs
    else ([], b ∷ bs)

-- a field line, by its name and what follows the colon
abbrev pub field_after : List ℕ → List ℕ × List ℕ → Field × List ℕ
field_after name (raw, bytes) = (record { name = name; raw = raw; end = (end_at bytes).0 }, (end_at bytes).1)

abbrev pub field_named : List ℕ × List ℕ → Field × List ℕ
field_named (name, bytes) = field_after name (front_that is_value_byte (drop 1 bytes))

abbrev pub field_at : List ℕ → Field × List ℕ
field_at bytes = field_named (front_that is_token_byte bytes)

-- at most n field lines
abbrev pub fields_at : ℕ → List ℕ → List Field × List ℕ
fields_at zero bytes = ([], bytes)
fields_at (suc n) [] = ([], [])
fields_at (suc n) (b ∷ bs) =
    if is_newline b then ([], b ∷ bs)
    else ((field_at (b ∷ bs)).0 ∷ (fields_at n (field_at (b ∷ bs)).1).0, (fields_at n (field_at (b ∷ bs)).1).1)

-- the head, stage by stage
abbrev pub after_fields : List LineEnd → List ℕ → List ℕ → ℕ → LineEnd → List Field × List ℕ → RequestHead
after_fields blank method target minor line_end (fields, bytes) = record {
  blank = blank;
  method = method;
  target = target;
  minor = minor;
  line_end = line_end;
  fields = fields;
  last = (end_at bytes).0;
}

abbrev pub after_line : List LineEnd → List ℕ → List ℕ → ℕ → LineEnd × List ℕ → RequestHead
after_line blank method target minor (line_end, bytes) =
    after_fields blank method target minor line_end (fields_at 65 bytes)

abbrev pub after_target : List LineEnd → List ℕ → List ℕ × List ℕ → RequestHead
after_target blank method (target, bytes) =
    after_line blank method target (slice_index bytes 8 - 48) (end_at (drop 9 bytes))

abbrev pub after_method : List LineEnd → List ℕ × List ℕ → RequestHead
after_method blank (method, bytes) = after_target blank method (front_that is_uri_byte (drop 1 bytes))

abbrev pub after_blank : List LineEnd × List ℕ → RequestHead
after_blank (blank, bytes) = after_method blank (front_that is_token_byte bytes)

abbrev pub cut_head : List ℕ → RequestHead
cut_head bytes = after_blank (blank_at false bytes)

abbrev pub is_field : Field → Bool
is_field f = is_token f.name && list_all is_value_byte f.raw

-- the parts are of their classes, with at most 64 fields
abbrev pub is_head : RequestHead → Bool
is_head h =
    is_token h.method
    && (nat_lt 0 (length h.target)
    && (list_all is_uri_byte h.target
    && (is_utf8 h.target
    && (nat_le h.minor 1
    && (list_all is_field h.fields && nat_le (length h.fields) 64)))))

-- the head, where the parts are one that prints these bytes
abbrev pub checked : List ℕ → RequestHead → Option RequestHead
checked bytes h = if is_head h && bytes_eq (print_request h) bytes then Some h else None

-- the head that the bytes exactly are
unfoldable pub head_of : List ℕ → Option RequestHead
head_of bytes = checked bytes (cut_head bytes)
