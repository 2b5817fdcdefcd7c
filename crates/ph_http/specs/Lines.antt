-- The lines of a head, behind the CR and LF bytes that it begins with.
use Rattle.std.specs.Prelude.{ℕ, ◌-◌, Bool, ◌&&◌, ◌||◌, not, ◌==◌, nat_le, nat_lt, if◌then◌else◌, List, length, take, drop, slice_index, count_by, codes, bytes_eq}
use Rattle.std.specs.List.{before_first}
use Rattle.std.specs.Char.{is_ascii_digit}
use Rattle.ph_http.specs.Cut.{leading}

-- the bytes of the lines, from the request line on
abbrev pub lines_of : List ℕ → List ℕ
lines_of head = drop (leading head) head

-- how many lines the head has: each ends with an LF, the empty one too
abbrev pub line_count : List ℕ → ℕ
line_count head = count_by (λ b. b == 10) (lines_of head)

-- a request line, 64 headers and the empty line
abbrev pub line_limit : ℕ
line_limit = 66

-- the head has more lines than that
unfoldable pub has_too_many_lines : List ℕ → Bool
has_too_many_lines head = nat_lt line_limit (line_count head)

-- the line without the CR that it ends with, if it does
abbrev pub without_cr : List ℕ → List ℕ
without_cr line =
    if nat_lt 0 (length line) && slice_index line (length line - 1) == 13 then take (length line - 1) line else line

-- the request line, without its line end
abbrev pub request_line : List ℕ → List ℕ
request_line head = without_cr (before_first (λ b. b == 10) (lines_of head))

-- the text is a version: `HTTP/`, a digit, a point and a digit
abbrev pub is_version : List ℕ → Bool
is_version text =
    bytes_eq (take 5 text) (codes "HTTP/") && is_ascii_digit (slice_index text 5)
    && slice_index text 6 == 46 && is_ascii_digit (slice_index text 7)

-- one of the versions that are spoken
abbrev pub is_spoken : List ℕ → Bool
is_spoken text = bytes_eq text (codes "HTTP/1.0") || bytes_eq text (codes "HTTP/1.1")

-- the line ends with a version, and not with one of those
abbrev pub names_other_version : List ℕ → Bool
names_other_version line =
    nat_le 8 (length line) && is_version (drop (length line - 8) line) && not (is_spoken (drop (length line - 8) line))

-- the request line of the head ends with another version
unfoldable pub has_other_version : List ℕ → Bool
has_other_version head = names_other_version (request_line head)
