-- The parts of an absolute URI (RFC 3986, as the crate `http_uri` reads it), as functions of its text.
use Rattle.std.specs.Prelude.{ℕ, zero, suc, ◌+◌, ◌-◌, ◌==◌, ◌&&◌, ◌||◌, not, nat_lt, nat_le, Bool, true, if◌then◌else◌, List, [], length, take, drop, slice_index, Option, Some, None, codes, bytes_eq}
use Rattle.std.specs.List.{list_all}
use Rattle.std.specs.Str.{is_utf8}
use Rattle.http_uri.specs.ByteClasses.{is_scheme_byte, is_authority_byte, is_path_byte, is_query_byte, is_delimiter, count_of, split_once_front, split_once_back, at_sign, colon, left_bracket, percent_sign, question_mark, right_bracket, slash}
use Rattle.http_uri.specs.Grammar.{last_piece, without_fragment, scheme_len, authority_len}

-- the byte may follow the front of an authority: a colon where its piece has fewer than eight, a `[` where there is none yet and its piece has no `%`, a `]` where a `[` is and no `]` yet, or another byte of an authority
abbrev pub may_follow : List ℕ → ℕ → Bool
may_follow front b =
    is_authority_byte b
    && ((not (b == colon) || nat_lt (count_of colon (last_piece front)) 8)
    && ((not (b == left_bracket) || ((count_of left_bracket front == 0) && (count_of percent_sign (last_piece front) == 0)))
    && (not (b == right_bracket) || (nat_lt 0 (count_of left_bracket front) && (count_of right_bracket front == 0)))))

-- the test passes at each number below n
abbrev pub all_below : (ℕ → Bool) → ℕ → Bool
all_below test zero = true
all_below test (suc n) = test n && all_below test n

-- the text is userinfo, a host and a port
abbrev pub is_authority : List ℕ → Bool
is_authority text =
    nat_lt 0 (length text)
    && (all_below (λ i. may_follow (take i text) (slice_index text i)) (length text)
    && ((count_of left_bracket text == count_of right_bracket text)
    && (nat_le (count_of colon (last_piece text)) 1
    && ((count_of percent_sign (last_piece text) == 0) && not (slice_index text (length text - 1) == at_sign)))))

-- each byte may stand in a query
abbrev pub is_query : Option (List ℕ) → Bool
is_query None = true
is_query (Some query) = list_all is_query_byte query

-- the text is a path, and a query after the first `?`; or `*`
abbrev pub is_path_and_query : List ℕ → Bool
is_path_and_query text =
    (bytes_eq text [] || (bytes_eq text (codes "*") || ((slice_index text 0 == slash) || (slice_index text 0 == question_mark))))
    && (list_all is_path_byte (split_once_front question_mark text)
    && (is_query (split_once_back question_mark text) && (is_utf8 text && nat_le (length text) 65534)))

-- the text is a path and a query, and then a fragment, which may hold anything
abbrev pub is_path_input : List ℕ → Bool
is_path_input text =
    (bytes_eq text (codes "*") || is_delimiter (slice_index text 0))
    && (nat_le (length text) 65534 && is_path_and_query (without_fragment text))

-- the text may follow an authority
abbrev pub is_tail : List ℕ → Bool
is_tail text = bytes_eq text [] || (is_delimiter (slice_index text 0) && is_path_input text)

-- what is kept of it: `/` for none, and no fragment
abbrev pub kept_of : List ℕ → List ℕ
kept_of text = if bytes_eq text [] then codes "/" else without_fragment text

-- the scheme as it is written
abbrev pub name_of : List ℕ → List ℕ
name_of text = take (scheme_len text) text

-- what follows the scheme and `://`
abbrev pub rest_of : List ℕ → List ℕ
rest_of text = drop (scheme_len text + 3) text

-- the authority: what stands before the first `/`, `?` or `#`
abbrev pub authority_of : List ℕ → List ℕ
authority_of text = take (authority_len (rest_of text)) (rest_of text)

-- what follows the authority
abbrev pub tail_of : List ℕ → List ℕ
tail_of text = drop (authority_len (rest_of text)) (rest_of text)

-- the text is `scheme://authority` and a tail
unfoldable pub is_absolute : List ℕ → Bool
is_absolute text =
    nat_le (length text) 65534
    && ((nat_lt 3 (length text) && bytes_eq (take 3 (drop (scheme_len text) text)) (codes "://"))
    && ((list_all is_scheme_byte (name_of text) && nat_le (length (name_of text)) 64)
    && (is_authority (authority_of text) && is_tail (tail_of text))))
