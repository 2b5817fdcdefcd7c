-- Reading the fields of a line from the left: a field is what prints as it, and nothing else.
use Rattle.std.specs.Prelude.{◌≡◌, ℕ, ◌==◌, Bool, true, false, List, [], ◌∷◌, length, codes, if◌then◌else◌, Option, Some, None, Result, Ok, Err}
use Rattle.std.specs.List.{slice_split}
use Rattle.std.specs.Str.{bytes_eq}
use Rattle.std.specs.Fmt.{decimal}
use Rattle.hex.specs.Hex.{encode_lower, decode_of}
use Rattle.hex.specs.declared.error.FromHexError.{FromHexError}
use Rattle.ph_base.specs.Numbers.{number_in}
use Rattle.ph_lines.specs.declared.reading.Unread.{Unread}
use Rattle.ph_lines.specs.declared.reading.Unread.TheVariants as unread

infixl 10 ◌>>=◌
abbrev pub ◌>>=◌ : {A B : Type 0} → Option A → (A → Option B) → Option B
(Some x) >>= f = f x
None >>= f = None

-- a reader that gave up: nothing is read there, unless memory ran out
abbrev pub Fails : {Y : Type 0} → Unread → Option Y → Type 0
Fails unread.NoMemory read = Unit {0}
Fails unread.Form read = read ≡ None

-- a reader gave what is read there, unless memory ran out
abbrev pub Gives : {X Y : Type 0} → (X → Y) → Result X Unread → Option Y → Type 0
Gives view (Ok x) read = read ≡ Some (view x)
Gives view (Err why) read = Fails why read

abbrev pub is_space : ℕ → Bool
is_space b = b == 32

-- the fields of what is left of a line, where something is left
abbrev pub fields_left : Option (List ℕ) → List (List ℕ)
fields_left None = []
fields_left (Some line) = slice_split is_space line

-- a number in decimal, without leading zeros
unfoldable pub number_of : List ℕ → Option ℕ
number_of word = number_in word >>= λ n. if bytes_eq (decimal n) word then Some n else None

-- the bytes of hexadecimal digits, where these are the digits of those bytes in lower case
abbrev pub lower_only : List ℕ → Result (List ℕ) FromHexError → Option (List ℕ)
lower_only text (Ok bytes) = if bytes_eq (encode_lower bytes) text then Some bytes else None
lower_only text (Err why) = None

-- bytes in lower-case hexadecimal
unfoldable pub hex_of : List ℕ → Option (List ℕ)
hex_of text = lower_only text (decode_of text)

-- bytes that are there: an equals sign and their digits
abbrev pub behind_equals : List ℕ → Option (Option (List ℕ))
behind_equals [] = None
behind_equals (c ∷ text) = if c == 61 then (hex_of text >>= λ bytes. Some (Some bytes)) else None

-- bytes that may be absent
unfoldable pub octets_of : List ℕ → Option (Option (List ℕ))
octets_of word = if bytes_eq word (codes "-") then Some None else behind_equals word

-- whether something is so
abbrev pub flag_of : List ℕ → Option Bool
flag_of word = if bytes_eq word (codes "0") then Some false else if bytes_eq word (codes "1") then Some true else None

-- the first of these fields, and those behind it
abbrev pub field_at : List (List ℕ) → Option (List ℕ × List (List ℕ))
field_at [] = None
field_at (word ∷ words) = Some (word, words)

-- what the first of these fields is, and the fields behind it
unfoldable pub by_word : {X : Type 0} → (List ℕ → Option X) → List (List ℕ) → Option (X × List (List ℕ))
by_word read words = do
  word ← field_at words
  x ← read word.0
  Some (x, word.1)

abbrev pub number_at : List (List ℕ) → Option (ℕ × List (List ℕ))
number_at words = by_word number_of words

abbrev pub octets_at : List (List ℕ) → Option (Option (List ℕ) × List (List ℕ))
octets_at words = by_word octets_of words

abbrev pub flag_at : List (List ℕ) → Option (Bool × List (List ℕ))
flag_at words = by_word flag_of words

abbrev pub present : Option (List ℕ) → Option (List ℕ)
present found = found

-- bytes that may not be absent
abbrev pub bytes_at : List (List ℕ) → Option (List ℕ × List (List ℕ))
bytes_at words = do
  found ← octets_at words
  bytes ← present found.0
  Some (bytes, found.1)

-- what was read, where no field is left behind it
abbrev pub all_read : {X : Type 0} → X × List (List ℕ) → Option X
all_read read = if length read.1 == 0 then Some read.0 else None
