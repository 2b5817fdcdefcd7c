-- Headers by their names, which ignore ASCII case.
use Rattle.std.specs.Prelude.{ℕ, Bool, ◌&&◌, ◌||◌, not, List, Option, option_map}
use Rattle.std.specs.List.{find, list_all, list_any}
use Rattle.std.specs.Str.{str_eq_ignore_ascii_case}

-- a list of headers: each one's name and its trimmed value
abbrev pub Headers : Type 0
Headers = List (List ℕ × List ℕ)

-- the header has this name
abbrev pub has_name : List ℕ → List ℕ × List ℕ → Bool
has_name name header = str_eq_ignore_ascii_case header.0 name

-- the value of the first header of this name
unfoldable pub value_of : List ℕ → Headers → Option (List ℕ)
value_of name headers = option_map (λ header. header.1) (find (has_name name) headers)

-- some header of this name has a value that passes
unfoldable pub any_value : (List ℕ → Bool) → List ℕ → Headers → Bool
any_value passes name headers = list_any (λ header. has_name name header && passes header.1) headers

-- each header of this name has a value that passes
unfoldable pub all_values : (List ℕ → Bool) → List ℕ → Headers → Bool
all_values passes name headers = list_all (λ header. not (has_name name header) || passes header.1) headers
