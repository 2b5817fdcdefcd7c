-- The leaves of a form: a finite map from names to texts, built pair by pair.
use Rattle.std.specs.Prelude.{ℕ, zero, suc, ◌+◌, ◌==◌, nat_lt, not, ◌||◌, Bool, if◌then◌else◌, List, [], ◌∷◌, length, Option, Some, None, unwrap_or, Result, Ok, Err}
use Rattle.std.specs.List.{list_any}
use Rattle.std.specs.Fmt.{decimal}
use Rattle.ph_form.specs.declared.leaf.Leaf.{Leaf}
use Rattle.ph_form.specs.declared.fault.FormFault.{FormFault}
use Rattle.ph_form.specs.declared.fault.FormFault.TheVariants.{BadName, Clash, TooDeep}
use Rattle.ph_form.specs.Names.{base_of, keys_of, child, is_below, is_within}
use Rattle.ph_form.specs.Order.{put}

-- no name so far continues the beginning with this number
abbrev pub is_free : List Leaf → List ℕ → ℕ → Bool
is_free leaves beginning n = not (list_any (λ leaf. is_within (child beginning (decimal n)) leaf.name) leaves)

-- the least free number from n on, where at most this many from n on are taken
abbrev pub free_from : List Leaf → List ℕ → ℕ → ℕ → ℕ
free_from leaves beginning n zero = n
free_from leaves beginning n (suc count) = if is_free leaves beginning n then n else free_from leaves beginning (n + 1) count

-- the least number with which no name so far continues the beginning: each leaf takes at most one
abbrev pub least_free : List Leaf → List ℕ → ℕ
least_free leaves beginning = free_from leaves beginning 0 (length leaves)

-- a key, or for an empty one the least free number
abbrev pub key_or_free : List Leaf → List ℕ → List ℕ → List ℕ
key_or_free leaves beginning key = if length key == 0 then decimal (least_free leaves beginning) else key

-- the name of a beginning and these keys, with each empty key filled
abbrev pub filled : List Leaf → List ℕ → List (List ℕ) → List ℕ
filled leaves beginning [] = beginning
filled leaves beginning (key ∷ keys) = filled leaves (child beginning (key_or_free leaves beginning key)) keys

-- a name so far is this one, lies below it, or has it below
abbrev pub clashes : List Leaf → List ℕ → Bool
clashes leaves name = list_any (λ leaf. is_within name leaf.name) leaves || list_any (λ leaf. is_within leaf.name name) leaves

-- the leaves with a text under this name, which is whole
abbrev pub placed : ℕ → List Leaf → List ℕ → List ℕ → Result (List Leaf) FormFault
placed at leaves name text = if clashes leaves name then Err (Clash at) else Ok (put (record { name = name; text = text }) leaves)

-- the leaves with a text under a base and keys
abbrev pub added_under : ℕ → List Leaf → List ℕ → Option (List (List ℕ)) → List ℕ → Result (List Leaf) FormFault
added_under at leaves base None text = Err (BadName at)
added_under at leaves base (Some keys) text =
    if length base == 0 then Err (BadName at)
    else (if nat_lt 4 (length keys) then Err (TooDeep at) else placed at leaves (filled leaves base keys) text)

-- the leaves with the pair at this place, or the pair's fault
abbrev pub added : ℕ → List Leaf → List ℕ × List ℕ → Result (List Leaf) FormFault
added at leaves pair = added_under at leaves (base_of pair.0) (keys_of pair.0) pair.1

-- what stands so far, with the pairs from this place on
abbrev pub leaves_from : ℕ → Result (List Leaf) FormFault → List (List ℕ × List ℕ) → Result (List Leaf) FormFault
leaves_from at (Err fault) pairs = Err fault
leaves_from at (Ok leaves) [] = Ok leaves
leaves_from at (Ok leaves) (pair ∷ pairs) = leaves_from (at + 1) (added at leaves pair) pairs

-- the leaves of these pairs, or the first pair's fault
abbrev pub leaves_of : List (List ℕ × List ℕ) → Result (List Leaf) FormFault
leaves_of pairs = leaves_from 0 (Ok []) pairs

-- a key of the pair's name is empty
abbrev pub has_empty_key : List ℕ × List ℕ → Bool
has_empty_key pair = list_any (λ key. length key == 0) (unwrap_or (keys_of pair.0) [])

-- no leaf lies below another
abbrev pub is_tree : List Leaf → Bool
is_tree leaves = not (list_any (λ upper. list_any (λ leaf. is_below upper.name leaf.name) leaves) leaves)
