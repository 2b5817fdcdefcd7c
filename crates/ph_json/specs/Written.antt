-- For private clauses: the members of a JSON value with their texts.
use Rattle.std.specs.Prelude.{ℕ, List, [], ◌∷◌}
use Rattle.serde_json.specs.Data.{Members, no_members, member}
use Rattle.serde_json.specs.Written.{compact_text}

abbrev pub written_members : Members → List (List ℕ × List ℕ)
written_members no_members = []
written_members (member key value members) = (key, compact_text value) ∷ written_members members
