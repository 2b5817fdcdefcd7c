-- The accounts that texts name: the one that a request is of, and connected ones.
use Rattle.std.specs.Prelude.{ℕ, ◌==◌, if◌then◌else◌, List, Option, None, Some, option_and_then, option_map}
use Rattle.ph_base.specs.declared.ids.Kind.TheVariants as kind
use Rattle.ph_items.specs.Accounts.{platform}
use Rattle.ph_rows.specs.declared.rows.Row.{Row}
use Rattle.ph_rows.specs.Names.{object_named}

-- the number of the account that a request names by its printed id, where there is one; a request that names none is of the
-- platform's own
abbrev pub account_of : List Row → Option (List ℕ) → Option ℕ
account_of rows None = Some platform
account_of rows (Some text) = option_map (λ (row : Row). row.object) (object_named rows kind.Account text)

-- the number of the account in a row, where it is a connected one: any but the platform's own
abbrev pub if_connected : Row → Option ℕ
if_connected row = if row.object == platform then None else Some row.object

-- the number of the connected account whose printed id a text is
abbrev pub connected_named : List Row → List ℕ → Option ℕ
connected_named rows text = option_and_then if_connected (object_named rows kind.Account text)
