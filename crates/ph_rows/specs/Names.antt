-- The object that an id in a path or a parameter names.
use Rattle.std.specs.Prelude.{ℕ, ◌-◌, ◌^◌, Bool, ◌==◌, ◌&&◌, nat_lt, if◌then◌else◌, List, ◌++◌, length, drop, Option, None, Some, option_and_then}
use Rattle.std.specs.Str.{bytes_eq}
use Rattle.ph_base.specs.declared.ids.Kind.{Kind}
use Rattle.ph_base.specs.Ids.{prefix_of}
use Rattle.ph_base.specs.Numbers.{decimal, padded}
use Rattle.ph_rows.specs.declared.rows.Row.{Row}
use Rattle.ph_items.specs.Kinds.{is_kind}
use Rattle.ph_rows.specs.Rows.{latest_of}

-- the number is one whose printed id, with the prefix of the kind and sixteen digits, is the text
abbrev pub is_printed_as : Kind → List ℕ → ℕ → Bool
is_printed_as wanted text number = nat_lt number (10 ^ 16) && bytes_eq (prefix_of wanted ++ padded 16 number) text

-- a number, where its printed id is the text
abbrev pub if_printed_as : Kind → List ℕ → ℕ → Option ℕ
if_printed_as wanted text number = if is_printed_as wanted text number then Some number else None

-- the number whose printed id a text is: no other than that of its last sixteen bytes
unfoldable pub number_named : Kind → List ℕ → Option ℕ
number_named wanted text = if_printed_as wanted text (decimal (drop (length text - 16) text))

-- a row, where it is a version of an object of the kind
abbrev pub if_of_kind : Kind → Row → Option Row
if_of_kind wanted row = if is_kind wanted row.item then Some row else None

-- the present version of an object, where it is of the kind
abbrev pub object_of : List Row → Kind → ℕ → Option Row
object_of rows wanted number = option_and_then (if_of_kind wanted) (latest_of number rows)

-- the present version of the object of the kind whose printed id a text is, whatever its account
abbrev pub object_named : List Row → Kind → List ℕ → Option Row
object_named rows wanted text = option_and_then (object_of rows wanted) (number_named wanted text)

-- a row, where it is of the account
abbrev pub if_of_account : ℕ → Row → Option Row
if_of_account account row = if row.account == account then Some row else None

-- the same, where the object is of the account
abbrev pub owned_named : List Row → ℕ → Kind → List ℕ → Option Row
owned_named rows account wanted text = option_and_then (if_of_account account) (object_named rows wanted text)
