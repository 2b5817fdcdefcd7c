-- The rows of a history: the row of a place, the present version of an object, the neighbours of an object.
use Rattle.std.specs.Prelude.{ℕ, ◌-◌, max, min, Bool, ◌==◌, ◌&&◌, nat_lt, List, map, Option, None, Some, slice_get, if◌then◌else◌, option_and_then}
use Rattle.std.specs.List.{fold, filter}
use Rattle.ph_base.specs.declared.ids.Kind.{Kind}
use Rattle.ph_rows.specs.declared.rows.Row.{Row}
use Rattle.ph_items.specs.Kinds.{is_kind}

-- the row of a place; places count from 1
abbrev pub row_at : ℕ → List Row → Option Row
row_at place rows = if place == 0 then None else slice_get rows (place - 1)

-- a row after those before it: the version of the object found so far gives way to it where it is one
abbrev pub later_version : ℕ → Option Row → Row → Option Row
later_version object found row = if row.object == object then Some row else found

-- the present version of an object: the last row of it
abbrev pub latest_of : ℕ → List Row → Option Row
latest_of object rows = fold (later_version object) None rows

-- the row is the first version of an object, which is of the account and the kind
abbrev pub is_first_of : ℕ → Kind → Row → Bool
is_first_of account kind row = row.object == row.place && row.account == account && is_kind kind row.item

-- the numbers of the objects of an account and a kind
abbrev pub objects_of : ℕ → Kind → List Row → List ℕ
objects_of account kind rows = map (λ row. row.object) (filter (is_first_of account kind) rows)

-- the greater of a number found so far, if one was, and another
abbrev pub greater : Option ℕ → ℕ → ℕ
greater None number = number
greater (Some found) number = max found number

-- the greatest of some numbers
abbrev pub greatest : List ℕ → Option ℕ
greatest numbers = fold (λ found number. Some (greater found number)) None numbers

-- the lesser of a number found so far, if one was, and another
abbrev pub lesser : Option ℕ → ℕ → ℕ
lesser None number = number
lesser (Some found) number = min found number

-- the least of some numbers
abbrev pub least : List ℕ → Option ℕ
least numbers = fold (λ found number. Some (lesser found number)) None numbers

-- the object of an account and a kind whose number is the greatest below a bound
abbrev pub newest_object : ℕ → Kind → ℕ → List Row → Option ℕ
newest_object account kind below rows =
    greatest (filter (λ number. nat_lt number below) (objects_of account kind rows))

-- the object of an account and a kind whose number is the least above a bound
abbrev pub oldest_object : ℕ → Kind → ℕ → List Row → Option ℕ
oldest_object account kind above rows =
    least (filter (λ number. nat_lt above number) (objects_of account kind rows))

-- the present version of the newest object of an account and a kind below a bound
abbrev pub newest_of : ℕ → Kind → ℕ → List Row → Option Row
newest_of account kind below rows =
    option_and_then (λ object. latest_of object rows) (newest_object account kind below rows)

-- the present version of the oldest object of an account and a kind above a bound
abbrev pub oldest_of : ℕ → Kind → ℕ → List Row → Option Row
oldest_of account kind above rows =
    option_and_then (λ object. latest_of object rows) (oldest_object account kind above rows)
