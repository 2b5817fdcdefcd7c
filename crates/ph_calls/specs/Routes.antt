-- Which row of the table a request is of, and the id in its path.
use Rattle.std.specs.Prelude.{ℕ, ◌+◌, ◌-◌, ◌==◌, ◌&&◌, not, nat_lt, nat_le, if◌then◌else◌, List, [], ◌∷◌, length, take, drop, Option, Some, None, bytes_eq}
use Rattle.std.specs.Borrow.{Bor}
use Rattle.std.specs.List.{list_any}
use Rattle.ph_calls.specs.declared.row.TableRow.{TableRow}
use Rattle.ph_calls.specs.Table.{Line, Place, One, Between, line_of}

-- what stands between the front that a text begins with and the back that it ends with
unfoldable pub between : List ℕ → List ℕ → List ℕ → Option (List ℕ)
between front back text =
    if nat_le (length front + length back) (length text)
    && (bytes_eq (take (length front) text) front
    && bytes_eq (drop (length text - length back) text) back)
    then Some (take (length text - length back - length front) (drop (length front) text))
    else None

-- one segment of a path, which isn't empty
abbrev pub segment_in : Option (List ℕ) → Option (List ℕ)
segment_in None = None
segment_in (Some text) = if nat_lt 0 (length text) && not (list_any (λ b. b == 47) text) then Some text else None

-- the id in a path of this form, empty for a form without one
abbrev pub id_at : Place → List ℕ → Option (List ℕ)
id_at (One text) path = if bytes_eq path text then Some [] else None
id_at (Between front back) path = segment_in (between front back path)

-- the id in the path of a request with this row's method
abbrev pub id_by : Line → List ℕ → List ℕ → Option (List ℕ)
id_by line method path = if bytes_eq method line.method then id_at line.path path else None

-- a row of the table and the id in the path, or no row
pub data Route : Type 0 where
  Nowhere : Route
  To : Line → List ℕ → Route

-- this row where there is an id, and else another route
abbrev pub route_or : Line → Option (List ℕ) → Route → Route
route_or line None other = other
route_or line (Some id) other = To line id

-- the first of these rows whose method and path a request has
abbrev pub route_in : List Line → List ℕ → List ℕ → Route
route_in [] method path = Nowhere
route_in (line ∷ lines) method path = route_or line (id_by line method path) (route_in lines method path)

-- what the code's route says
abbrev pub route_of : Option (Bor TableRow × Bor (List ℕ)) → Route
route_of None = Nowhere
route_of (Some found) = To (line_of found.0.now) found.1.now
