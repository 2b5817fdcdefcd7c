-- What a book is asked, and what is seen of its history.
use Rattle.std.specs.Prelude.{◌≡◌, ℕ, ◌↔◌, Bool, true, List}
use Rattle.ph_doings.specs.Doings.{Doing}
use Rattle.ph_doings.specs.Standings.{is_parked, standing_of}
use Rattle.ph_book.specs.declared.setup.Setup.{Setup}
use Rattle.ph_book.specs.declared.acts.Entry.{Entry}
use Rattle.ph_book.specs.declared.acts.Query.{Query}
use Rattle.ph_book.specs.declared.acts.Query.TheVariants as query
use Rattle.ph_book.specs.History.{doings_of}

-- an attempt is parked
abbrev pub SomeParked : List Doing → Type 0
SomeParked past = (reference : ℕ) × (is_parked (standing_of past reference) ≡ true)

-- what a query sees of a history
abbrev pub Sees : Setup → List Entry → Query → Bool → Type 0
Sees setup history query.AnyParked seen = (seen ≡ true) ↔ SomeParked (doings_of setup history)
