-- The place behind a history.
use Rattle.std.proofs.Common.{◌≡◌, ℕ, ◌+◌, List, length, None, ap, arith}
use Rattle.ph_book.specs.declared.setup.Setup.{Setup}
use Rattle.ph_book.specs.declared.acts.Entry.{Entry}
use Rattle.ph_book.specs.History.{doings_of}
use Rattle.ph_book.specs.OwnRuns.{own_of}
use Rattle.ph_book.specs.Runs.{if_own}
use Rattle.ph_book.specs.Stays.{history_numbers}
use Rattle.ph_book.proofs.HistoryLemmas.{length_past}

-- no live run has the number of the place behind a history
pub fresh-place : (setup : Setup) (history : List Entry) (caller : ℕ) → own_of setup history caller (length history + 1) ≡ None
unfolding doings_of
fresh-place setup history caller =
    let numbers = history_numbers setup history in
    let places = numbers.places in
    let same = length_past setup history in
    ap (if_own caller) (numbers.numbered.known (length history + 1) (omega (arith, places, same)))
