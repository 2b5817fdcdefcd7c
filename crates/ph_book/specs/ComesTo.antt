-- What requests come to, as the program says it.
use Rattle.std.specs.Prelude.{ℕ, ◌+◌, List, length, Option, Some, is_some}
use Rattle.ph_rows.specs.declared.rows.Row.{Row}
use Rattle.ph_rows.specs.Batches.{empty_batch}
use Rattle.ph_http.specs.declared.message.Raw.{Raw}
use Rattle.ph_calls.specs.declared.call.Call.{Call}
use Rattle.ph_idem.specs.declared.asked.Asked.{Asked}
use Rattle.ph_book.specs.declared.acts.Deed.{Deed}
use Rattle.ph_book.specs.declared.acts.Deed.TheVariants as deed
use Rattle.ph_book.specs.declared.acts.Entry.{Entry}
use Rattle.ph_book.specs.declared.calls.Called.{Called}
use Rattle.ph_book.specs.declared.setup.Setup.{Setup}
use Rattle.ph_book.specs.Called.{IsCalled, IsResuming, asked_if}
use Rattle.ph_book.specs.Calls.{Keys, carried, key_asked, keyed_upshot, opens}
use Rattle.ph_book.specs.Entries.{call_entry}
use Rattle.ph_book.specs.History.{asks_to, call_effect, effect_to, request_effect, rows_of, time_of}

-- it is what a call of an account comes to by itself, over rows at a time, as the entry of a place: it opens a record of what it asks, where it is handed that
abbrev pub OwnComesTo : List Row → ℕ → ℕ → ℕ → ℕ → Call → Option Asked → Called → Type 0
OwnComesTo rows account now place caller call asked called =
    IsCalled rows now place caller asked asked
    (call_effect (key_asked asked) (is_some asked) rows now place caller (carried rows account now call (empty_batch (length rows) now place))) called

-- it is what a call of an account comes to that asks this under a key, by what is known of keys
abbrev pub KeyedComesTo : Keys → List Row → ℕ → ℕ → ℕ → ℕ → Call → Asked → Called → Type 0
KeyedComesTo keys rows account now place caller call asked called =
    IsCalled rows now place caller (Some asked) (asked_if (opens keys (Some asked)) (Some asked))
    (call_effect (Some asked.key) (opens keys (Some asked)) rows now place caller
    (keyed_upshot keys rows (empty_batch (length rows) now place) (carried rows account now call (empty_batch (length rows) now place)) (Some asked))) called

-- it is what a request comes to that asks this under a key, or has none, by what is known of keys
abbrev pub RequestComesTo : Setup → Keys → List Row → ℕ → ℕ → ℕ → Raw → Option Asked → Called → Type 0
RequestComesTo setup keys rows now place caller raw asked called =
    IsCalled rows now place caller asked (asked_if (opens keys asked) asked) (request_effect setup keys rows now place caller raw asked) called

-- it is what a caller's request comes to as the next entry of a history
abbrev pub CallComesTo : Setup → List Entry → ℕ → Raw → Called → Type 0
CallComesTo setup history caller raw called =
    IsCalled (rows_of setup history) (time_of setup history) (length history + 1) caller (asks_to setup history (deed.Call raw))
    (asked_if (effect_to setup history (call_entry caller raw)).saves (asks_to setup history (deed.Call raw)))
    (effect_to setup history (call_entry caller raw)) called

-- a caller's deed takes up the attempt of a reference, which is parked, as the next entry of a history
abbrev pub TakesUpAttempt : Setup → List Entry → ℕ → Deed → ℕ → Type 0
TakesUpAttempt setup history caller done reference =
    IsResuming (rows_of setup history) (time_of setup history) (length history + 1) caller (key_asked (asks_to setup history done))
    (effect_to setup history (record { caller = caller; deed = done })) reference
