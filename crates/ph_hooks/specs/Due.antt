-- Which delivery is to be sent first.
use Rattle.std.specs.Prelude.{ℕ, ◌==◌, ◌&&◌, ◌||◌, Bool, nat_lt, nat_le, if◌then◌else◌, List, [], ◌∷◌, Option, Some, None, option_map}
use Rattle.std.specs.List.{list_any, filter_map}
use Rattle.ph_delivery.specs.Schedule.{moment_of}
use Rattle.ph_hooks.specs.declared.waiting.Turn.{Turn}
use Rattle.ph_hooks.specs.declared.waiting.Waiting.{Waiting}
use Rattle.ph_hooks.specs.State.{HooksState}

-- the endpoint was deleted
abbrev pub is_deleted : List ℕ → ℕ → Bool
is_deleted deleted endpoint = list_any (λ number. number == endpoint) deleted

-- a turn whose moment has come
abbrev pub come : ℕ → ℕ → Option ℕ → Option Turn
come now number None = None
come now number (Some moment) =
    if nat_le moment now then Some (record { moment = moment; number = number }) else None

-- the turn of a delivery that is due now: its moment has come, and its endpoint isn't deleted
abbrev pub due_of : ℕ → List ℕ → Waiting → Option Turn
due_of now deleted waiting =
    if is_deleted deleted waiting.endpoint then None
    else come now waiting.number (moment_of waiting.delivery)

-- a turn comes before another, or is the same: by its moment, and of one moment by its number
abbrev pub comes_first : Turn → Turn → Bool
comes_first turn other =
    nat_lt turn.moment other.moment
    || turn.moment == other.moment && nat_le turn.number other.number

-- the first of a turn and of others' first
abbrev pub sooner : Turn → Option Turn → Option Turn
sooner turn None = Some turn
sooner turn (Some other) = Some (if comes_first turn other then turn else other)

-- the first of some turns
abbrev pub first_of : List Turn → Option Turn
first_of [] = None
first_of (turn ∷ turns) = sooner turn (first_of turns)

-- the turns of the deliveries that are due now
abbrev pub turns_of : ℕ → List ℕ → List Waiting → List Turn
turns_of now deleted waitings = filter_map (due_of now deleted) waitings

-- the number of the delivery that is to be sent first
abbrev pub first_due : ℕ → HooksState → Option ℕ
first_due now hooks =
    option_map (λ turn. turn.number) (first_of (turns_of now hooks.deleted hooks.deliveries))
