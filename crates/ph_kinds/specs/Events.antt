-- Lists of event types.
use Rattle.std.specs.Prelude.{ℕ, ◌==◌, ◌&&◌, ◌||◌, not, if◌then◌else◌, Bool, List, [], ◌∷◌, map, length, Option, Some, None, is_some, find, Result, Ok, Err, codes, bytes_eq}
use Rattle.std.specs.List.{list_all}
use Rattle.ph_form.specs.declared.leaf.Leaf.{Leaf}
use Rattle.ph_items.specs.declared.event_kinds.EventKind.{EventKind}
use Rattle.ph_items.specs.declared.event_kinds.EventKind.TheVariants as event
use Rattle.ph_items.specs.Words.{event_text}
use Rattle.ph_kinds.specs.declared.flaw.Flaw.{Flaw}
use Rattle.ph_kinds.specs.declared.flaw.Flaw.TheVariants.{InvalidValue}

-- every event type
abbrev pub event_kinds : List EventKind
event_kinds =
    event.IntentCreated ∷ event.IntentSucceeded ∷ event.IntentPaymentFailed ∷ event.IntentCanceled ∷
    event.IntentAmountCapturableUpdated ∷ event.IntentRequiresAction ∷
    event.ChargeSucceeded ∷ event.ChargeFailed ∷ event.ChargeCaptured ∷ event.ChargeRefunded ∷
    event.DisputeCreated ∷ event.DisputeClosed ∷ event.TransferCreated ∷ event.TransferReversed ∷
    event.FeeCreated ∷ event.FeeRefunded ∷ []

-- the event type that a text names
abbrev pub event_kind_of : List ℕ → Option EventKind
event_kind_of text = find (λ kind. bytes_eq text (event_text kind)) event_kinds

-- the text is an event type, or `*`
unfoldable pub is_event : List ℕ → Bool
is_event text = bytes_eq text (codes "*") || is_some (event_kind_of text)

-- at least one entry, and each an event type or `*`
abbrev pub are_events : List Leaf → Bool
are_events entries = list_all (λ entry. is_event entry.text) entries && not (length entries == 0)

-- the event types of a map, in byte order of its keys; none of its entries are known where one is a map itself
abbrev pub events_in : Option (List Leaf) → Result (List (List ℕ)) Flaw
events_in None = Err InvalidValue
events_in (Some entries) = if are_events entries then Ok (map (λ entry. entry.text) entries) else Err InvalidValue
