-- The statuses of a payment intent: where a ruling leaves it, where it may be put, and where an attempt of it may begin.
use Rattle.std.specs.Prelude.{ℕ, ◌==◌, Bool, true, false, List, [], ◌∷◌, Option, Some, None}
use Rattle.std.specs.List.{list_any}
use Rattle.ph_base.specs.declared.acquirer.Ruling.{Ruling}
use Rattle.ph_base.specs.declared.acquirer.Ruling.TheVariants as ruling
use Rattle.ph_items.specs.declared.attempts.AttemptState.{AttemptState}
use Rattle.ph_items.specs.declared.attempts.AttemptState.TheVariants as state
use Rattle.ph_items.specs.declared.intents.CaptureMethod.{CaptureMethod}
use Rattle.ph_items.specs.declared.intents.CaptureMethod.TheVariants as capture_method
use Rattle.ph_items.specs.declared.intents.IntentStatus.{IntentStatus}
use Rattle.ph_items.specs.declared.intents.IntentStatus.TheVariants as status
use Rattle.ph_facts.specs.Touches.{Cause, Confirms, Authenticates}

-- where an approval leaves a payment intent: paid, or held to be captured
abbrev pub status_approved : CaptureMethod → IntentStatus
status_approved capture_method.Automatic = status.Succeeded
status_approved capture_method.AutomaticAsync = status.Succeeded
status_approved capture_method.Manual = status.RequiresCapture

-- where a ruling on its attempt leaves a payment intent
abbrev pub status_ruled : CaptureMethod → Ruling → IntentStatus
status_ruled capture ruling.Approved = status_approved capture
status_ruled capture (ruling.Declined decline) = status.RequiresPaymentMethod
status_ruled capture ruling.Challenge = status.RequiresAction

-- where a ruling leaves its attempt: it doesn't say which decline
abbrev pub state_ruled : Ruling → AttemptState
state_ruled ruling.Approved = state.Approved
state_ruled (ruling.Declined decline) = state.Declined
state_ruled ruling.Challenge = state.Challenged

-- the line of a status
abbrev pub line_of : IntentStatus → ℕ
line_of status.RequiresPaymentMethod = 0
line_of status.RequiresConfirmation = 1
line_of status.RequiresAction = 2
line_of status.Processing = 3
line_of status.RequiresCapture = 4
line_of status.Succeeded = 5
line_of status.Canceled = 6

-- where a payment intent may be put, without asking an acquirer: a new one, and one of each status
abbrev pub puts_from : Option IntentStatus → List IntentStatus
puts_from None = status.RequiresPaymentMethod ∷ status.RequiresConfirmation ∷ []
puts_from (Some status.RequiresPaymentMethod) = status.RequiresConfirmation ∷ status.Canceled ∷ []
puts_from (Some status.RequiresConfirmation) = status.Canceled ∷ []
puts_from (Some status.RequiresAction) = status.RequiresPaymentMethod ∷ status.Canceled ∷ []
puts_from (Some status.Processing) = []
puts_from (Some status.RequiresCapture) = status.Succeeded ∷ status.Canceled ∷ []
puts_from (Some status.Succeeded) = []
puts_from (Some status.Canceled) = []

-- whether a payment intent may be put from one status into another
abbrev pub may_put : Option IntentStatus → IntentStatus → Bool
may_put old new = list_any (λ status. line_of new == line_of status) (puts_from old)

-- whether a payment intent may be confirmed: a new one, or one that waits for that
abbrev pub may_confirm : Option IntentStatus → Bool
may_confirm None = true
may_confirm (Some status.RequiresPaymentMethod) = true
may_confirm (Some status.RequiresConfirmation) = true
may_confirm (Some status.RequiresAction) = false
may_confirm (Some status.Processing) = false
may_confirm (Some status.RequiresCapture) = false
may_confirm (Some status.Succeeded) = false
may_confirm (Some status.Canceled) = false

-- whether the customer of a payment intent may authenticate: where it waits for that
abbrev pub may_authenticate : Option IntentStatus → Bool
may_authenticate None = false
may_authenticate (Some status.RequiresPaymentMethod) = false
may_authenticate (Some status.RequiresConfirmation) = false
may_authenticate (Some status.RequiresAction) = true
may_authenticate (Some status.Processing) = false
may_authenticate (Some status.RequiresCapture) = false
may_authenticate (Some status.Succeeded) = false
may_authenticate (Some status.Canceled) = false

-- whether an attempt of a payment intent may begin
abbrev pub may_begin : Cause → Option IntentStatus → Bool
may_begin Confirms old = may_confirm old
may_begin Authenticates old = may_authenticate old
