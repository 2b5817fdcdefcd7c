-- The table of statuses: what each step makes of a payment intent in each status.
use Rattle.std.specs.Prelude.{ℕ, List, [], ◌∷◌, Option, None, Some, get_or}
use Rattle.ph_items.specs.declared.intents.IntentStatus.{IntentStatus}
use Rattle.ph_items.specs.declared.intents.IntentStatus.TheVariants as status
use Rattle.ph_intents.specs.declared.statuses.Step.{Step}
use Rattle.ph_intents.specs.declared.statuses.Step.TheVariants as step

-- the line of a status
abbrev pub line_number : IntentStatus → ℕ
line_number status.RequiresPaymentMethod = 0
line_number status.RequiresConfirmation = 1
line_number status.RequiresAction = 2
line_number status.Processing = 3
line_number status.RequiresCapture = 4
line_number status.Succeeded = 5
line_number status.Canceled = 6

-- the column of a step
abbrev pub column_number : Step → ℕ
column_number step.Describe = 0
column_number step.Change = 1
column_number step.Choose = 2
column_number step.Confirm = 3
column_number step.Capture = 4
column_number step.Cancel = 5
column_number step.Authenticate = 6
column_number step.Fail = 7

-- the cells: no further than this, as it is, and the statuses that a step can lead to
abbrev pub no : Option IntentStatus
no = None

abbrev pub waits : Option IntentStatus
waits = Some status.RequiresPaymentMethod

abbrev pub ready : Option IntentStatus
ready = Some status.RequiresConfirmation

abbrev pub asks : Option IntentStatus
asks = Some status.RequiresAction

abbrev pub runs : Option IntentStatus
runs = Some status.Processing

abbrev pub holds : Option IntentStatus
holds = Some status.RequiresCapture

abbrev pub paid : Option IntentStatus
paid = Some status.Succeeded

abbrev pub over : Option IntentStatus
over = Some status.Canceled

-- a line for each status, a column for each step
--   Describe  Change   Choose   Confirm  Capture  Cancel   Authenticate  Fail
abbrev pub table : List (List (Option IntentStatus))
table =
    (waits ∷ waits ∷ ready ∷ runs ∷ no ∷ over ∷ no ∷ no ∷ []) ∷  -- RequiresPaymentMethod
    (ready ∷ ready ∷ ready ∷ runs ∷ no ∷ over ∷ no ∷ no ∷ []) ∷  -- RequiresConfirmation
    (asks ∷ no ∷ no ∷ no ∷ no ∷ over ∷ runs ∷ waits ∷ []) ∷  -- RequiresAction
    (runs ∷ no ∷ no ∷ no ∷ no ∷ no ∷ no ∷ no ∷ []) ∷  -- Processing
    (holds ∷ no ∷ no ∷ no ∷ paid ∷ over ∷ no ∷ no ∷ []) ∷  -- RequiresCapture
    (paid ∷ no ∷ no ∷ no ∷ no ∷ no ∷ no ∷ no ∷ []) ∷  -- Succeeded
    (over ∷ no ∷ no ∷ no ∷ no ∷ no ∷ no ∷ no ∷ []) ∷  -- Canceled
    []

-- the status to which a step leads, or none where it isn't allowed
unfoldable pub next_status : IntentStatus → Step → Option IntentStatus
next_status status step = get_or (get_or table (line_number status) []) (column_number step) None
