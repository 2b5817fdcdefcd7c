-- Which steps lead to a payment intent that waits for its capture, and which from one.
use Rattle.std.proofs.Common.{◌≡◌, ◌==◌, ℕ, zero, suc, Bool, true, false, cond, List, [], ◌∷◌, Option, None, Some, refl, sym, ap, ◌∙◌, subst}
use Rattle.std.specs.Prelude.{get_or}
use Rattle.std.specs.List.{list_any}
use Rattle.std.proofs.lemmas.Bool.{false≢true}
use Rattle.ph_items.specs.declared.intents.IntentStatus.{IntentStatus}
use Rattle.ph_items.specs.declared.intents.IntentStatus.TheVariants as status
use Rattle.ph_rows.proofs.RowLemmas.{first_fails, second_fails}
use Rattle.ph_facts.specs.Keeps.{MayBeDone}
use Rattle.ph_facts.specs.Shown.{Shown, ShowsIntent, shows, status_in}
use Rattle.ph_facts.specs.Statuses.{may_begin, may_put}
use Rattle.ph_facts.specs.Touches.{Touch, Confirms, Authenticates, Edits, Puts}
use Rattle.ph_rows.specs.declared.rows.Row.{Row}
use Rattle.ph_intents.specs.Statuses.{table, column_number, line_number, next_status}
use Rattle.ph_intents.specs.Update.{led, step_by}
use Rattle.ph_intents.specs.declared.statuses.Step.{Step}
use Rattle.ph_intents.specs.declared.statuses.Step.TheVariants as step

-- a cell leads to a payment intent that waits for its capture
abbrev is_waiting : Option IntentStatus → Bool
is_waiting None = false
is_waiting (Some status.RequiresPaymentMethod) = false
is_waiting (Some status.RequiresConfirmation) = false
is_waiting (Some status.RequiresAction) = false
is_waiting (Some status.Processing) = false
is_waiting (Some status.RequiresCapture) = true
is_waiting (Some status.Succeeded) = false
is_waiting (Some status.Canceled) = false

-- a line of which no cell does
no_cell : (line : List (Option IntentStatus)) (column : ℕ) (found : IntentStatus) → get_or line column None ≡ Some found
    → list_any is_waiting line ≡ false → found ≡ status.RequiresCapture → ⊥
no_cell [] column found e none waits = absurd (cc)
no_cell (cell ∷ line) zero found e none waits =
    false≢true (sym (first_fails (is_waiting cell) (list_any is_waiting line) none) ∙ ap is_waiting (e ∙ ap Some waits))
no_cell (cell ∷ line) (suc column) found e none waits =
    no_cell line column found e (second_fails (is_waiting cell) (list_any is_waiting line) none) waits

-- a payment intent that waits for its capture after a step waited for it before
pub waited_before : (before : IntentStatus) (taken : Step) (found : IntentStatus) → next_status before taken ≡ Some found
    → found ≡ status.RequiresCapture → before ≡ status.RequiresCapture
unfolding next_status
waited_before status.RequiresPaymentMethod taken found e waits = absurd (no_cell (get_or table 0 []) (column_number taken) found e refl waits)
waited_before status.RequiresConfirmation taken found e waits = absurd (no_cell (get_or table 1 []) (column_number taken) found e refl waits)
waited_before status.RequiresAction taken found e waits = absurd (no_cell (get_or table 2 []) (column_number taken) found e refl waits)
waited_before status.Processing taken found e waits = absurd (no_cell (get_or table 3 []) (column_number taken) found e refl waits)
waited_before status.RequiresCapture taken found e waits = refl
waited_before status.Succeeded taken found e waits = absurd (no_cell (get_or table 5 []) (column_number taken) found e refl waits)
waited_before status.Canceled taken found e waits = absurd (no_cell (get_or table 6 []) (column_number taken) found e refl waits)

no_status : (found : IntentStatus) → None ≡ Some found → ⊥
no_status found e = cc

same_status : (one found : IntentStatus) → Some one ≡ Some found → one ≡ found
same_status one found e = cc

-- a capture leads from a payment intent that waits for it to one that succeeded
pub captured_step : (before found : IntentStatus) → next_status before step.Capture ≡ Some found
    → (before ≡ status.RequiresCapture) × (status.Succeeded ≡ found)
unfolding next_status
captured_step status.RequiresPaymentMethod found e = absurd (no_status found e)
captured_step status.RequiresConfirmation found e = absurd (no_status found e)
captured_step status.RequiresAction found e = absurd (no_status found e)
captured_step status.Processing found e = absurd (no_status found e)
captured_step status.RequiresCapture found e = (refl, same_status status.Succeeded found e)
captured_step status.Succeeded found e = absurd (no_status found e)
captured_step status.Canceled found e = absurd (no_status found e)

-- a cancel leads to one that is canceled
canceled_step : (before found : IntentStatus) → next_status before step.Cancel ≡ Some found → status.Canceled ≡ found
unfolding next_status
canceled_step status.RequiresPaymentMethod found e = same_status status.Canceled found e
canceled_step status.RequiresConfirmation found e = same_status status.Canceled found e
canceled_step status.RequiresAction found e = same_status status.Canceled found e
canceled_step status.Processing found e = absurd (no_status found e)
canceled_step status.RequiresCapture found e = same_status status.Canceled found e
canceled_step status.Succeeded found e = absurd (no_status found e)
canceled_step status.Canceled found e = absurd (no_status found e)

-- which waits for no capture
pub canceled_waits : (before found : IntentStatus) → next_status before step.Cancel ≡ Some found → found ≡ status.RequiresCapture → ⊥
canceled_waits before found e waits = let clash : status.Canceled ≡ status.RequiresCapture = canceled_step before found e ∙ waits in cc

-- ---- what each step may do

-- a cancel, a failure to authenticate and a capture put it where it may be put
pub may_cancel : (before found : IntentStatus) → next_status before step.Cancel ≡ Some found → may_put (Some before) found ≡ true
unfolding next_status
may_cancel status.RequiresPaymentMethod found e = ap (may_put (Some status.RequiresPaymentMethod)) (sym (same_status status.Canceled found e))
may_cancel status.RequiresConfirmation found e = ap (may_put (Some status.RequiresConfirmation)) (sym (same_status status.Canceled found e))
may_cancel status.RequiresAction found e = ap (may_put (Some status.RequiresAction)) (sym (same_status status.Canceled found e))
may_cancel status.Processing found e = absurd (no_status found e)
may_cancel status.RequiresCapture found e = ap (may_put (Some status.RequiresCapture)) (sym (same_status status.Canceled found e))
may_cancel status.Succeeded found e = absurd (no_status found e)
may_cancel status.Canceled found e = absurd (no_status found e)

pub may_fail : (before found : IntentStatus) → next_status before step.Fail ≡ Some found → may_put (Some before) found ≡ true
unfolding next_status
may_fail status.RequiresPaymentMethod found e = absurd (no_status found e)
may_fail status.RequiresConfirmation found e = absurd (no_status found e)
may_fail status.RequiresAction found e = ap (may_put (Some status.RequiresAction)) (sym (same_status status.RequiresPaymentMethod found e))
may_fail status.Processing found e = absurd (no_status found e)
may_fail status.RequiresCapture found e = absurd (no_status found e)
may_fail status.Succeeded found e = absurd (no_status found e)
may_fail status.Canceled found e = absurd (no_status found e)

pub may_capture : (before found : IntentStatus) → next_status before step.Capture ≡ Some found → may_put (Some before) found ≡ true
unfolding next_status
may_capture status.RequiresPaymentMethod found e = absurd (no_status found e)
may_capture status.RequiresConfirmation found e = absurd (no_status found e)
may_capture status.RequiresAction found e = absurd (no_status found e)
may_capture status.Processing found e = absurd (no_status found e)
may_capture status.RequiresCapture found e = ap (may_put (Some status.RequiresCapture)) (sym (same_status status.Succeeded found e))
may_capture status.Succeeded found e = absurd (no_status found e)
may_capture status.Canceled found e = absurd (no_status found e)

-- a confirm and an authentication begin an attempt where one may begin, and then it is processing
pub may_confirm : (before found : IntentStatus) → next_status before step.Confirm ≡ Some found → (may_begin Confirms (Some before) ≡ true) × (found ≡ status.Processing)
unfolding next_status
may_confirm status.RequiresPaymentMethod found e = (refl, sym (same_status status.Processing found e))
may_confirm status.RequiresConfirmation found e = (refl, sym (same_status status.Processing found e))
may_confirm status.RequiresAction found e = absurd (no_status found e)
may_confirm status.Processing found e = absurd (no_status found e)
may_confirm status.RequiresCapture found e = absurd (no_status found e)
may_confirm status.Succeeded found e = absurd (no_status found e)
may_confirm status.Canceled found e = absurd (no_status found e)

pub may_authenticate : (before found : IntentStatus) → next_status before step.Authenticate ≡ Some found → (may_begin Authenticates (Some before) ≡ true) × (found ≡ status.Processing)
unfolding next_status
may_authenticate status.RequiresPaymentMethod found e = absurd (no_status found e)
may_authenticate status.RequiresConfirmation found e = absurd (no_status found e)
may_authenticate status.RequiresAction found e = (refl, sym (same_status status.Processing found e))
may_authenticate status.Processing found e = absurd (no_status found e)
may_authenticate status.RequiresCapture found e = absurd (no_status found e)
may_authenticate status.Succeeded found e = absurd (no_status found e)
may_authenticate status.Canceled found e = absurd (no_status found e)

-- an update that names no payment method leaves it as it is
pub stays_described : (before found : IntentStatus) → next_status before step.Describe ≡ Some found → before ≡ found
unfolding next_status
stays_described status.RequiresPaymentMethod found e = same_status status.RequiresPaymentMethod found e
stays_described status.RequiresConfirmation found e = same_status status.RequiresConfirmation found e
stays_described status.RequiresAction found e = same_status status.RequiresAction found e
stays_described status.Processing found e = same_status status.Processing found e
stays_described status.RequiresCapture found e = same_status status.RequiresCapture found e
stays_described status.Succeeded found e = same_status status.Succeeded found e
stays_described status.Canceled found e = same_status status.Canceled found e

pub stays_changed : (before found : IntentStatus) → next_status before step.Change ≡ Some found → before ≡ found
unfolding next_status
stays_changed status.RequiresPaymentMethod found e = same_status status.RequiresPaymentMethod found e
stays_changed status.RequiresConfirmation found e = same_status status.RequiresConfirmation found e
stays_changed status.RequiresAction found e = absurd (no_status found e)
stays_changed status.Processing found e = absurd (no_status found e)
stays_changed status.RequiresCapture found e = absurd (no_status found e)
stays_changed status.Succeeded found e = absurd (no_status found e)
stays_changed status.Canceled found e = absurd (no_status found e)

-- what leads nowhere is an edit
led_nowhere : (rows : List Row) (object : ℕ) (before : IntentStatus) → status_in rows object ≡ Some before
    → MayBeDone rows (led object before before)
led_nowhere rows object status.RequiresPaymentMethod is = is
led_nowhere rows object status.RequiresConfirmation is = is
led_nowhere rows object status.RequiresAction is = is
led_nowhere rows object status.Processing is = is
led_nowhere rows object status.RequiresCapture is = is
led_nowhere rows object status.Succeeded is = is
led_nowhere rows object status.Canceled is = is

led_same : (rows : List Row) (object : ℕ) (before found : IntentStatus) → status_in rows object ≡ Some before → before ≡ found
    → MayBeDone rows (led object before found)
led_same rows object before found is same =
    subst (λ (s : IntentStatus). MayBeDone rows (led object before s)) same (led_nowhere rows object before is)

-- one that names a payment method puts it where it waits for its confirmation, or leaves it there
led_chosen : (rows : List Row) (object : ℕ) (before found : IntentStatus) → status_in rows object ≡ Some before
    → next_status before step.Choose ≡ Some found → MayBeDone rows (led object before found)
unfolding next_status
led_chosen rows object status.RequiresPaymentMethod found is e =
    subst (λ (s : IntentStatus). MayBeDone rows (led object status.RequiresPaymentMethod s)) (same_status status.RequiresConfirmation found e)
    (ap (λ old. may_put old status.RequiresConfirmation) is)
led_chosen rows object status.RequiresConfirmation found is e =
    led_same rows object status.RequiresConfirmation found is (same_status status.RequiresConfirmation found e)
led_chosen rows object status.RequiresAction found is e = absurd (no_status found e)
led_chosen rows object status.Processing found is e = absurd (no_status found e)
led_chosen rows object status.RequiresCapture found is e = absurd (no_status found e)
led_chosen rows object status.Succeeded found is e = absurd (no_status found e)
led_chosen rows object status.Canceled found is e = absurd (no_status found e)

-- what an update does may be done
pub may_update : (rows : List Row) (object : ℕ) (before found : IntentStatus) (names other : Bool) → status_in rows object ≡ Some before
    → next_status before (step_by names other) ≡ Some found → MayBeDone rows (led object before found)
may_update rows object before found true other is e = led_chosen rows object before found is e
may_update rows object before found false true is e = led_same rows object before found is (stays_changed before found e)
may_update rows object before found false false is e = led_same rows object before found is (stays_described before found e)

-- and its version shows it
pub shows_led : (object : ℕ) (before found : IntentStatus) → ShowsIntent object found ∷ [] ≡ shows (led object before found)
shows_led object before found =
    chosen_shown (line_number before == line_number found) (ShowsIntent object found ∷ []) (Edits object found) (Puts object found) refl refl
  where
    chosen_shown : (test : Bool) (all : List Shown) (one other : Touch) → all ≡ shows one → all ≡ shows other → all ≡ shows (cond test one other)
    chosen_shown true all one other p q = p
    chosen_shown false all one other p q = q
