-- What the operations add may be entered after sound rows, which stay sound.
use Rattle.std.specs.Prelude.{ℕ, List, []}
use Rattle.ph_base.specs.declared.acquirer.Ruling.{Ruling}
use Rattle.ph_calls.specs.declared.call.ConfirmIntent.{ConfirmIntent}
use Rattle.ph_calls.specs.declared.call.CreateIntent.{CreateIntent}
use Rattle.ph_calls.specs.declared.call.UpdateIntent.{UpdateIntent}
use Rattle.ph_kinds.specs.Kept.{named_texts}
use Rattle.ph_facts.specs.Shown.{HasAttempt, HasIntent}
use Rattle.ph_facts.specs.Touches.{Settles}
use Rattle.ph_items.specs.declared.attempts.AttemptState.TheVariants as attempt_state
use Rattle.ph_items.specs.declared.intents.IntentStatus.TheVariants as status
use Rattle.ph_items.specs.declared.orders.Order.{Order}
use Rattle.ph_rows.specs.Views.{ViewState}
use Rattle.ph_items.specs.Weights.{with_text, method_text}
use Rattle.ph_intents.specs.Settle.{settle_outcome}
pub use Rattle.ph_items.specs.Weights.{AreUtf8}
pub use Rattle.ph_facts.specs.Keeps.{IsDone, IsReady, KeepsRows, KeepsSound, MayBeAdded, batch_after, no_texts}

-- the texts of each call that its rows keep
abbrev pub create_texts : CreateIntent → List (List ℕ)
create_texts call =
    with_text (method_text call.payment_method)
    (with_text call.description (with_text call.transfer_group (named_texts call.metadata)))

abbrev pub update_texts : UpdateIntent → List (List ℕ)
update_texts call =
    with_text (method_text call.payment_method)
    (with_text call.description (with_text call.transfer_group (named_texts call.metadata)))

abbrev pub confirm_texts : ConfirmIntent → List (List ℕ)
confirm_texts call = with_text (method_text call.payment_method) []

-- whatever stands, where an attempt is live under its order and its payment intent is processing, a ruling settles it: the
-- reply shows the payment intent
abbrev pub SettleKeepsSound : Type 0
SettleKeepsSound =
    (state : ViewState) (entry intent : ℕ) (order : Order) (ruling : Ruling) → IsReady state
    → HasAttempt state.rows order.reference intent order attempt_state.Live → (there : HasIntent state.rows intent status.Processing)
    → IsDone state 14 (Settles intent order there.intent.capture_method ruling) intent
    (settle_outcome state.rows order.reference ruling (batch_after state entry))
