-- What holds of each call that is read, so that what it adds may be entered.
use Rattle.std.specs.Prelude.{ℕ, ◌≤◌, List, [], ◌∷◌}
use Rattle.ph_items.specs.Clocks.{clock_limit}
use Rattle.ph_items.specs.Weights.{with_text, method_text}
use Rattle.ph_kinds.specs.Kept.{named_texts}
use Rattle.ph_calls.specs.declared.call.Call.{Call}
use Rattle.ph_calls.specs.declared.call.Call.TheVariants as call
use Rattle.ph_items.specs.Weights.{AreUtf8}

-- the texts of a call that its rows keep
abbrev pub kept_texts : Call → List (List ℕ)
kept_texts (call.CreateIntent c) =
    with_text (method_text c.payment_method) (with_text c.description (with_text c.transfer_group (named_texts c.metadata)))
kept_texts (call.UpdateIntent c) =
    with_text (method_text c.payment_method) (with_text c.description (with_text c.transfer_group (named_texts c.metadata)))
kept_texts (call.ConfirmIntent c) = with_text (method_text c.payment_method) []
kept_texts (call.CaptureIntent c) = []
kept_texts (call.CancelIntent c) = []
kept_texts (call.CreateRefund c) = named_texts c.metadata
kept_texts (call.SendEvidence c) = c.uncategorized_text ∷ []
kept_texts (call.CloseDispute c) = []
kept_texts (call.CreateAccount c) = with_text c.email (named_texts c.metadata)
kept_texts (call.CreateTransfer c) = with_text c.description (with_text c.transfer_group (named_texts c.metadata))
kept_texts (call.ReverseTransfer c) = named_texts c.metadata
kept_texts (call.RefundFee c) = named_texts c.metadata
kept_texts (call.Retrieve c) = []
kept_texts (call.GetBalance c) = []
kept_texts (call.SetClock c) = []
kept_texts (call.Authenticate c) = []

-- a clock is set to a time that a clock shows
abbrev pub IsShown : Call → Type 0
IsShown (call.CreateIntent c) = Unit {0}
IsShown (call.UpdateIntent c) = Unit {0}
IsShown (call.ConfirmIntent c) = Unit {0}
IsShown (call.CaptureIntent c) = Unit {0}
IsShown (call.CancelIntent c) = Unit {0}
IsShown (call.CreateRefund c) = Unit {0}
IsShown (call.SendEvidence c) = Unit {0}
IsShown (call.CloseDispute c) = Unit {0}
IsShown (call.CreateAccount c) = Unit {0}
IsShown (call.CreateTransfer c) = Unit {0}
IsShown (call.ReverseTransfer c) = Unit {0}
IsShown (call.RefundFee c) = Unit {0}
IsShown (call.Retrieve c) = Unit {0}
IsShown (call.GetBalance c) = Unit {0}
IsShown (call.SetClock c) = c.now ≤ clock_limit
IsShown (call.Authenticate c) = Unit {0}

-- a call that is fit to be carried out: its texts are UTF-8, and its clock is shown
pub record IsFit (c : Call) : Type 0 where
  pub texts : AreUtf8 (kept_texts c)
  pub shown : IsShown c
