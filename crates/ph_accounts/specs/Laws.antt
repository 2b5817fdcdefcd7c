-- The texts of the create of an account that its row keeps.
use Rattle.std.specs.Prelude.{ℕ, List}
use Rattle.ph_calls.specs.declared.call.CreateAccount.{CreateAccount}
use Rattle.ph_items.specs.Weights.{with_text}
use Rattle.ph_kinds.specs.Kept.{named_texts}

abbrev pub create_texts : CreateAccount → List (List ℕ)
create_texts call = with_text call.email (named_texts call.metadata)
