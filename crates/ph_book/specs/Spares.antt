-- What is made beforehand for the end of a run.
use Rattle.std.specs.Prelude.{◌≡◌, ℕ, List}
use Rattle.ph_base.specs.declared.acquirer.Why.TheVariants.{Pending, Failed, NoMemory}
use Rattle.ph_book.specs.Replies.{park_reply}

-- the bodies of the replies to a park
pub record AreBodies (pending failed no_memory : List ℕ) : Type 0 where
  pub pending_is : pending ≡ (park_reply Pending).body
  pub failed_is : failed ≡ (park_reply Failed).body
  pub no_memory_is : no_memory ≡ (park_reply NoMemory).body
