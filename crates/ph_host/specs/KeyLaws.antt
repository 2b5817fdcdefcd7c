-- What holds of the idempotency keys of every legal history of a setup.
use Rattle.ph_book.specs.KeyLaws.{ConflictWhileARunLives, KeyAddsNone, RepeatFinds, SavedStays}
use Rattle.ph_book.specs.declared.setup.Setup.{Setup}

-- an equal request within a day finds what the first one came to; a reply that is saved never changes; within the day no request under the key begins another attempt; and that a key is in use is said only while a run lives
pub record HoldKeyLaws (setup : Setup) : Type 0 where
  pub repeat_finds : RepeatFinds setup
  pub saved_stays : SavedStays setup
  pub key_adds_none : KeyAddsNone setup
  pub conflict_while_a_run_lives : ConflictWhileARunLives setup
