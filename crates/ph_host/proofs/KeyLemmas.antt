-- The laws of idempotency keys hold of the program's setups.
use Rattle.std.proofs.Common.{ℕ, ◌<◌, ◌^◌, List, arith}
use Rattle.ph_book.specs.declared.setup.Setup.{Setup}
use Rattle.ph_book.proofs.InUseLemmas.{conflict_while_a_run_lives}
use Rattle.ph_book.proofs.KeyLawLemmas.{key_adds_none, repeat_finds, saved_stays}
use Rattle.ph_host.specs.KeyLaws.{HoldKeyLaws}
use Rattle.ph_host.specs.Setups.{setup_of}

pub key_laws_hold : (setup : Setup) → setup.entries < 2 ^ 32 → HoldKeyLaws setup
key_laws_hold setup few = record {
  repeat_finds = repeat_finds setup few;
  saved_stays = saved_stays setup few;
  key_adds_none = key_adds_none setup few;
  conflict_while_a_run_lives = conflict_while_a_run_lives setup few;
}

pub key_laws_of_words : (words : List (List ℕ)) → HoldKeyLaws (setup_of words)
key_laws_of_words words = key_laws_hold (setup_of words) (omega arith)
