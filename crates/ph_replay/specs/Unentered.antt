-- Why an entry isn't entered anew.
use Rattle.std.specs.Prelude.{List}
use Rattle.ph_lock.specs.declared.object.Refused.{Refused}
use Rattle.ph_lock.specs.declared.object.Refused.TheVariants as refused
use Rattle.ph_book.specs.declared.acts.Entry.{Entry}
use Rattle.ph_book.specs.declared.setup.Setup.{Setup}
use Rattle.ph_book.specs.History.{past_of}
use Rattle.ph_book.specs.Legal.{IsAllowed}
use Rattle.ph_replay.specs.declared.unentered.Unentered.{Unentered}
use Rattle.ph_replay.specs.declared.unentered.Unentered.TheVariants as unentered

-- an entry that wasn't entered: it may not come after this history, or there was no memory
abbrev pub IsUnentered : Setup → List Entry → Entry → Unentered → Type 0
IsUnentered setup history entry unentered.Illegal = IsAllowed setup (past_of setup history) entry → ⊥
IsUnentered setup history entry unentered.NoMemory = Unit {0}

-- why an act that was refused isn't entered: where the history has no room for it, it may not come
abbrev pub reason : Refused → Unentered
reason refused.Full = unentered.Illegal
reason refused.NoMemory = unentered.NoMemory
