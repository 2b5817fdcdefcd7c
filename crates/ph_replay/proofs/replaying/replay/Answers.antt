use Rattle.std.proofs.Common.{subst}
use Rattle.ph_replay.specs.Unentered.{IsUnentered}
use Rattle.ph_replay.proofs.LegalLemmas.{ends_at}
use Rattle.ph_replay.proofs.replaying.replay.Goals as goal
use Rattle.ph_replay.proofs.replaying.replay.Goals.{in-Illegal, in-NoMemory}

pub returns-in-Err-enter-clause-refused : goal.returns-in-Err-enter-clause-refused
returns-in-Err-enter-clause-refused g c =
    elim c.match-why.branch [
      | in-Illegal w ↦ rw w.result-is (ends_at c.args.setup c.args.entries.now c.loop-i.i c.index-entries-i.result c.loop-i.replayed.book c.loop-i-test.true c.index-entries-i.is c.loop-i.invariant c.lawful.ensures.legal
          (subst (IsUnentered c.loop-i.replayed.book.setup c.loop-i.replayed.book.history c.index-entries-i.result) w.in-Illegal.is c.in-Err-enter.ensures.unentered))
      | in-NoMemory w ↦ rw w.result-is tt
    ]
