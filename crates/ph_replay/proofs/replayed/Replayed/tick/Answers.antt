use Rattle.std.proofs.Common.{sym, subst}
use Rattle.ph_book.specs.Answers.{Says}
use Rattle.ph_book.specs.Entries.{tick_entry}
use Rattle.ph_book.specs.State.{BookState}
use Rattle.ph_replay.specs.State.{IsReplay, ReplayState}
use Rattle.ph_replay.specs.Unentered.{IsUnentered}
use Rattle.ph_replay.proofs.LegalLemmas.{refused_is}
use Rattle.ph_replay.proofs.ReplayLemmas.{ticked}
use Rattle.ph_replay.proofs.replayed.Replayed.tick.Goals as goal
use Rattle.ph_replay.proofs.replayed.Replayed.tick.Goals.{in-Ok+in-Done, in-Err+in-Tick}

pub invariant_of-self : goal.invariant_of-self
invariant_of-self c =
    elim c.match-apply.branch [
      | in-Ok+in-Done w ↦ ticked c.self.inside.book c.apply.new.self c.args.caller c.args.moment c.self.inside.replies.items c.self.inside.tickets.items
          c.live_runs.ensures.found c.self.invariant w.in-Ok.ensures.entry (subst (Says _ c.args.caller _) w.in-Done.is w.in-Ok.ensures.answer)
      | in-Err+in-Tick w ↦ subst (λ (book : BookState). IsReplay book.setup book.history c.self.inside.replies.items c.self.inside.tickets.items) (sym w.in-Err.ensures.unchanged.1) c.self.invariant
    ]

pub returns-clause-unentered : goal.returns-clause-unentered
returns-clause-unentered c =
    elim c.match-apply.branch [
      | in-Ok+in-Done w ↦ rw w.result-is tt
      | in-Err+in-Tick w ↦ rw w.result-is (subst (λ (s : ReplayState). IsUnentered s.book.setup s.book.history (tick_entry c.args.caller c.args.moment) w.reason_of.result) c.self.view_is
          (refused_is c.self.inside.book.setup c.self.inside.book.history (tick_entry c.args.caller c.args.moment) w.in-Err.refused w.reason_of.result w.reason_of.ensures w.in-Err.ensures.full.0))
    ]
