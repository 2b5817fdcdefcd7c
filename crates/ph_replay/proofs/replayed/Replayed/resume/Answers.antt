use Rattle.std.proofs.Common.{◌∷◌, ◌++◌, [], refl, ap, ◌∙◌, subst}
use Rattle.ph_book.specs.Answers.{Says}
use Rattle.ph_book.specs.Entries.{resume_entry}
use Rattle.ph_replay.specs.State.{ReplayState}
use Rattle.ph_replay.specs.Unentered.{IsUnentered}
use Rattle.ph_replay.proofs.LegalLemmas.{refused_is}
use Rattle.ph_replay.proofs.ReplayLemmas.{kept_in, resume_passes, resume_waits}
use Rattle.ph_replay.proofs.replayed.Replayed.resume.Goals as goal

pub invariant_of-self-in-Ok-Wait : goal.invariant_of-self-in-Ok-Wait
invariant_of-self-in-Ok-Wait c =
    kept_in _ _ _ _ _ _ refl (c.push_reserved.ensures.items ∙ ap (λ tickets. tickets ++ c.in-Ok-Wait.ticket ∷ []) c.reserve.ensures.items)
    (resume_waits c.self.inside.book c.apply.new.self c.args.caller c.self.inside.replies.items c.self.inside.tickets.items c.in-Ok-Wait.ticket
    c.live_runs.ensures.follow c.self.invariant c.in-Ok-Wait.ensures.entry c.requires.caller (subst (Says _ c.args.caller _) c.in-Ok-Wait.field-0-is c.in-Ok-Wait.ensures.answer))

pub invariant_of-self-in-Ok-Done : goal.invariant_of-self-in-Ok-Done
invariant_of-self-in-Ok-Done c =
    kept_in _ _ _ _ _ _ refl c.reserve.ensures.items
    (resume_passes c.self.inside.book c.apply.new.self c.args.caller c.self.inside.replies.items c.self.inside.tickets.items
    c.live_runs.ensures.follow c.self.invariant c.in-Ok-Done.ensures.entry (subst (Says _ c.args.caller _) c.in-Ok-Done.field-0-is c.in-Ok-Done.ensures.answer))

pub returns-in-Resume-clause-unentered : goal.returns-in-Resume-clause-unentered
returns-in-Resume-clause-unentered c =
    subst (λ (s : ReplayState). IsUnentered s.book.setup s.book.history (resume_entry c.args.caller) c.reason_of.result) c.self.view_is
    (refused_is c.self.inside.book.setup c.self.inside.book.history (resume_entry c.args.caller) c.in-Err.refused c.reason_of.result c.reason_of.ensures c.in-Err.ensures.full.0)
