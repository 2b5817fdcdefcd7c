use Rattle.std.proofs.Common.{◌∷◌, ◌++◌, [], ap, ◌∙◌, subst}
use Rattle.ph_book.specs.Answers.{Says}
use Rattle.ph_book.specs.Entries.{call_entry}
use Rattle.ph_book.specs.Replies.{Replies}
use Rattle.ph_replay.specs.State.{ReplayState}
use Rattle.ph_replay.specs.Told.{told_at}
use Rattle.ph_replay.specs.Unentered.{IsUnentered}
use Rattle.ph_replay.proofs.LegalLemmas.{refused_is}
use Rattle.ph_replay.proofs.ReplayLemmas.{call_replied, call_waits, kept_in}
use Rattle.ph_replay.proofs.replayed.Replayed.call.Goals as goal

pub invariant_of-self-in-Ok-Reply : goal.invariant_of-self-in-Ok-Reply
invariant_of-self-in-Ok-Reply c =
    let told = c.tell.ensures ∙ ap (λ n. told_at n (Replies c.in-Ok-Reply.reply)) c.next_place-place.ensures in
    kept_in _ _ _ _ _ _ (c.push_reserved.ensures.items ∙ ap (λ replies. replies ++ c.tell.result ∷ []) c.reserve.ensures.items) c.reserve-2.ensures.items
    (call_replied c.self.inside.book c.apply.new.self c.args.caller c.args.raw c.self.inside.replies.items c.self.inside.tickets.items c.in-Ok-Reply.reply c.tell.result
    c.live_runs.ensures.follow c.self.invariant c.in-Ok-Reply.ensures.entry (subst (Says _ c.args.caller _) c.in-Ok-Reply.field-0-is c.in-Ok-Reply.ensures.answer) told)

pub invariant_of-self-in-Ok-Wait : goal.invariant_of-self-in-Ok-Wait
invariant_of-self-in-Ok-Wait c =
    kept_in _ _ _ _ _ _ c.reserve.ensures.items (c.push_reserved-in-Ok-Wait.ensures.items ∙ ap (λ tickets. tickets ++ c.in-Ok-Wait.ticket ∷ []) c.reserve-2.ensures.items)
    (call_waits c.self.inside.book c.apply.new.self c.args.caller c.args.raw c.self.inside.replies.items c.self.inside.tickets.items c.in-Ok-Wait.ticket
    c.live_runs.ensures.follow c.self.invariant c.in-Ok-Wait.ensures.entry c.requires.caller (subst (Says _ c.args.caller _) c.in-Ok-Wait.field-0-is c.in-Ok-Wait.ensures.answer))

pub returns-in-Err-clause-unentered : goal.returns-in-Err-clause-unentered
returns-in-Err-clause-unentered c =
    subst (λ (s : ReplayState). IsUnentered s.book.setup s.book.history (call_entry c.args.caller c.args.raw) c.reason_of.result) c.self.view_is
    (refused_is c.self.inside.book.setup c.self.inside.book.history (call_entry c.args.caller c.args.raw) c.in-Err.refused c.reason_of.result c.reason_of.ensures c.in-Err.ensures.full.0)
