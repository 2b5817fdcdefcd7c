use Rattle.std.proofs.Common.{◌≡◌, ◌+◌, false, length, sym, subst, IsTrue}
use Rattle.ph_http.specs.declared.message.Reply.{Reply}
use Rattle.ph_http.specs.Replies.{is_status}
use Rattle.ph_book.specs.declared.acts.Act.{Act}
use Rattle.ph_book.specs.declared.acts.Act.TheVariants as act
use Rattle.ph_book.specs.declared.acts.Answer.TheVariants as answer
use Rattle.ph_book.specs.Answers.{IsAnswerTo, Says}
use Rattle.ph_book.specs.Entries.{deed_of, entry_of, finish_entry, park_entry, resume_entry, tick_entry}
use Rattle.ph_book.specs.History.{said_to}
use Rattle.ph_book.specs.Legal.{is_full}
use Rattle.ph_book.specs.Tickets.{SpendsOwn}
use Rattle.ph_book.proofs.ReplyLemmas.{park_status, ruled_status, says_reply, says_silence, says_wait}
use Rattle.ph_book.proofs.HistoryLemmas.{has_room, lawful_entered, replies_grow}
use Rattle.ph_book.proofs.StepLemmas.{finish_room, park_room}
use Rattle.ph_book.proofs.book.Book.apply.Goals as goal

pub returns-in-Ok-clause-kind : goal.returns-in-Ok-clause-kind
returns-in-Ok-clause-kind c = subst (λ (act : Act). IsAnswerTo (deed_of act) c.in-Ok.answer) (sym c.in-Call.is) c.in-Ok.ensures.kind

pub returns-in-Ok-finish-clause-kind : goal.returns-in-Ok-finish-clause-kind
returns-in-Ok-finish-clause-kind c =
    subst (λ (act : Act). IsAnswerTo (deed_of act) (answer.Reply c.in-Ok-finish.reply)) (sym c.in-Finish.is) c.in-Ok-finish.ensures.ruled

pub returns-in-Ok-finish-clause-status : goal.returns-in-Ok-finish-clause-status
returns-in-Ok-finish-clause-status c = ruled_status c.in-Ok-finish.reply.status c.in-Ok-finish.ensures.ruled

pub returns-in-Ok-finish-clause-replies : goal.returns-in-Ok-finish-clause-replies
returns-in-Ok-finish-clause-replies c =
    replies_grow c.args.self.now c.finish.new.self 0 c.args.caller (finish_entry c.args.caller c.in-Finish.ticket c.in-Finish.ruling) (answer.Reply c.in-Ok-finish.reply)
    c.in-Ok-finish.ensures.entry (says_reply 0 c.args.caller _ c.in-Ok-finish.reply c.in-Ok-finish.ensures.said)

pub returns-in-Ok-finish-clause-lawful : goal.returns-in-Ok-finish-clause-lawful
returns-in-Ok-finish-clause-lawful c =
    lawful_entered c.args.self.now c.finish.new.self c.args.caller (act.Finish c.in-Finish.ticket c.in-Finish.ruling) c.lawful.ensures c.requires.caller
    (subst (SpendsOwn c.args.self.now.setup c.args.self.now.history c.args.caller) c.in-Finish.is c.requires.own) tt (finish_room _ _ _ _) c.in-Ok-finish.ensures.entry

pub returns-in-Ok-finish-clause-room : goal.returns-in-Ok-finish-clause-room
returns-in-Ok-finish-clause-room c =
    subst (λ (act : Act). is_full c.args.self.now.setup c.args.self.now.history (deed_of act) ≡ false) (sym c.in-Finish.is) (finish_room _ _ _ _)

pub returns-in-Err-finish-clause-full : goal.returns-in-Err-finish-clause-full
returns-in-Err-finish-clause-full c =
    has_room _ (subst (λ (act : Act). is_full c.args.self.now.setup c.args.self.now.history (deed_of act) ≡ false) (sym c.in-Finish.is) (finish_room _ _ _ _))

pub returns-in-Park-clause-status : goal.returns-in-Park-clause-status
returns-in-Park-clause-status c = subst (λ (reply : Reply). IsTrue (is_status reply.status)) (sym c.park.ensures.reply) (park_status c.in-Park.why)

pub returns-in-Park-clause-replies : goal.returns-in-Park-clause-replies
returns-in-Park-clause-replies c =
    replies_grow c.args.self.now c.park.new.self 0 c.args.caller (park_entry c.args.caller c.in-Park.ticket c.in-Park.why) (answer.Reply c.park.result)
    c.park.ensures.entry (says_reply 0 c.args.caller _ c.park.result c.park.ensures.said)

pub returns-in-Park-clause-lawful : goal.returns-in-Park-clause-lawful
returns-in-Park-clause-lawful c =
    lawful_entered c.args.self.now c.park.new.self c.args.caller (act.Park c.in-Park.ticket c.in-Park.why) c.lawful.ensures c.requires.caller
    (subst (SpendsOwn c.args.self.now.setup c.args.self.now.history c.args.caller) c.in-Park.is c.requires.own) tt (park_room _ _ _ _) c.park.ensures.entry

pub returns-in-Park-clause-room : goal.returns-in-Park-clause-room
returns-in-Park-clause-room c =
    subst (λ (act : Act). is_full c.args.self.now.setup c.args.self.now.history (deed_of act) ≡ false) (sym c.in-Park.is) (park_room _ _ _ _)

pub returns-in-Ok-tick-clause-replies : goal.returns-in-Ok-tick-clause-replies
returns-in-Ok-tick-clause-replies c =
    replies_grow c.args.self.now c.tick.new.self 0 c.args.caller (tick_entry c.args.caller c.in-Tick.moment) answer.Done
    c.in-Ok-tick.ensures.entry (says_silence 0 c.args.caller _ c.in-Ok-tick.ensures.said)

pub returns-in-Ok-Some-clause-answer : goal.returns-in-Ok-Some-clause-answer
returns-in-Ok-Some-clause-answer c =
    let place = length c.args.self.now.history + 1 in
    subst (λ (a : Act). Says place c.args.caller (said_to c.args.self.now.setup c.args.self.now.history (entry_of c.args.caller a)) (answer.Wait c.in-Ok-Some.ticket)) (sym c.in-Resume.is)
    (says_wait place c.args.caller (said_to c.args.self.now.setup c.args.self.now.history (resume_entry c.args.caller)) c.in-Ok-Some.ticket.order c.in-Ok-Some.ticket
    (rw c.in-Ok-Some.field-0-is at c.in-Ok-Some.ensures.answer) (rw c.in-Ok-Some.field-0-is at c.in-Ok-Some.ensures.ticket))

pub returns-in-Ok-Some-clause-replies : goal.returns-in-Ok-Some-clause-replies
returns-in-Ok-Some-clause-replies c =
    let place = length c.args.self.now.history + 1 in
    replies_grow c.args.self.now c.resume.new.self place c.args.caller (resume_entry c.args.caller) (answer.Wait c.in-Ok-Some.ticket) c.in-Ok-Some.ensures.entry
    (says_wait place c.args.caller (said_to c.args.self.now.setup c.args.self.now.history (resume_entry c.args.caller)) c.in-Ok-Some.ticket.order c.in-Ok-Some.ticket
    (rw c.in-Ok-Some.field-0-is at c.in-Ok-Some.ensures.answer) (rw c.in-Ok-Some.field-0-is at c.in-Ok-Some.ensures.ticket))

pub returns-in-Ok-None-clause-replies : goal.returns-in-Ok-None-clause-replies
returns-in-Ok-None-clause-replies c =
    replies_grow c.args.self.now c.resume.new.self 0 c.args.caller (resume_entry c.args.caller) answer.Done c.in-Ok-None.ensures.entry
    (says_silence 0 c.args.caller (said_to c.args.self.now.setup c.args.self.now.history (resume_entry c.args.caller)) (rw c.in-Ok-None.field-0-is at c.in-Ok-None.ensures.none))
