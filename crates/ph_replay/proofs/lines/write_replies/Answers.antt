use Rattle.ph_lines.specs.Fields.{line_text}
use Rattle.ph_lines.proofs.WriteLemmas.{at_err, item_front}
use Rattle.ph_replay.specs.Lines.{reply_fields}
use Rattle.ph_replay.proofs.lines.write_replies.Goals as goal

pub returns-in_err-write_reply-clause-front : goal.returns-in_err-write_reply-clause-front
returns-in_err-write_reply-clause-front g c =
    at_err _ (item_front (λ told. line_text (reply_fields told)) c.args.replies.now c.loop-told.told-index _ c.loop-told-test.true c.loop-told.invariant c.in_err-write_reply.ensures.front)
