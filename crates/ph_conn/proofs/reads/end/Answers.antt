use Rattle.ph_conn.proofs.ReadLemmas.{gives_end}
use Rattle.ph_conn.proofs.reads.end.Goals as goal

pub unreachable-requires : goal.unreachable-requires
unreachable-requires c = rw c.in-Ok-More.field-0-is at (gives_end c.args.talk.now c.next.new.self c.in-Ok-More.field-0 c.requires.ended c.requires.wanted c.in-Ok-More.ensures.ok)

pub unreachable-requires-in-Ok-Close : goal.unreachable-requires-in-Ok-Close
unreachable-requires-in-Ok-Close c = rw c.in-Ok-Close.field-0-is at (gives_end c.args.talk.now c.next.new.self c.in-Ok-Close.field-0 c.requires.ended c.requires.wanted c.in-Ok-Close.ensures.ok)

pub unreachable-requires-in-Ok-Continue : goal.unreachable-requires-in-Ok-Continue
unreachable-requires-in-Ok-Continue c = rw c.in-Ok-Continue.field-0-is at (gives_end c.args.talk.now c.next.new.self c.in-Ok-Continue.field-0 c.requires.ended c.requires.wanted c.in-Ok-Continue.ensures.ok)

pub unreachable-requires-in-Ok-Request : goal.unreachable-requires-in-Ok-Request
unreachable-requires-in-Ok-Request c = rw c.in-Ok-Request.field-0-is at (gives_end c.args.talk.now c.next.new.self c.in-Ok-Request.field-0 c.requires.ended c.requires.wanted c.in-Ok-Request.ensures.ok)
