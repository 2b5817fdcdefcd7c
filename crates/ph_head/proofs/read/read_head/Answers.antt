use Rattle.ph_head.proofs.ReaderLemmas.{parts_read}
use Rattle.ph_head.proofs.read.read_head.Goals as goal

pub returns-clause-parts : goal.returns-clause-parts
returns-clause-parts c =
    parts_read c.args.bytes.now c.parsed.new.room c.parsed.result c.parsed.ensures.read c.parsed.ensures.none
