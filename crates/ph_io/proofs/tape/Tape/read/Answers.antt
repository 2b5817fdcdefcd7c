use Rattle.std.proofs.Common.{drop, arith}
use Rattle.ph_io.proofs.TapeLemmas.{read_at}
use Rattle.ph_io.proofs.tape.Tape.read.Goals as goal

pub returns-clause-left : goal.returns-clause-left
returns-clause-left c =
    let tape = c.self.inside in
    let behind = drop c.min-n.result c.args.room.now in
    let read = read_at tape.bytes.items c.deref.result.now c.copy_from_slice.new.self behind
    tape.at c.min-n.result (omega arith) c.deref.ensures.value c.copy_from_slice.ensures.after in
    rw (← c.self.view_is) read.left

pub returns-clause-taken : goal.returns-clause-taken
returns-clause-taken c =
    let tape = c.self.inside in
    let behind = drop c.min-n.result c.args.room.now in
    let read = read_at tape.bytes.items c.deref.result.now c.copy_from_slice.new.self behind
    tape.at c.min-n.result (omega arith) c.deref.ensures.value c.copy_from_slice.ensures.after in
    rw (← c.self.view_is) read.taken
