use Rattle.std.proofs.Common.{◌+◌, ◌-◌, ◌≤◌, length, arith}
use Rattle.ph_lines.proofs.WriteLemmas.{at_err, digits_of_nothing, hex_on, hex_front}
use Rattle.ph_lines.proofs.writing.write_hex.Goals as goal

pub loop-at-init : goal.loop-at-init
loop-at-init g c = record { within = omega arith; written = digits_of_nothing }

pub returns-in_err-write_piece-clause-front : goal.returns-in_err-write_piece-clause-front
returns-in_err-write_piece-clause-front g c =
    at_err _ (hex_front c.args.bytes.now c.loop-at.at _ c.loop-at.invariant.written c.in_err-write_piece.ensures.front)

pub loop-at-preserved : goal.loop-at-preserved
loop-at-preserved g c = record {
  within = omega arith;
  written = hex_on c.args.bytes.now c.loop-at.at c.min-n.result _ (omega arith) c.loop-at.invariant.written c.in_ok-write_piece.ensures.all;
}
