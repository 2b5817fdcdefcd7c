use Rattle.std.proofs.Common.{◌∙◌, arith}
use Rattle.ph_io.proofs.DeviceLemmas.{takes_on, within_on}
use Rattle.ph_io.proofs.whole.write_all.Goals as goal

pub loop-at-preserved : goal.loop-at-preserved
loop-at-preserved g c =
    let wrote = c.in_ok-at.ensures in
    record {
      within = within_on _ _ _ (omega arith) wrote.within;
      written = takes_on c.args.bytes.now c.loop-at.at c.in_ok-at.field-0
          c.loop-at.invariant.written wrote.takes;
      beside = wrote.beside ∙ c.loop-at.invariant.beside;
    }
