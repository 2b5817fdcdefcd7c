use Rattle.std.proofs.Common.{sym, refl, rules}
use Rattle.ph_form.specs.Index.{leaves_in}
use Rattle.ph_form.proofs.IndexLemmas.{any_below_more, none_above_empty}
use Rattle.ph_form.proofs.reading.Reading.passes_text.Goals as goal

pub loop-i-init : goal.loop-i-init
loop-i-init c = sym (none_above_empty (leaves_in c.args.self.now))

pub loop-i-preserved : goal.loop-i-preserved
loop-i-preserved c = let e = any_below_more c.args.name.now c.loop-i.i (leaves_in c.args.self.now) (search rules) in rw (e, ← c.loop-i.invariant, ← c.ends_at-passes.ensures) refl
