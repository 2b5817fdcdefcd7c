use Rattle.std.proofs.Common.{refl}
use Rattle.ph_history.proofs.ReadLemmas.{goes_on, stops_long, stops_form, stops_fault, stops_end}
use Rattle.ph_history.proofs.reading.read.Goals as goal

pub returns-in-Err-Form : goal.returns-in-Err-Form
returns-in-Err-Form g c =
    let refused = rw (c.in-Err-Form.field-0-is, c.as_slice.ensures) at (c.in-Err-Form.ensures.refused c.loop-at.invariant.fits) in
    stops_form c.loop-at.invariant c.in-Line.ensures (refused refl)

pub returns-in-Long : goal.returns-in-Long
returns-in-Long g c = stops_long c.loop-at.invariant c.in-Long.ensures

pub returns-in-End : goal.returns-in-End
returns-in-End g c = stops_end c.loop-at.part c.ended.result c.loop-at.invariant c.in-End.ensures c.ended.ensures

pub returns-in-ReadFault : goal.returns-in-ReadFault
returns-in-ReadFault g c = stops_fault c.loop-at.invariant c.in-ReadFault.ensures

pub loop-at-preserved : goal.loop-at-preserved
loop-at-preserved g c =
    let lines = rw c.as_slice.ensures at (c.in-Ok.ensures.lines c.loop-at.invariant.fits) in
    goes_on c.loop-at.invariant c.in-Line.ensures lines (c.in-Ok.ensures.fits c.loop-at.invariant.fits)
