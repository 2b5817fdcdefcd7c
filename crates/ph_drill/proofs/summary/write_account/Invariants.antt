use Rattle.std.proofs.Common.{take}
use Rattle.std.specs.List.{flat_map}
use Rattle.ph_money.specs.Currencies.{currencies}
use Rattle.ph_io.specs.Writes.{Takes}
use Rattle.ph_drill.specs.Summary.{currency_lines}
use Rattle.ph_drill.proofs.summary.write_account.Given as goal

abbrev pub invariant-loop-currency : goal.invariant-loop-currency
invariant-loop-currency g l =
    Takes (g.K.Sink.sink l.fn.sink) (g.K.Sink.sink l.sink) (flat_map (currency_lines (g.V.View.state l.view) l.account) (take l.currency-index currencies))
