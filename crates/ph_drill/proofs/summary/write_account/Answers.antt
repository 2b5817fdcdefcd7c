use Rattle.std.proofs.Common.{get_or}
use Rattle.std.proofs.lemmas.Option.{slice_get-get_or}
use Rattle.std.proofs.lemmas.Result.{err_from_is_err_and}
use Rattle.ph_money.specs.Currencies.{currencies}
use Rattle.ph_money.specs.declared.currencies.Currency.TheVariants.{Eur}
use Rattle.ph_drill.specs.Summary.{currency_lines}
use Rattle.ph_drill.proofs.ListLemmas.{takes_piece, front_of_pieces}
use Rattle.ph_drill.proofs.WriteLemmas.{writes_err}
use Rattle.ph_drill.proofs.summary.write_account.Goals as goal

pub returns-in_err-write_currency : goal.returns-in_err-write_currency
returns-in_err-write_currency g c =
    let p = err_from_is_err_and c.from_residual.result c.from_residual.ensures.1 in
    writes_err _ p.0 p.1
    (front_of_pieces (currency_lines (g.V.View.state c.args.view.now) c.args.account) currencies c.loop-currency.currency-index
    (get_or currencies c.loop-currency.currency-index Eur)
    (slice_get-get_or currencies c.loop-currency.currency-index Eur c.loop-currency-test.true)
    c.loop-currency.invariant c.in_err-write_currency.ensures)

pub loop-currency-preserved : goal.loop-currency-preserved
loop-currency-preserved g c =
    takes_piece (currency_lines (g.V.View.state c.args.view.now) c.args.account) currencies c.loop-currency.currency-index
    (get_or currencies c.loop-currency.currency-index Eur)
    (slice_get-get_or currencies c.loop-currency.currency-index Eur c.loop-currency-test.true)
    c.loop-currency.invariant c.in_ok-write_currency.ensures
