use Rattle.std.specs.List.{flat_map}
use Rattle.std.proofs.Common.{◌+◌, ◌≤◌, length, take, sym, ap, subst, ◌∙◌, arith}
use Rattle.std.proofs.lemmas.List.{take_all}
use Rattle.std.proofs.lemmas.Result.{err_from_is_err_and}
use Rattle.ph_io.specs.Writes.{Takes, TakesFront}
use Rattle.ph_views.proofs.SearchLemmas.{row_at-is}
use Rattle.ph_drill.proofs.BalanceLemmas.{row_lines, lines_of_account, lines_of_other, lines_of_rows}
use Rattle.ph_drill.proofs.ListLemmas.{takes_piece, takes_no_piece, front_of_pieces}
use Rattle.ph_drill.proofs.WriteLemmas.{writes_err}
use Rattle.ph_drill.proofs.summary.write_balances.Goals as goal
use Rattle.ph_drill.proofs.summary.write_balances.Goals.{then-is_object+in_ok-write_account, else-is_object}

pub returns-in_err-write_account : goal.returns-in_err-write_account
returns-in_err-write_account g c =
    let view = g.V.View.state c.args.view.now in
    let p = err_from_is_err_and c.from_residual.result c.from_residual.ensures.1 in
    let lines = lines_of_account view c.in-Some.row.now (sym c.is_object.ensures ∙ c.if-is_object.true) in
    writes_err _ p.0 p.1
    (subst (TakesFront (g.K.Sink.sink c.args.sink.now) (g.K.Sink.sink c.write_account.new.sink)) (sym (lines_of_rows view))
    (front_of_pieces (row_lines view) view.rows c.loop-at.at c.in-Some.row.now (row_at-is c.loop-at.at view.rows c.in-Some.row.now (sym c.in-Some.ensures))
    c.loop-at.invariant
    (subst (TakesFront (g.K.Sink.sink c.loop-at.sink) (g.K.Sink.sink c.write_account.new.sink)) (sym lines) c.in_err-write_account.ensures)))

pub loop-at-preserved : goal.loop-at-preserved
loop-at-preserved g c =
    let view = g.V.View.state c.args.view.now in
    let here = row_at-is c.loop-at.at view.rows c.in-Some.row.now (sym c.in-Some.ensures) in
    elim c.if-is_object.branch [
      | then-is_object+in_ok-write_account w ↦
          (let lines = lines_of_account view c.in-Some.row.now (sym c.is_object.ensures ∙ w.if-is_object.true) in
          subst (λ sink. Takes (g.K.Sink.sink c.args.sink.now) (g.K.Sink.sink sink) (flat_map (row_lines view) (take (c.loop-at.at + 1) view.rows))) (sym w.sink-is)
          (takes_piece (row_lines view) view.rows c.loop-at.at c.in-Some.row.now here c.loop-at.invariant
          (subst (Takes (g.K.Sink.sink c.loop-at.sink) (g.K.Sink.sink w.write_account.new.sink)) (sym lines) w.in_ok-write_account.ensures)))
      | else-is_object w ↦
          (let none = lines_of_other view c.in-Some.row.now (sym c.is_object.ensures ∙ w.if-is_object.false) in
          subst (λ sink. Takes (g.K.Sink.sink c.args.sink.now) (g.K.Sink.sink sink) (flat_map (row_lines view) (take (c.loop-at.at + 1) view.rows))) (sym w.sink-is)
          (takes_no_piece (row_lines view) view.rows c.loop-at.at c.in-Some.row.now here none c.loop-at.invariant))
    ]

pub returns : goal.returns
returns g c =
    let view = g.V.View.state c.args.view.now in
    let whole : length view.rows ≤ c.loop-at.at = omega (arith, c.count-at-end.ensures) in
    let all = take_all c.loop-at.at view.rows whole in
    subst (Takes (g.K.Sink.sink c.args.sink.now) (g.K.Sink.sink c.loop-at.sink)) (ap (flat_map (row_lines view)) all ∙ sym (lines_of_rows view)) c.loop-at.invariant
