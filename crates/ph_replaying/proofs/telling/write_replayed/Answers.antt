use Rattle.std.proofs.Common.{List, subst, ◌∙◌}
use Rattle.std.proofs.lemmas.Result.{err_from_is_err_and}
use Rattle.ph_io.specs.Writes.{Takes, TakesFront}
use Rattle.ph_io.proofs.DeviceLemmas.{front_of_more}
use Rattle.ph_book.specs.State.{BookState}
use Rattle.ph_drill.specs.Lines.{Writes}
use Rattle.ph_drill.specs.Summary.{summary_of}
use Rattle.ph_drill.proofs.WriteLemmas.{writes_then, writes_err}
use Rattle.ph_replay.specs.declared.told.Told.{Told}
use Rattle.ph_replay.specs.Lines.{replies_text}
use Rattle.ph_replaying.specs.Texts.{replay_text}
use Rattle.ph_replaying.proofs.telling.write_replayed.Goals as goal

pub returns-in_err-write_told : goal.returns-in_err-write_told
unfolding replay_text
returns-in_err-write_told g c =
    let p = err_from_is_err_and c.from_residual.result c.from_residual.ensures.1 in
    writes_err _ p.0 p.1
    (front_of_more (summary_of c.args.replayed.now.book.setup c.args.replayed.now.book.history)
    (subst (λ (replies : List Told). TakesFront (g.K.Sink.sink c.args.output.now) (g.K.Sink.sink c.write_told.new.output) (replies_text replies))
    (c.replies.ensures.value ∙ c.replies.ensures.all) c.in_err-write_told.ensures))

pub returns : goal.returns
unfolding replay_text
returns g c =
    writes_then _ (summary_of c.args.replayed.now.book.setup c.args.replayed.now.book.history) c.write_summary.result
    (subst (λ (replies : List Told). Takes (g.K.Sink.sink c.args.output.now) (g.K.Sink.sink c.write_told.new.output) (replies_text replies))
    (c.replies.ensures.value ∙ c.replies.ensures.all) c.in_ok-write_told.ensures)
    (subst (λ (book : BookState). Writes (g.K.Sink.sink c.write_told.new.output) (g.K.Sink.sink c.write_summary.new.sink) (summary_of book.setup book.history) c.write_summary.result)
    c.book.ensures c.write_summary.ensures)
