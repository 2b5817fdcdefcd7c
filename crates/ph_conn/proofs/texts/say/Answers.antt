use Rattle.std.proofs.Common.{◌++◌, OnErr, ap, ◌∙◌, subst}
use Rattle.ph_io.specs.Writes.{TakesFront}
use Rattle.ph_conn.proofs.WriteLemmas.{front_behind}
use Rattle.ph_conn.proofs.texts.say.Goals as goal

pub returns-in-Ok-clause-front : goal.returns-in-Ok-clause-front
returns-in-Ok-clause-front g c =
    subst (λ text. OnErr c.write_all-in-Ok.result (TakesFront (g.K.Sink.sink c.args.output.now) (g.K.Sink.sink c.write_all-in-Ok.new.sink) text))
    (ap (λ body. c.head.result.now ++ body) (c.as_bytes.ensures.value ∙ c.body.ensures) ∙ c.head.ensures)
    (front_behind _ _ c.write_all-in-Ok.result c.in-Ok.ensures.all c.write_all-in-Ok.ensures.front)
