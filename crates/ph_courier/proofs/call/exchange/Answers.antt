use Rattle.std.proofs.Common.{sym, ap, ◌∙◌}
use Rattle.ph_courier.proofs.CallLemmas.{exchanged}
use Rattle.ph_courier.proofs.call.exchange.Goals as goal

pub returns-in-Ok-clause-ends : goal.returns-in-Ok-clause-ends
returns-in-Ok-clause-ends g c =
    let laws = g.met.C.Duplex in
    let wrote = c.write_all.new.sink in
    let heard = c.listen.new.source in
    exchanged c.in-Ok.ensures.all
    (ap (λ b. b.source) (sym (laws.write_keeps wrote) ∙ c.in-Ok.ensures.beside ∙ laws.write_keeps c.args.conn.now))
    c.listen.ensures.heard
    (ap (λ b. b.sink) (sym (laws.read_keeps heard) ∙ c.listen.ensures.beside ∙ laws.read_keeps wrote))
