use Rattle.ph_http.proofs.StatusLemmas.{request_after_continue}
use Rattle.ph_http.proofs.laws.a_request_follows_its_continue.Goals as goal

pub returns : goal.returns
returns c = λ talk after h. (let r = request_after_continue talk after h in (r.raw, r.last, r.next))
