use Rattle.ph_conn.proofs.DeskLemmas.{known-legal}
use Rattle.ph_conn.proofs.KeptLemmas.{alone}
use Rattle.ph_conn.proofs.SessionLemmas.{none_served}
use Rattle.ph_conn.proofs.sessions.serve_none.Goals as goal

pub returns : goal.returns
returns g c = λ limit book link counts input legal. alone book book (none_served _ limit _ input (known-legal book legal) c.part.ensures.parts)
