use Rattle.ph_world.proofs.LawLemmas.{replies_are_answers}
use Rattle.ph_world.proofs.laws.replies_are_answers.Goals as goal

pub returns : goal.returns
returns c = replies_are_answers
