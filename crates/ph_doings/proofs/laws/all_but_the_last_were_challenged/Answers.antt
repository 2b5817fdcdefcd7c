use Rattle.ph_doings.proofs.LawProofs.{all_but_the_last_were_challenged}
use Rattle.ph_doings.proofs.laws.all_but_the_last_were_challenged.Goals as goal

pub returns : goal.returns
returns c = all_but_the_last_were_challenged
