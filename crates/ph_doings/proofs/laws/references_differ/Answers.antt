use Rattle.ph_doings.proofs.LawProofs.{references_differ}
use Rattle.ph_doings.proofs.laws.references_differ.Goals as goal

pub returns : goal.returns
returns c = references_differ
