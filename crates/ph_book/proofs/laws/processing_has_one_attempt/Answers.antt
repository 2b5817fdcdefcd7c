use Rattle.ph_doings.proofs.LawProofs.{processing_has_one_attempt}
use Rattle.ph_book.specs.History.{doings_of}
use Rattle.ph_book.proofs.StandLemmas.{history_stands}
use Rattle.ph_book.proofs.laws.processing_has_one_attempt.Goals as goal

pub returns : goal.returns
returns c =
    let stands = history_stands c.args.setup.now c.args._history.now c.few_entries.ensures c.requires in
    processing_has_one_attempt (doings_of c.args.setup.now c.args._history.now) stands.lawful
