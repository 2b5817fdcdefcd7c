use Rattle.ph_doings.proofs.Coming.{live_runs_may_end}
use Rattle.ph_book.specs.History.{doings_of, view_of}
use Rattle.ph_book.proofs.StandLemmas.{history_stands}
use Rattle.ph_book.proofs.laws.live_runs_are_shown.Goals as goal

pub returns : goal.returns
returns c =
    let stands = history_stands c.args.setup.now c.args._history.now c.few_entries.ensures c.requires in
    λ flight live. live_runs_may_end (doings_of c.args.setup.now c.args._history.now) (view_of c.args.setup.now c.args._history.now) flight stands.lawful stands.ready.sound.order stands.shown live
