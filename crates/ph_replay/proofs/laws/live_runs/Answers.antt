use Rattle.std.proofs.Common.{◌^◌, ◌<◌, subst}
use Rattle.ph_book.specs.declared.setup.Setup.{Setup}
use Rattle.ph_replay.proofs.ReplayLemmas.{are_found, runs_read}
use Rattle.ph_replay.proofs.laws.live_runs.Goals as goal

pub returns-clause-follow : goal.returns-clause-follow
returns-clause-follow c = runs_read _ _ _ _ c.setup-2.ensures c.history.ensures.value c.runs_follow.ensures

pub returns-clause-found : goal.returns-clause-found
returns-clause-found c = are_found _ _ (subst (λ (s : Setup). s.entries < 2 ^ 32) c.setup.ensures c.few_entries.ensures) c.history_is_legal.ensures
