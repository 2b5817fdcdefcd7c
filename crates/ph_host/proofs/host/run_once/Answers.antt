use Rattle.ph_host.proofs.KeyLemmas.{key_laws_of_words}
use Rattle.ph_host.proofs.host.run_once.Goals as goal

pub returns-in-Host-clause-keys : goal.returns-in-Host-clause-keys
returns-in-Host-clause-keys g c = key_laws_of_words c.args.words.now

pub returns-in-Once-clause-keys : goal.returns-in-Once-clause-keys
returns-in-Once-clause-keys g c = key_laws_of_words c.args.words.now
