use Rattle.ph_intents.proofs.CaptureLemmas.{capture_keeps}
use Rattle.ph_intents.proofs.KeepsLemmas.{create_keeps, create_confirmed_keeps, update_keeps, confirm_keeps, authenticate_keeps, fail_authentication_keeps, cancel_keeps}
use Rattle.ph_intents.proofs.laws.calls_keep_sound.Goals as goal

pub returns-clause-create : goal.returns-clause-create
returns-clause-create c = create_keeps

pub returns-clause-create_confirmed : goal.returns-clause-create_confirmed
returns-clause-create_confirmed c = create_confirmed_keeps

pub returns-clause-update : goal.returns-clause-update
returns-clause-update c = update_keeps

pub returns-clause-confirm : goal.returns-clause-confirm
returns-clause-confirm c = confirm_keeps

pub returns-clause-authenticate : goal.returns-clause-authenticate
returns-clause-authenticate c = authenticate_keeps

pub returns-clause-fail_authentication : goal.returns-clause-fail_authentication
returns-clause-fail_authentication c = fail_authentication_keeps

pub returns-clause-capture : goal.returns-clause-capture
returns-clause-capture c = capture_keeps

pub returns-clause-cancel : goal.returns-clause-cancel
returns-clause-cancel c = cancel_keeps
