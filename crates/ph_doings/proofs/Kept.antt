-- Whatever may come next keeps what holds; so it holds of every past in which each doing may come after those before it.
use Rattle.std.proofs.Common.{List, [], ◌∷◌, refl, arith}
use Rattle.ph_doings.specs.Doings.{Doing, Leaves, Puts, Edits, Begins, Resumes, Parks, Settles}
use Rattle.ph_doings.specs.Lawful.{IsLawful, MayDo}
use Rattle.ph_doings.specs.Statuses.{status_of}
use Rattle.ph_doings.proofs.Approvals.{approvals_leaves, approvals_puts, approvals_edits, approvals_begins, approvals_resumes, approvals_parks, approvals_settles}
use Rattle.ph_doings.proofs.Chains.{chains_leaves, chains_puts, chains_edits, chains_begins, chains_resumes, chains_parks, chains_settles}
use Rattle.ph_doings.proofs.LiveRuns.{live_leaves, live_puts, live_edits, live_begins, live_resumes, live_parks, live_settles}
use Rattle.ph_doings.proofs.References.{own_leaves, own_puts, own_edits, own_begins, own_resumes, own_parks, own_settles}
use Rattle.ph_doings.proofs.Sound.{IsSound}
use Rattle.ph_doings.proofs.Tables.{not_begun_while_processing, not_put_processing, not_put_waiting, not_put_while_processing}
use Rattle.ph_doings.proofs.Unsettled.{unsettled_leaves, unsettled_puts, unsettled_edits, unsettled_begins, unsettled_resumes, unsettled_parks, unsettled_settles}

pub kept : (past : List Doing) (doing : Doing) → IsSound past → MayDo past doing → IsSound (doing ∷ past)
kept past Leaves old may = record {
  references = own_leaves past old.references;
  unsettled = unsettled_leaves past old.unsettled;
  live = live_leaves past old.live;
  chains = chains_leaves past old.chains;
  approvals = approvals_leaves past old.approvals;
}
kept past (Puts intent put) old may = record {
  references = own_puts past intent put old.references;
  unsettled = unsettled_puts past intent put old.unsettled (not_put_while_processing (status_of past intent) put may)
      (not_put_processing (status_of past intent) put may);
  live = live_puts past intent put old.live;
  chains = chains_puts past intent put old.chains (not_put_processing (status_of past intent) put may)
      (not_put_waiting (status_of past intent) put may);
  approvals = approvals_puts past intent put old.approvals may;
}
kept past (Edits intent put) old may = record {
  references = own_edits past intent put old.references;
  unsettled = unsettled_edits past intent put old.unsettled may;
  live = live_edits past intent put old.live;
  chains = chains_edits past intent put old.chains may;
  approvals = approvals_edits past intent put old.approvals may;
}
kept past (Begins cause intent flight) old may = record {
  references = own_begins past cause intent flight old.references may.1;
  unsettled = unsettled_begins past cause intent flight old.unsettled may.1
      (not_begun_while_processing cause (status_of past intent) may.2);
  live = live_begins past cause intent flight old.live may.0 may.1;
  chains = chains_begins past cause intent flight old.chains may.1 may.2;
  approvals = approvals_begins past cause intent flight old.approvals may.1 may.2;
}
kept past (Resumes intent flight) old may = record {
  references = own_resumes past intent flight old.references;
  unsettled = unsettled_resumes past intent flight old.unsettled may.1;
  live = live_resumes past intent flight old.live may.0 may.1;
  chains = chains_resumes past intent flight old.chains may.1;
  approvals = approvals_resumes past intent flight old.approvals may.1;
}
kept past (Parks intent flight) old may = record {
  references = own_parks past intent flight old.references;
  unsettled = unsettled_parks past intent flight old.unsettled may.1;
  live = live_parks past intent flight old.live may.0 may.1;
  chains = chains_parks past intent flight old.chains may.1;
  approvals = approvals_parks past intent flight old.approvals may.1;
}
kept past (Settles intent flight capture ruling) old may = record {
  references = own_settles past intent flight capture ruling old.references;
  unsettled = unsettled_settles past intent flight capture ruling old.unsettled may.1;
  live = live_settles past intent flight capture ruling old.live may.0 may.1;
  chains = chains_settles past intent flight capture ruling old.unsettled old.chains may.1;
  approvals = approvals_settles past intent flight capture ruling old.unsettled old.approvals may.1;
}

sound_none : IsSound []
sound_none = record {
  references = record { begun = λ place reference h. absurd (cc); differ = λ place other reference h k. absurd (cc) };
  unsettled = record { processing = λ i q h. absurd (cc); newest = λ i q h. absurd (cc); unsettled = λ i h. absurd (cc) };
  live = record {
    known = λ run h. refl;
    above = λ run flight h. absurd (cc);
    number = λ run flight h. absurd (cc);
    newest = λ run flight h. absurd (cc);
    live = λ run flight h. absurd (cc);
    own = λ q o h. absurd (cc);
    flown = λ q o h. absurd (cc);
  };
  chains = record {
    known = λ i. omega arith;
    apart = λ i j h k. absurd (omega arith);
    newest = λ i h. refl;
    confirmed = λ i h. absurd (cc);
    begun = λ i h. absurd (cc);
    waits = λ i h. absurd (cc);
    challenged = λ c. refl;
  };
  approvals = record { over = λ i q h. absurd (cc); once = λ i p q h k. absurd (cc) };
}

pub sound : (past : List Doing) → IsLawful past → IsSound past
sound [] lawful = sound_none
sound (doing ∷ past) lawful = kept past doing (sound past lawful.1) lawful.0
