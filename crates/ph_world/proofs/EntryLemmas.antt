-- One entry more in a legal history: what it does, what is said to it, and the live runs after it.
use Rattle.std.proofs.Common.{◌≡◌, ℕ, suc, ◌+◌, ◌^◌, ◌<◌, List, [], ◌∷◌, ◌++◌, length, Option, Some, refl, sym, ap, ◌∙◌, subst, arith}
use Rattle.ph_base.specs.declared.acquirer.Ruling.{Ruling}
use Rattle.ph_base.specs.declared.acquirer.Why.{Why}
use Rattle.ph_attempts.specs.declared.flights.Flight.{Flight}
use Rattle.ph_bank.specs.declared.memory.Decision.{Decision}
use Rattle.ph_bank.specs.Scripts.{ruling_of}
use Rattle.ph_doings.specs.Doings.{Doing, Leaves}
use Rattle.ph_doings.specs.Kept.{step_of}
use Rattle.ph_doings.specs.Lawful.{IsLawful, MayDo}
use Rattle.ph_doings.specs.Runs.{live_runs}
use Rattle.ph_doings.proofs.Kept.{sound}
use Rattle.ph_doings.proofs.KeptLists.{begun_last, unchanged}
use Rattle.ph_http.specs.declared.message.Raw.{Raw}
use Rattle.ph_book.specs.declared.acts.Entry.{Entry}
use Rattle.ph_book.specs.declared.setup.Setup.{Setup}
use Rattle.ph_book.specs.Entries.{call_entry, finish_entry, park_entry, resume_entry, tick_entry}
use Rattle.ph_book.specs.History.{doings_of, effect_to, finish_effect, keys_after, park_effect, past_of, rows_after, said_to, time_after}
use Rattle.ph_book.specs.Laws.{all_but_run, runs_of}
use Rattle.ph_book.specs.Legal.{IsAllowed, IsLegal}
use Rattle.ph_book.specs.Replies.{Said, Replies, Waits, Silence}
use Rattle.ph_book.specs.Runs.{own_run}
use Rattle.ph_book.specs.Tickets.{Holds}
use Rattle.ph_book.proofs.HistoryLemmas.{doings_grow, legal_more, length_past}
use Rattle.ph_book.proofs.RunLemmas.{finish_does, park_does, runs_follow, tick_does}
use Rattle.ph_book.proofs.StandLemmas.{history_stands, legal_stands}
use Rattle.ph_book.proofs.StartLemmas.{StepsAs, call_steps, quiet_live, resume_steps_to, starts_live}
use Rattle.ph_book.proofs.StepLemmas.{tick_said}
use Rattle.ph_world.specs.Worlds.{with_begun}
use Rattle.ph_world.proofs.DoingLemmas.{DoesDecided, calm}

-- ---- what is said

-- a reply is said
abbrev pub IsReplied : Said → Type 0
IsReplied (Replies reply) = Unit {0}
IsReplied (Waits order) = ⊥
IsReplied Silence = ⊥

pub finish_replied : (setup : Setup) (history : List Entry) (caller : ℕ) (ticket : Flight) (ruling : Ruling) → Holds setup history caller ticket
    → IsReplied (said_to setup history (finish_entry caller ticket ruling))
unfolding doings_of effect_to Holds
finish_replied setup history caller ticket ruling holds =
    let own : own_run (doings_of setup history) caller ticket.run ≡ Some ticket = holds in
    subst IsReplied
    (sym (ap (λ (found : Option Flight). (finish_effect (keys_after setup (past_of setup history)) (rows_after setup (past_of setup history)) (time_after setup (past_of setup history)) (length (past_of setup history) + 1) ruling found).said) own))
    tt

pub park_replied : (setup : Setup) (history : List Entry) (caller : ℕ) (ticket : Flight) (why : Why) → Holds setup history caller ticket
    → IsReplied (said_to setup history (park_entry caller ticket why))
unfolding doings_of effect_to Holds
park_replied setup history caller ticket why holds =
    let own : own_run (doings_of setup history) caller ticket.run ≡ Some ticket = holds in
    subst IsReplied
    (sym (ap (λ (found : Option Flight). (park_effect (rows_after setup (past_of setup history)) (time_after setup (past_of setup history)) (length (past_of setup history) + 1) why found).said) own))
    tt

-- no run begins where a reply is said
pub none_begun : (caller place : ℕ) (said : Said) (flights : List Flight) → IsReplied said → with_begun caller place said flights ≡ flights
none_begun caller place (Replies reply) flights is = refl
none_begun caller place (Waits order) flights is = absurd is
none_begun caller place Silence flights is = absurd is

-- ---- live runs

-- those after a doing by which the run of an entry's place begins, or none
begins_runs : (past : List Doing) (does : Doing) (caller place : ℕ) (said : Said) → IsLawful past → place ≡ suc (length past)
    → StepsAs caller place said (step_of does) → live_runs (does ∷ past) ≡ with_begun caller place said (live_runs past)
begins_runs past does caller place (Replies reply) lawful at steps =
    unchanged past does (quiet_live past does steps) ((sound past lawful).live.known (suc (length past)) (omega arith))
begins_runs past does caller place (Waits order) lawful at steps =
    begun_last past does (record { caller = caller; run = place; order = order })
    (starts_live past does (record { caller = caller; run = place; order = order }) steps) at
begins_runs past does caller place Silence lawful at steps =
    unchanged past does (quiet_live past does steps) ((sound past lawful).live.known (suc (length past)) (omega arith))

-- the live runs after an entry are these, with the one that it begins, and a ruling that it enters is the decision
pub record Goes (setup : Setup) (history : List Entry) (decisions : List Decision) (entry : Entry) (flights : List Flight) : Type 0 where
  pub runs : runs_of setup (history ++ entry ∷ []) ≡ with_begun entry.caller (length history + 1) (said_to setup history entry) flights
  pub does : DoesDecided decisions (effect_to setup history entry).doing

module _ (setup : Setup) (history : List Entry) (few : setup.entries < 2 ^ 32) (legal : IsLegal setup history) where
  pub lawful : IsLawful (doings_of setup history)
  lawful = (history_stands setup history few legal).lawful

  places : length history + 1 ≡ suc (length (doings_of setup history))
  unfolding doings_of
  places =
      let count : length (doings_of setup history) ≡ length history = (legal_stands setup history few legal).places ∙ length_past setup history in
      omega (arith, count)

  -- what a doing of an entry that may come may be
  pub may_do : (entry : Entry) → IsAllowed setup (past_of setup history) entry → MayDo (doings_of setup history) (effect_to setup history entry).doing
  may_do entry allowed =
      let grown : IsLawful (doings_of setup (history ++ entry ∷ [])) =
      (history_stands setup (history ++ entry ∷ []) few (legal_more setup history entry legal allowed)).lawful in
      let here : IsLawful ((effect_to setup history entry).doing ∷ doings_of setup history) =
      subst IsLawful (doings_grow setup history entry) grown in
      here.0

  pub call_goes : (decisions : List Decision) (caller : ℕ) (raw : Raw) → Goes setup history decisions (call_entry caller raw) (runs_of setup history)
  call_goes decisions caller raw = record {
    runs = ap live_runs (doings_grow setup history (call_entry caller raw))
        ∙ begins_runs (doings_of setup history) (effect_to setup history (call_entry caller raw)).doing caller (length history + 1)
        (said_to setup history (call_entry caller raw)) lawful places (call_steps setup history caller raw few legal);
    does = calm decisions caller (length history + 1) (said_to setup history (call_entry caller raw))
        (effect_to setup history (call_entry caller raw)).doing (call_steps setup history caller raw few legal);
  }

  pub resume_goes : (decisions : List Decision) (caller : ℕ) → Goes setup history decisions (resume_entry caller) (runs_of setup history)
  resume_goes decisions caller = record {
    runs = ap live_runs (doings_grow setup history (resume_entry caller))
        ∙ begins_runs (doings_of setup history) (effect_to setup history (resume_entry caller)).doing caller (length history + 1)
        (said_to setup history (resume_entry caller)) lawful places (resume_steps_to setup history caller few legal);
    does = calm decisions caller (length history + 1) (said_to setup history (resume_entry caller))
        (effect_to setup history (resume_entry caller)).doing (resume_steps_to setup history caller few legal);
  }

  pub tick_goes : (decisions : List Decision) (caller moment : ℕ) → Goes setup history decisions (tick_entry caller moment) (runs_of setup history)
  tick_goes decisions caller moment =
      let does : (effect_to setup history (tick_entry caller moment)).doing ≡ Leaves = tick_does setup history caller moment in
      record {
        runs = ap live_runs (doings_grow setup history (tick_entry caller moment))
            ∙ ap (λ d. live_runs (d ∷ doings_of setup history)) does
            ∙ unchanged (doings_of setup history) Leaves (λ run. refl) ((sound (doings_of setup history) lawful).live.known (suc (length (doings_of setup history))) (omega arith))
            ∙ sym (ap (λ said. with_begun caller (length history + 1) said (runs_of setup history)) (tick_said setup history caller moment));
        does = subst (DoesDecided decisions) (sym does) tt;
      }

  -- a ruling on a caller's live run takes it out, and is decided where its order is
  pub finish_goes : (decisions : List Decision) (caller : ℕ) (ticket : Flight) (ruling : Ruling) → Holds setup history caller ticket
      → ruling_of decisions ticket.order.reference ≡ Some ruling
      → Goes setup history decisions (finish_entry caller ticket ruling) (all_but_run ticket (runs_of setup history))
  finish_goes decisions caller ticket ruling holds decided =
      let does = finish_does setup history caller ticket ruling few legal holds in
      record {
        runs = (runs_follow setup history few legal).settled caller ticket ruling holds
            ∙ sym (none_begun caller (length history + 1) (said_to setup history (finish_entry caller ticket ruling)) (all_but_run ticket (runs_of setup history))
            (finish_replied setup history caller ticket ruling holds));
        does = subst (DoesDecided decisions) (sym does.2) decided;
      }

  pub park_goes : (decisions : List Decision) (caller : ℕ) (ticket : Flight) (why : Why) → Holds setup history caller ticket
      → Goes setup history decisions (park_entry caller ticket why) (all_but_run ticket (runs_of setup history))
  park_goes decisions caller ticket why holds =
      let does = park_does setup history caller ticket why few legal holds in
      record {
        runs = (runs_follow setup history few legal).parked caller ticket why holds
            ∙ sym (none_begun caller (length history + 1) (said_to setup history (park_entry caller ticket why)) (all_but_run ticket (runs_of setup history))
            (park_replied setup history caller ticket why holds));
        does = subst (DoesDecided decisions) (sym does.1) tt;
      }
