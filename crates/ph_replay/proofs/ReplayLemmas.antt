-- What a replay keeps from entry to entry.
use Rattle.std.proofs.Common.{◌≡◌, ◌≢◌, ℕ, suc, ◌+◌, ◌^◌, ◌<◌, ◌==◌, nat_le, Bool, true, false, cond, List, [], ◌∷◌, ◌++◌, length, get_or, take, drop, Some, None, refl, sym, ap, ◌∙◌, subst, append_assoc, arith}
use Rattle.std.specs.List.{find, list_all}
use Rattle.std.proofs.lemmas.Bool.{and_parts, leb-true}
use Rattle.std.proofs.lemmas.Bool.Decides.{nat_tests}
use Rattle.std.proofs.lemmas.List.{append-nil}
use Rattle.ph_base.specs.declared.acquirer.Ruling.{Ruling}
use Rattle.ph_base.specs.declared.acquirer.Why.{Why}
use Rattle.ph_items.specs.declared.orders.Order.{Order}
use Rattle.ph_attempts.specs.Attempts.{is_same_run, live_in}
use Rattle.ph_attempts.specs.declared.flights.Flight.{Flight}
use Rattle.ph_doings.specs.Doings.{Doing, Leaves}
use Rattle.ph_doings.specs.Kept.{attempts_after, is_run}
use Rattle.ph_doings.specs.Runs.{Run, NoRun, Flies, live_run, live_runs}
use Rattle.ph_doings.proofs.FoundRuns.{runs_are_found}
use Rattle.ph_doings.proofs.Kept.{sound}
use Rattle.ph_doings.proofs.KeptLists.{attempts_are_unsettled, unchanged}
use Rattle.ph_http.specs.declared.message.Raw.{Raw}
use Rattle.ph_http.specs.declared.message.Reply.{Reply}
use Rattle.ph_book.specs.declared.setup.Setup.{Setup}
use Rattle.ph_book.specs.declared.acts.Answer.TheVariants as answer
use Rattle.ph_book.specs.declared.acts.Deed.TheVariants as deed
use Rattle.ph_book.specs.declared.acts.Entry.{Entry}
use Rattle.ph_book.specs.Answers.{Says}
use Rattle.ph_book.specs.Entries.{call_entry, finish_entry, park_entry, resume_entry, tick_entry}
use Rattle.ph_book.specs.History.{Happening, happening_of, past_of, doings_of, effect_to, said_to}
use Rattle.ph_book.specs.Laws.{RunsFollow, all_but_run, runs_of}
use Rattle.ph_book.specs.Legal.{IsLegal}
use Rattle.ph_book.specs.OwnRuns.{own_of}
use Rattle.ph_book.specs.Replies.{Said, Replies, Waits, Silence}
use Rattle.ph_book.specs.Runs.{if_own}
use Rattle.ph_book.specs.State.{BookState, entered}
use Rattle.ph_book.specs.Tickets.{Holds}
use Rattle.ph_book.proofs.HistoryLemmas.{doings_grow, past_more, length_past}
use Rattle.ph_book.proofs.RunLemmas.{run_held, tick_does}
use Rattle.ph_book.proofs.StandLemmas.{history_stands}
use Rattle.ph_replay.specs.declared.told.Told.{Told}
use Rattle.ph_replay.specs.State.{IsReplay}
use Rattle.ph_replay.specs.Tickets.{AreApart, AreFound, AreKept, AreOfCallers, IsApart, without_first}
use Rattle.ph_replay.specs.Told.{told_at, told_from, told_of}

-- ---- what is told

told_from_more : (place : ℕ) (past : List Happening) (h : Happening)
    → told_from place (past ++ h ∷ []) ≡ told_from place past ++ told_at (place + length past) h.said
told_from_more place [] h =
    let here : place ≡ place + 0 = omega arith in
    append-nil (told_at place h.said) ∙ ap (λ n. told_at n h.said) here
told_from_more place (x ∷ past) h =
    let there : (place + 1) + length past ≡ place + suc (length past) = omega arith in
    ap (λ more. told_at place x.said ++ more) (told_from_more (place + 1) past h ∙ ap (λ n. told_from (place + 1) past ++ told_at n h.said) there)
    ∙ sym (append_assoc (told_at place x.said) (told_from (place + 1) past) (told_at (place + suc (length past)) h.said))

-- one entry more tells what is said to it
pub told_more : (setup : Setup) (history : List Entry) (entry : Entry)
    → told_of setup (history ++ entry ∷ []) ≡ told_of setup history ++ told_at (length history + 1) (said_to setup history entry)
unfolding told_of effect_to
told_more setup history entry =
    let h : Happening = happening_of setup (past_of setup history) entry in
    let places = length_past setup history in
    let here : 1 + length (past_of setup history) ≡ length history + 1 = omega (arith, places) in
    ap (told_from 1) (past_more setup history entry)
    ∙ told_from_more 1 (past_of setup history) h
    ∙ ap (λ n. told_from 1 (past_of setup history) ++ told_at n h.said) here

-- where a reply is said, that is told
told_reply : (setup : Setup) (history : List Entry) (entry : Entry) (replies : List Told) (reply : Reply) (told : Told)
    → replies ≡ told_of setup history → said_to setup history entry ≡ Replies reply → told ∷ [] ≡ told_at (length history + 1) (Replies reply)
    → replies ++ told ∷ [] ≡ told_of setup (history ++ entry ∷ [])
told_reply setup history entry replies reply told before said is =
    ap (λ rs. rs ++ told ∷ []) before
    ∙ ap (λ ts. told_of setup history ++ ts) (is ∙ ap (told_at (length history + 1)) (sym said))
    ∙ sym (told_more setup history entry)

-- where nothing is told of what is said, nothing more is
told_nothing : (setup : Setup) (history : List Entry) (entry : Entry) (replies : List Told) (said : Said)
    → replies ≡ told_of setup history → said_to setup history entry ≡ said → told_at (length history + 1) said ≡ []
    → replies ≡ told_of setup (history ++ entry ∷ [])
told_nothing setup history entry replies said before is none =
    before ∙ sym (append-nil (told_of setup history))
    ∙ ap (λ ts. told_of setup history ++ ts) (sym none ∙ ap (told_at (length history + 1)) (sym is))
    ∙ sym (told_more setup history entry)

-- ---- what an answer says

pub says_reply : (place caller : ℕ) (said : Said) (reply : Reply) → Says place caller said (answer.Reply reply) → said ≡ Replies reply
says_reply place caller (Replies other) reply says = ap Replies (sym says)
says_reply place caller (Waits order) reply says = absurd says
says_reply place caller Silence reply says = absurd says

-- what waits is an order, and the ticket is that of its run
pub record IsWait (place caller : ℕ) (said : Said) (ticket : Flight) : Type 0 where
  pub order : Order
  pub said_is : said ≡ Waits order
  pub ticket_is : ticket ≡ record { caller = caller; run = place; order = order }

pub says_wait : (place caller : ℕ) (said : Said) (ticket : Flight) → Says place caller said (answer.Wait ticket) → IsWait place caller said ticket
says_wait place caller (Replies reply) ticket says = absurd says
says_wait place caller (Waits order) ticket says = record { order = order; said_is = refl; ticket_is = says }
says_wait place caller Silence ticket says = absurd says

pub says_done : (place caller : ℕ) (said : Said) → Says place caller said answer.Done → said ≡ Silence
says_done place caller (Replies reply) says = absurd says
says_done place caller (Waits order) says = absurd says
says_done place caller Silence says = refl

-- ---- tickets

apart_push : (ticket last : Flight) (tickets : List Flight) → ticket.run ≢ last.run → IsApart ticket tickets → IsApart ticket (tickets ++ last ∷ [])
apart_push ticket last [] other apart = (other, tt)
apart_push ticket last (first ∷ tickets) other apart = (apart.0, apart_push ticket last tickets other apart.1)

-- a later run stands apart behind those before it
apart_behind : (tickets : List Flight) (last : Flight) (n : ℕ) → list_all (λ flight. nat_le flight.run n) tickets ≡ true → last.run ≡ n + 1
    → AreApart tickets → AreApart (tickets ++ last ∷ [])
apart_behind [] last n below is apart = (tt, tt)
apart_behind (ticket ∷ tickets) last n below is apart =
    let parts = and_parts (nat_le ticket.run n) (list_all (λ flight. nat_le flight.run n) tickets) below in
    let low = leb-true ticket.run n parts.0 in
    let other : ticket.run ≢ last.run = λ same. absurd (omega (arith, same, low, is)) in
    (apart_push ticket last tickets other apart.0, apart_behind tickets last n parts.1 is apart.1)

callers_behind : (tickets : List Flight) (last : Flight) → AreOfCallers tickets → last.caller < 2 ^ 62 → AreOfCallers (tickets ++ last ∷ [])
callers_behind [] last before small = (small, tt)
callers_behind (ticket ∷ tickets) last before small = (before.0, callers_behind tickets last before.1 small)

-- what is found is apart from what is apart from all
apart_found : (first : Flight) (passes : Flight → Bool) (tickets : List Flight) (ticket : Flight) → IsApart first tickets → find passes tickets ≡ Some ticket
    → first.run ≢ ticket.run
apart_found first passes [] ticket apart found = absurd (cc)
apart_found first passes (other ∷ tickets) ticket apart found = at (passes other) refl found (apart_found first passes tickets ticket apart.1)
  where
    at : (t : Bool) → passes other ≡ t → find passes (other ∷ tickets) ≡ Some ticket → (find passes tickets ≡ Some ticket → first.run ≢ ticket.run) → first.run ≢ ticket.run
    at true e found more = let same : Some other ≡ Some ticket = rw e at found in let one : other ≡ ticket = cc in subst (λ (f : Flight). first.run ≢ f.run) one apart.0
    at false e found more = more (rw e at found)

apart_left : (first : Flight) (passes : Flight → Bool) (tickets : List Flight) → IsApart first tickets → IsApart first (without_first passes tickets)
apart_left first passes [] apart = tt
apart_left first passes (other ∷ tickets) apart = at (passes other) (apart_left first passes tickets apart.1)
  where
    at : (t : Bool) → IsApart first (without_first passes tickets) → IsApart first (cond t tickets (other ∷ without_first passes tickets))
    at true more = apart.1
    at false more = (apart.0, more)

are_apart_left : (passes : Flight → Bool) (tickets : List Flight) → AreApart tickets → AreApart (without_first passes tickets)
are_apart_left passes [] apart = tt
are_apart_left passes (ticket ∷ tickets) apart = at (passes ticket) (are_apart_left passes tickets apart.1)
  where
    at : (t : Bool) → AreApart (without_first passes tickets) → AreApart (cond t tickets (ticket ∷ without_first passes tickets))
    at true more = apart.1
    at false more = (apart_left ticket passes tickets apart.0, more)

callers_left : (passes : Flight → Bool) (tickets : List Flight) → AreOfCallers tickets → AreOfCallers (without_first passes tickets)
callers_left passes [] small = tt
callers_left passes (ticket ∷ tickets) small = at (passes ticket) (callers_left passes tickets small.1)
  where
    at : (t : Bool) → AreOfCallers (without_first passes tickets) → AreOfCallers (cond t tickets (ticket ∷ without_first passes tickets))
    at true more = small.1
    at false more = (small.0, more)

caller_found : (passes : Flight → Bool) (tickets : List Flight) (ticket : Flight) → AreOfCallers tickets → find passes tickets ≡ Some ticket → ticket.caller < 2 ^ 62
caller_found passes [] ticket small found = absurd (cc)
caller_found passes (other ∷ tickets) ticket small found = at (passes other) refl found (caller_found passes tickets ticket small.1)
  where
    at : (t : Bool) → passes other ≡ t → find passes (other ∷ tickets) ≡ Some ticket → (find passes tickets ≡ Some ticket → ticket.caller < 2 ^ 62) → ticket.caller < 2 ^ 62
    at true e found more = let same : Some other ≡ Some ticket = rw e at found in let one : other ≡ ticket = cc in subst (λ (f : Flight). f.caller < 2 ^ 62) one small.0
    at false e found more = more (rw e at found)

-- tickets that are apart from a run are all but it
all_but_apart : (ticket : Flight) (tickets : List Flight) → IsApart ticket tickets → all_but_run ticket tickets ≡ tickets
all_but_apart ticket [] apart = refl
all_but_apart ticket (other ∷ tickets) apart =
    let differs : is_same_run ticket other ≡ false = grind (arith, nat_tests, apart.0) in
    rw (differs, all_but_apart ticket tickets apart.1) refl

-- all but the run that is found are all but the first that passes
pub all_but_found : (caller run : ℕ) (tickets : List Flight) (ticket : Flight) → AreApart tickets → find (is_run caller run) tickets ≡ Some ticket
    → all_but_run ticket tickets ≡ without_first (is_run caller run) tickets
all_but_found caller run [] ticket apart found = refl
all_but_found caller run (other ∷ tickets) ticket apart found = at (is_run caller run other) refl found (all_but_found caller run tickets ticket apart.1)
  where
    at : (t : Bool) → is_run caller run other ≡ t → find (is_run caller run) (other ∷ tickets) ≡ Some ticket
        → (find (is_run caller run) tickets ≡ Some ticket → all_but_run ticket tickets ≡ without_first (is_run caller run) tickets)
        → all_but_run ticket (other ∷ tickets) ≡ without_first (is_run caller run) (other ∷ tickets)
    at true e found more =
        let same : Some other ≡ Some ticket = rw e at found in
        let one : other ≡ ticket = cc in
        let itself : is_same_run other other ≡ true = grind (arith, nat_tests) in
        subst (λ (f : Flight). all_but_run f (other ∷ tickets) ≡ without_first (is_run caller run) (other ∷ tickets)) one
        (rw (e, itself) (all_but_apart other tickets apart.0))
    at false e found more =
        let there : find (is_run caller run) tickets ≡ Some ticket = rw e at found in
        let runs = apart_found other (is_run caller run) tickets ticket apart.0 there in
        let differs : is_same_run ticket other ≡ false = grind (arith, nat_tests, runs) in
        rw (e, differs) (ap (λ ts. other ∷ ts) (more there))

-- ---- live runs are found

own_none : (past : List Doing) (caller run : ℕ) (here : Run) → ((flight : Flight) → here ≡ Flies flight → flight.caller ≡ caller → ⊥) → if_own caller here ≡ None
own_none past caller run NoRun others = refl
own_none past caller run (Flies flight) others = at (flight.caller == caller) refl
  where
    at : (t : Bool) → (flight.caller == caller) ≡ t → cond t (Some flight) None ≡ None
    at true e = absurd (others flight refl (grind (arith, nat_tests)))
    at false e = refl

-- a moment of the clock leaves the live runs as they are
tick_runs : (setup : Setup) (history : List Entry) (caller moment : ℕ) → setup.entries < 2 ^ 32 → IsLegal setup history
    → runs_of setup (history ++ tick_entry caller moment ∷ []) ≡ runs_of setup history
tick_runs setup history caller moment few legal =
    let past = doings_of setup history in
    let live = (sound past (history_stands setup history few legal).lawful).live in
    ap live_runs (doings_grow setup history (tick_entry caller moment) ∙ ap (λ d. d ∷ past) (tick_does setup history caller moment))
    ∙ unchanged past Leaves (λ run. refl) (live.known (suc (length past)) (omega arith))

pub are_found : (setup : Setup) (history : List Entry) → setup.entries < 2 ^ 32 → IsLegal setup history → AreFound setup history
are_found setup history few legal =
    let past = doings_of setup history in
    let lawful = (history_stands setup history few legal).lawful in
    let kept = attempts_are_unsettled past lawful in
    let finds = runs_are_found past lawful in
    record {
      found = λ caller run ticket is.
          let it = finds.found caller run ticket (ap (find (is_run caller run)) kept.live ∙ is) in
          (it.1, it.2, run_held setup history caller ticket (ap (live_run past) it.1 ∙ it.0) it.2);
      others = λ caller run none.
          own_none past caller run (live_run past run)
          (λ flight is own.
          let there = finds.finds run flight is in
          let never : None ≡ Some flight = sym none ∙ ap (find (is_run caller run)) (sym kept.live) ∙ ap (λ n. find (is_run n run) (live_in (attempts_after past))) (sym own) ∙ there in
          absurd (cc));
      ticked = λ caller moment. tick_runs setup history caller moment few legal;
    }

-- what holds of a setup and a history that are read from a book holds of the book's
pub runs_read : (setup read : Setup) (history entries : List Entry) → read ≡ setup → entries ≡ history → RunsFollow read entries → RunsFollow setup history
runs_read setup read history entries same same_history runs =
    subst (λ (p : Setup × List Entry). RunsFollow p.0 p.1) (λ i. (same i, same_history i)) runs

-- what is kept of lists is kept of those that they are
pub kept_in : (setup : Setup) (history : List Entry) (replies replies_before : List Told) (tickets tickets_before : List Flight) → replies ≡ replies_before → tickets ≡ tickets_before
    → IsReplay setup history replies_before tickets_before → IsReplay setup history replies tickets
kept_in setup history replies replies_before tickets tickets_before same same_tickets state =
    subst (λ (p : List Told × List Flight). IsReplay setup history p.0 p.1) (λ i. (sym same i, sym same_tickets i)) state

-- ---- a book without entries

pub opened : (book : BookState) (setup : Setup) → book ≡ record { setup = setup; history = [] } → IsReplay book.setup book.history [] []
unfolding told_of doings_of
opened book setup is = subst (λ (b : BookState). IsReplay b.setup b.history [] []) (sym is)
    (record { told = refl; kept = record { held = refl; apart = tt; callers = tt } })

-- ---- a call

pub call_replied : (old new : BookState) (caller : ℕ) (raw : Raw) (replies : List Told) (tickets : List Flight) (reply : Reply) (told : Told)
    → RunsFollow old.setup old.history → IsReplay old.setup old.history replies tickets → new ≡ entered old (call_entry caller raw)
    → Says (length old.history + 1) caller (said_to old.setup old.history (call_entry caller raw)) (answer.Reply reply)
    → told ∷ [] ≡ told_at (length old.history + 1) (Replies reply) → IsReplay new.setup new.history (replies ++ told ∷ []) tickets
call_replied old new caller raw replies tickets reply told runs state is says tells =
    let said = says_reply (length old.history + 1) caller (said_to old.setup old.history (call_entry caller raw)) reply says in
    subst (λ (book : BookState). IsReplay book.setup book.history (replies ++ told ∷ []) tickets) (sym is) (record {
      told = told_reply old.setup old.history (call_entry caller raw) replies reply told state.told said tells;
      kept = record {
        held = state.kept.held ∙ sym (runs.answered caller raw reply said);
        apart = state.kept.apart;
        callers = state.kept.callers;
      };
    })

-- ---- a run that begins, and nothing said

-- the ticket of a run that begins stands behind the others
run_begun : (old new : BookState) (caller : ℕ) (entry : Entry) (replies : List Told) (tickets : List Flight) (ticket : Flight)
    → RunsFollow old.setup old.history → IsReplay old.setup old.history replies tickets → new ≡ entered old entry → caller < 2 ^ 62
    → IsWait (length old.history + 1) caller (said_to old.setup old.history entry) ticket
    → ((order : Order) → said_to old.setup old.history entry ≡ Waits order
    → runs_of old.setup (old.history ++ entry ∷ []) ≡ runs_of old.setup old.history ++ record { caller = caller; run = length old.history + 1; order = order } ∷ [])
    → IsReplay new.setup new.history replies (tickets ++ ticket ∷ [])
run_begun old new caller entry replies tickets ticket runs state is small wait begun =
    let flight : Flight = record { caller = caller; run = length old.history + 1; order = wait.order } in
    let run : ticket.run ≡ length old.history + 1 = ap (λ (f : Flight). f.run) wait.ticket_is in
    let own : ticket.caller ≡ caller = ap (λ (f : Flight). f.caller) wait.ticket_is in
    subst (λ (book : BookState). IsReplay book.setup book.history replies (tickets ++ ticket ∷ [])) (sym is) (record {
      told = told_nothing old.setup old.history entry replies (Waits wait.order) state.told wait.said_is refl;
      kept = record {
        held = ap (λ ts. ts ++ ticket ∷ []) state.kept.held ∙ ap (λ (f : Flight). runs_of old.setup old.history ++ f ∷ []) wait.ticket_is
            ∙ sym (begun wait.order wait.said_is);
        apart = apart_behind tickets ticket (length old.history) (subst (λ ts. list_all (λ flight. nat_le flight.run (length old.history)) ts ≡ true) (sym state.kept.held) runs.numbered) run state.kept.apart;
        callers = callers_behind tickets ticket state.kept.callers (subst (λ n. n < 2 ^ 62) (sym own) small);
      };
    })

pub call_waits : (old new : BookState) (caller : ℕ) (raw : Raw) (replies : List Told) (tickets : List Flight) (ticket : Flight)
    → RunsFollow old.setup old.history → IsReplay old.setup old.history replies tickets → new ≡ entered old (call_entry caller raw) → caller < 2 ^ 62
    → Says (length old.history + 1) caller (said_to old.setup old.history (call_entry caller raw)) (answer.Wait ticket)
    → IsReplay new.setup new.history replies (tickets ++ ticket ∷ [])
call_waits old new caller raw replies tickets ticket runs state is small says =
    run_begun old new caller (call_entry caller raw) replies tickets ticket runs state is small
    (says_wait (length old.history + 1) caller (said_to old.setup old.history (call_entry caller raw)) ticket says) (runs.begun caller raw)

pub resume_waits : (old new : BookState) (caller : ℕ) (replies : List Told) (tickets : List Flight) (ticket : Flight)
    → RunsFollow old.setup old.history → IsReplay old.setup old.history replies tickets → new ≡ entered old (resume_entry caller) → caller < 2 ^ 62
    → Says (length old.history + 1) caller (said_to old.setup old.history (resume_entry caller)) (answer.Wait ticket)
    → IsReplay new.setup new.history replies (tickets ++ ticket ∷ [])
resume_waits old new caller replies tickets ticket runs state is small says =
    run_begun old new caller (resume_entry caller) replies tickets ticket runs state is small
    (says_wait (length old.history + 1) caller (said_to old.setup old.history (resume_entry caller)) ticket says) (runs.taken caller)

-- where nothing is said and the live runs stay, so does all that is kept
silent : (old new : BookState) (entry : Entry) (replies : List Told) (tickets : List Flight)
    → IsReplay old.setup old.history replies tickets → new ≡ entered old entry → said_to old.setup old.history entry ≡ Silence
    → runs_of old.setup (old.history ++ entry ∷ []) ≡ runs_of old.setup old.history → IsReplay new.setup new.history replies tickets
silent old new entry replies tickets state is said runs =
    subst (λ (book : BookState). IsReplay book.setup book.history replies tickets) (sym is) (record {
      told = told_nothing old.setup old.history entry replies Silence state.told said refl;
      kept = record { held = state.kept.held ∙ sym runs; apart = state.kept.apart; callers = state.kept.callers };
    })

pub resume_passes : (old new : BookState) (caller : ℕ) (replies : List Told) (tickets : List Flight)
    → RunsFollow old.setup old.history → IsReplay old.setup old.history replies tickets → new ≡ entered old (resume_entry caller)
    → Says (length old.history + 1) caller (said_to old.setup old.history (resume_entry caller)) answer.Done
    → IsReplay new.setup new.history replies tickets
resume_passes old new caller replies tickets runs state is says =
    let said = says_done (length old.history + 1) caller (said_to old.setup old.history (resume_entry caller)) says in
    silent old new (resume_entry caller) replies tickets state is said (runs.passed caller said)

pub ticked : (old new : BookState) (caller moment : ℕ) (replies : List Told) (tickets : List Flight)
    → AreFound old.setup old.history → IsReplay old.setup old.history replies tickets → new ≡ entered old (tick_entry caller moment)
    → Says (length old.history + 1) caller (said_to old.setup old.history (tick_entry caller moment)) answer.Done
    → IsReplay new.setup new.history replies tickets
ticked old new caller moment replies tickets finds state is says =
    silent old new (tick_entry caller moment) replies tickets state is
    (says_done (length old.history + 1) caller (said_to old.setup old.history (tick_entry caller moment)) says) (finds.ticked caller moment)

-- ---- the end of a run

-- an end takes its ticket out
kept_ended : (setup : Setup) (history : List Entry) (caller run : ℕ) (entry : Entry) (tickets : List Flight) (ticket : Flight) → AreKept setup history tickets
    → find (is_run caller run) tickets ≡ Some ticket → runs_of setup (history ++ entry ∷ []) ≡ all_but_run ticket (runs_of setup history)
    → AreKept setup (history ++ entry ∷ []) (without_first (is_run caller run) tickets)
kept_ended setup history caller run entry tickets ticket kept found runs = record {
  held = sym (all_but_found caller run tickets ticket kept.apart found) ∙ ap (all_but_run ticket) kept.held ∙ sym runs;
  apart = are_apart_left (is_run caller run) tickets kept.apart;
  callers = callers_left (is_run caller run) tickets kept.callers;
}

-- a ticket that is taken out: it is that of the caller's live run with the number, and the others are left
pub record IsTaken (setup : Setup) (history : List Entry) (tickets left : List Flight) (caller run : ℕ) (ticket : Flight) : Type 0 where
  pub found : find (is_run caller run) tickets ≡ Some ticket
  pub rest : left ≡ without_first (is_run caller run) tickets
  pub number : ticket.run ≡ run
  pub own : ticket.caller ≡ caller
  pub holds : Holds setup history ticket.caller ticket
  pub small : ticket.caller < 2 ^ 62

pub is_taken : (setup : Setup) (history : List Entry) (tickets left : List Flight) (caller run : ℕ) (ticket : Flight) → AreFound setup history → AreKept setup history tickets
    → find (is_run caller run) tickets ≡ Some ticket → left ≡ without_first (is_run caller run) tickets → IsTaken setup history tickets left caller run ticket
is_taken setup history tickets left caller run ticket finds kept found rest =
    let it = finds.found caller run ticket (ap (find (is_run caller run)) (sym kept.held) ∙ found) in
    record {
      found = found;
      rest = rest;
      number = it.0;
      own = it.1;
      holds = subst (λ n. Holds setup history n ticket) (sym it.1) it.2;
      small = caller_found (is_run caller run) tickets ticket kept.callers found;
    }

-- where none is found, the caller has no live run of the number
pub none_taken : (setup : Setup) (history : List Entry) (tickets : List Flight) (caller run : ℕ) → AreFound setup history → AreKept setup history tickets
    → find (is_run caller run) tickets ≡ None → own_of setup history caller run ≡ None
none_taken setup history tickets caller run finds kept none = finds.others caller run (ap (find (is_run caller run)) (sym kept.held) ∙ none)

-- and nothing is left out
pub none_left : (caller run : ℕ) (tickets : List Flight) → find (is_run caller run) tickets ≡ None → without_first (is_run caller run) tickets ≡ tickets
none_left caller run [] none = refl
none_left caller run (ticket ∷ tickets) none = at (is_run caller run ticket) refl none (none_left caller run tickets)
  where
    at : (t : Bool) → is_run caller run ticket ≡ t → find (is_run caller run) (ticket ∷ tickets) ≡ None
        → (find (is_run caller run) tickets ≡ None → without_first (is_run caller run) tickets ≡ tickets) → without_first (is_run caller run) (ticket ∷ tickets) ≡ ticket ∷ tickets
    at true e none more = let never : Some ticket ≡ None = rw e at none in absurd (cc)
    at false e none more = rw e (ap (λ ts. ticket ∷ ts) (more (rw e at none)))

ended : (old new : BookState) (caller run : ℕ) (entry : Entry) (replies : List Told) (tickets left : List Flight) (ticket : Flight) (reply : Reply) (told : Told)
    → IsReplay old.setup old.history replies tickets → IsTaken old.setup old.history tickets left caller run ticket → new ≡ entered old entry
    → said_to old.setup old.history entry ≡ Replies reply → told ∷ [] ≡ told_at (length old.history + 1) (Replies reply)
    → runs_of old.setup (old.history ++ entry ∷ []) ≡ all_but_run ticket (runs_of old.setup old.history)
    → IsReplay new.setup new.history (replies ++ told ∷ []) left
ended old new caller run entry replies tickets left ticket reply told state taken is said tells runs =
    subst (λ (book : BookState). IsReplay book.setup book.history (replies ++ told ∷ []) left) (sym is)
    (subst (λ ts. IsReplay old.setup (old.history ++ entry ∷ []) (replies ++ told ∷ []) ts) (sym taken.rest) (record {
      told = told_reply old.setup old.history entry replies reply told state.told said tells;
      kept = kept_ended old.setup old.history caller run entry tickets ticket state.kept taken.found runs;
    }))

pub run_finished : (old new : BookState) (caller run : ℕ) (ruling : Ruling) (replies : List Told) (tickets left : List Flight) (ticket : Flight) (reply : Reply) (told : Told)
    → RunsFollow old.setup old.history → IsReplay old.setup old.history replies tickets → IsTaken old.setup old.history tickets left caller run ticket
    → new ≡ entered old (finish_entry ticket.caller ticket ruling) → said_to old.setup old.history (finish_entry ticket.caller ticket ruling) ≡ Replies reply
    → told ∷ [] ≡ told_at (length old.history + 1) (Replies reply) → IsReplay new.setup new.history (replies ++ told ∷ []) left
run_finished old new caller run ruling replies tickets left ticket reply told runs state taken is said tells =
    ended old new caller run (finish_entry ticket.caller ticket ruling) replies tickets left ticket reply told state taken is said tells (runs.settled ticket.caller ticket ruling taken.holds)

pub run_parked : (old new : BookState) (caller run : ℕ) (why : Why) (replies : List Told) (tickets left : List Flight) (ticket : Flight) (reply : Reply) (told : Told)
    → RunsFollow old.setup old.history → IsReplay old.setup old.history replies tickets → IsTaken old.setup old.history tickets left caller run ticket
    → new ≡ entered old (park_entry ticket.caller ticket why) → said_to old.setup old.history (park_entry ticket.caller ticket why) ≡ Replies reply
    → told ∷ [] ≡ told_at (length old.history + 1) (Replies reply) → IsReplay new.setup new.history (replies ++ told ∷ []) left
run_parked old new caller run why replies tickets left ticket reply told runs state taken is said tells =
    ended old new caller run (park_entry ticket.caller ticket why) replies tickets left ticket reply told state taken is said tells (runs.parked ticket.caller ticket why taken.holds)

-- the entry of a ticket is that of its caller and number
pub finish_entered : (old new : BookState) (caller run : ℕ) (ruling : Ruling) (ticket : Flight) → ticket.caller ≡ caller → ticket.run ≡ run
    → new ≡ entered old (finish_entry ticket.caller ticket ruling) → new ≡ entered old (record { caller = caller; deed = deed.Finish run ruling })
finish_entered old new caller run ruling ticket own number is =
    is ∙ ap (entered old) (λ i. record { caller = own i; deed = deed.Finish (number i) ruling })

pub park_entered : (old new : BookState) (caller run : ℕ) (why : Why) (ticket : Flight) → ticket.caller ≡ caller → ticket.run ≡ run
    → new ≡ entered old (park_entry ticket.caller ticket why) → new ≡ entered old (record { caller = caller; deed = deed.Park run why })
park_entered old new caller run why ticket own number is =
    is ∙ ap (entered old) (λ i. record { caller = own i; deed = deed.Park (number i) why })

-- ---- the first of the tickets

-- the first ticket is found, and the others are left
itself_passes : (ticket : Flight) → is_run ticket.caller ticket.run ticket ≡ true
itself_passes ticket = grind (arith, nat_tests)

first_taken : (setup : Setup) (history : List Entry) (ticket : Flight) (tickets : List Flight) → AreFound setup history → AreKept setup history (ticket ∷ tickets)
    → IsTaken setup history (ticket ∷ tickets) tickets ticket.caller ticket.run ticket
first_taken setup history ticket tickets finds kept =
    is_taken setup history (ticket ∷ tickets) tickets ticket.caller ticket.run ticket finds kept (rw (itself_passes ticket) refl) (rw (itself_passes ticket) refl)

-- what is taken from the front is the first, and the others are left
parts_of : (tickets left : List Flight) (ticket : Flight) → 0 < length tickets → ticket ≡ get_or tickets 0 ticket → left ≡ take 0 tickets ++ drop 1 tickets → tickets ≡ ticket ∷ left
parts_of [] left ticket within value rest = absurd (omega (arith, within))
parts_of (first ∷ tickets) left ticket within value rest = ap (λ f. f ∷ tickets) (sym value) ∙ ap (λ ts. ticket ∷ ts) (sym rest)

-- so the first of the kept tickets may be spent
pub first_of : (setup : Setup) (history : List Entry) (tickets left : List Flight) (ticket : Flight) → AreFound setup history → AreKept setup history tickets
    → 0 < length tickets → ticket ≡ get_or tickets 0 ticket → left ≡ take 0 tickets ++ drop 1 tickets → IsTaken setup history tickets left ticket.caller ticket.run ticket
first_of setup history tickets left ticket finds kept within value rest =
    let parts = parts_of tickets left ticket within value rest in
    subst (λ ts. IsTaken setup history ts left ticket.caller ticket.run ticket) (sym parts)
    (first_taken setup history ticket left finds (subst (AreKept setup history) parts kept))

-- the run of a ticket that was taken out is given up
pub left_kept : (old new : BookState) (why : Why) (caller run : ℕ) (tickets left : List Flight) (ticket : Flight) → RunsFollow old.setup old.history
    → AreKept old.setup old.history tickets → IsTaken old.setup old.history tickets left caller run ticket → new ≡ entered old (park_entry ticket.caller ticket why)
    → AreKept new.setup new.history left
left_kept old new why caller run tickets left ticket runs kept taken is =
    subst (λ (book : BookState). AreKept book.setup book.history left) (sym is)
    (subst (AreKept old.setup (old.history ++ park_entry ticket.caller ticket why ∷ [])) (sym taken.rest)
    (kept_ended old.setup old.history caller run (park_entry ticket.caller ticket why) tickets ticket kept taken.found (runs.parked ticket.caller ticket why taken.holds)))
