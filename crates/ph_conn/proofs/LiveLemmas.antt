-- The live runs of a session's caller after a request.
use Rattle.std.proofs.Common.{◌≡◌, ℕ, ◌+◌, ◌==◌, ◌∷◌, ◌++◌, Bool, true, false, cond, List, [], length, Option, Some, None, refl, sym, ap, ◌∙◌, arith}
use Rattle.std.proofs.lemmas.List.{map-append}
use Rattle.std.proofs.lemmas.Bool.Decides.{nat_tests}
use Rattle.ph_attempts.specs.declared.flights.Flight.{Flight}
use Rattle.ph_items.specs.declared.orders.Order.{Order}
use Rattle.ph_http.specs.declared.message.Raw.{Raw}
use Rattle.ph_http.specs.declared.message.Reply.{Reply}
use Rattle.ph_book.specs.declared.acts.Act.{Act}
use Rattle.ph_book.specs.declared.acts.Act.TheVariants as act
use Rattle.ph_book.specs.declared.acts.Answer.{Answer}
use Rattle.ph_book.specs.declared.acts.Answer.TheVariants as answer
use Rattle.ph_book.specs.declared.acts.Entry.{Entry}
use Rattle.ph_book.specs.declared.hosted.Kept.{Kept}
use Rattle.ph_book.specs.declared.setup.Setup.{Setup}
use Rattle.ph_book.specs.Entries.{call_entry, deed_of, entry_of}
use Rattle.ph_book.specs.OwnRuns.{after_call, after_deed, after_end, own_of}
use Rattle.ph_book.specs.Replies.{Said, Replies, Waits}
use Rattle.ph_conn.specs.Answers.{Ended, end_act}
use Rattle.ph_conn.specs.Fronts.{Filed, Known, KeepsLive, Entered, entries_in, filed, known_at, live_in, said_behind}
use Rattle.ph_conn.specs.Parts.{Ending, Settled, GivenUp}

-- the entries of a front, with the one behind it
entries-behind : (front before : List Filed) (last : Filed) → front ≡ before ++ last ∷ [] → entries_in front ≡ entries_in before ++ last.entry ∷ []
entries-behind front before last is = ap entries_in is ∙ map-append (λ (f : Filed). f.entry) before (last ∷ [])

-- the live runs after an act, by what the entry does
pub live-after : {old new : Known} {a : Act} {given : Answer} {mark : Kept} (e : Entered old new a given mark) (run : ℕ)
    → live_in new run ≡ after_deed old.caller (length (entries_in e.before) + 1) (deed_of a) (said_behind old.setup e.before (entry_of old.caller a)) run (live_in (known_at old e.before) run)
live-after {old} {new} {a} {given} {mark} e run =
    ap (λ (s : Setup). own_of s (entries_in new.front) new.caller run) e.same.setup
    ∙ ap (λ (c : ℕ). own_of old.setup (entries_in new.front) c run) e.same.caller
    ∙ ap (λ (h : List Entry). own_of old.setup h old.caller run) (entries-behind new.front e.before (filed old.caller a mark) e.front)
    ∙ e.runs.own run

-- a call that is answered leaves them
pub live-replied : (old new : Known) (raw : Raw) (reply : Reply) {mark : Kept} → (e : Entered old new (act.Call raw) (answer.Reply reply) mark)
    → said_behind old.setup e.before (call_entry old.caller raw) ≡ Replies reply → KeepsLive (known_at old e.before) new
live-replied old new raw reply e said run =
    live-after e run ∙ ap (λ (s : Said). after_call old.caller (length (entries_in e.before) + 1) s run (live_in (known_at old e.before) run)) said

-- the run of a number began where none had it, and ended
begun-and-ended : (caller place number run : ℕ) (order : Order) (had at_place : Option Flight) → number ≡ place → at_place ≡ None → (run ≡ place → had ≡ at_place)
    → after_end number run (after_call caller place (Waits order) run had) ≡ had
begun-and-ended caller place number run order had at_place same none fresh = at (run == place) refl
  where
    by_number : (run == number) ≡ (run == place)
    by_number = ap (λ n. run == n) same

    at : (b : Bool) → (run == place) ≡ b → after_end number run (after_call caller place (Waits order) run had) ≡ had
    at true is =
        let here : run ≡ place = grind (arith, nat_tests) in
        ap (λ b. cond b None (after_call caller place (Waits order) run had)) (by_number ∙ is) ∙ sym (fresh here ∙ none)
    at false is =
        ap (λ b. cond b None (after_call caller place (Waits order) run had)) (by_number ∙ is)
        ∙ ap (λ b. cond b (Some (record { caller = caller; run = place; order = order })) had) is

-- what an end does to the live runs, whichever it is
end-after : (caller place : ℕ) (ticket : Flight) (ending : Ending) (said : Said) (run : ℕ) (had : Option Flight)
    → after_deed caller place (deed_of (end_act ticket ending)) said run had ≡ after_end ticket.run run had
end-after caller place ticket (Settled ruling) said run had = refl
end-after caller place ticket (GivenUp reason) said run had = refl

-- a call that waits, and then the end of its run, leave the live runs as they were
pub live-ended : {old new : Known} {front : List Filed} {mine : List (ℕ × Filed)} {raw : Raw} {mark end : Kept} {reply : Reply} (ticket : Flight) (ending : Ending)
    → (e : Entered old (record { setup = old.setup; caller = old.caller; front = front; mine = mine }) (act.Call raw) (answer.Wait ticket) mark)
    → Ended (record { setup = old.setup; caller = old.caller; front = front; mine = mine }) new ticket ending reply end
    → said_behind old.setup e.before (call_entry old.caller raw) ≡ Waits ticket.order → ticket.run ≡ length (entries_in e.before) + 1 → KeepsLive old new
live-ended {old} {new} {front} {mine} {raw} {mark} {end} {reply} ticket ending e f said number run =
    let place : ℕ = length (entries_in e.before) + 1 in
    let had : Option Flight = live_in (known_at old e.before) run in
    let middle : Known = record { setup = old.setup; caller = old.caller; front = front; mine = mine } in
    let begun : live_in middle run ≡ after_call old.caller place (Waits ticket.order) run had =
    live-after e run ∙ ap (λ (s : Said). after_call old.caller place s run had) said in
    live-after f run
    ∙ end-after old.caller (length (entries_in f.before) + 1) ticket ending (said_behind old.setup f.before (entry_of old.caller (end_act ticket ending))) run (live_in (known_at middle f.before) run)
    ∙ ap (after_end ticket.run run) (f.live run ∙ begun)
    ∙ begun-and-ended old.caller place ticket.run run ticket.order had (live_in (known_at old e.before) place) number e.fresh (λ here. ap (live_in (known_at old e.before)) here)
    ∙ e.live run
