-- Tickets in hand: a ticket stays good until its own run ends.
use Rattle.std.proofs.Common.{◌≡◌, ◌≢◌, ℕ, zero, suc, ◌+◌, ◌≤◌, ◌<◌, ◌∷◌, ◌++◌, List, [], length, take, drop, get_or, Option, Some, None, refl, sym, ap, ◌∙◌, subst, arith}
use Rattle.ph_base.specs.declared.acquirer.Ruling.{Ruling}
use Rattle.ph_base.specs.declared.acquirer.Why.{Why}
use Rattle.ph_attempts.specs.declared.flights.Flight.{Flight}
use Rattle.ph_book.specs.declared.setup.Setup.{Setup}
use Rattle.ph_book.specs.declared.acts.Answer.TheVariants as answer
use Rattle.ph_book.specs.declared.acts.Entry.{Entry}
use Rattle.ph_book.specs.Answers.{Says}
use Rattle.ph_book.specs.Entries.{finish_entry, park_entry}
use Rattle.ph_book.specs.Laws.{RunsFollow, ended_in}
use Rattle.ph_book.specs.Replies.{Said, Replies, Waits, Silence}
use Rattle.ph_book.specs.State.{BookState, entered}
use Rattle.ph_book.specs.Tickets.{Holds}
use Rattle.cases.specs.Desks.{AreHeld, DeskState, IsApart}

-- what holds of a setup and a history that are read from a book holds of the book's
pub runs_read : (setup read : Setup) (history entries : List Entry) → read ≡ setup → entries ≡ history → RunsFollow read entries → RunsFollow setup history
runs_read setup read history entries same same_history runs =
    subst (λ (p : Setup × List Entry). RunsFollow p.0 p.1) (λ i. (same i, same_history i)) runs

-- ---- entries that end no run

-- tickets in hand stay good where an entry is to end no run
all_still : (setup : Setup) (history : List Entry) (entry : Entry) (tickets : List Flight) → RunsFollow setup history → ended_in entry.deed ≡ None
    → AreHeld setup history tickets → AreHeld setup (history ++ entry ∷ []) tickets
all_still setup history entry [] runs none held = tt
all_still setup history entry (ticket ∷ tickets) runs none held = (
  runs.stays entry 0 ticket held.0 (λ own same. let clash : None ≡ Some ticket.run = sym none ∙ same in absurd (cc)),
  (held.1.0, all_still setup history entry tickets runs none held.1.1),
)

pub held_entry : (old new : BookState) (entry : Entry) (tickets : List Flight) → RunsFollow old.setup old.history → ended_in entry.deed ≡ None
    → AreHeld old.setup old.history tickets → new ≡ entered old entry → AreHeld new.setup new.history tickets
held_entry old new entry tickets runs none held is =
    subst (λ (book : BookState). AreHeld book.setup book.history tickets) (sym is) (all_still old.setup old.history entry tickets runs none held)

-- ---- an entry that waits

-- the ticket of an answer has the place of the entry as its run
pub says_run : (place caller : ℕ) (said : Said) (ticket : Flight) → Says place caller said (answer.Wait ticket) → ticket.run ≡ place
says_run place caller (Replies reply) ticket says = absurd says
says_run place caller (Waits order) ticket says = ap (λ (f : Flight). f.run) says
says_run place caller Silence ticket says = absurd says

-- a later run is none of those in hand
apart_push : (ticket last : Flight) (tickets : List Flight) → ticket.run ≢ last.run → IsApart ticket tickets → IsApart ticket (tickets ++ last ∷ [])
apart_push ticket last [] other apart = (other, tt)
apart_push ticket last (first ∷ tickets) other apart = (apart.0, apart_push ticket last tickets other apart.1)

held_push : (setup : Setup) (history before : List Entry) (tickets : List Flight) (last : Flight) → RunsFollow setup before → AreHeld setup before tickets
    → AreHeld setup history tickets → Holds setup history 0 last → last.run ≡ length before + 1 → AreHeld setup history (tickets ++ last ∷ [])
held_push setup history before [] last runs old held holds run = (holds, (tt, tt))
held_push setup history before (ticket ∷ tickets) last runs old held holds run =
    let below = runs.places 0 ticket old.0 in
    let other : ticket.run ≢ last.run = λ same. absurd (omega (arith, same, below, run)) in
    (held.0, (apart_push ticket last tickets other held.1.0, held_push setup history before tickets last runs old.1.1 held.1.1 holds run))

-- the tickets in hand behind an entry that waits
pub held_more : (old new : BookState) (entry : Entry) (tickets : List Flight) (ticket : Flight) → RunsFollow old.setup old.history → ended_in entry.deed ≡ None
    → AreHeld old.setup old.history tickets → new ≡ entered old entry → Holds new.setup new.history 0 ticket
    → ticket.run ≡ length old.history + 1 → AreHeld new.setup new.history (tickets ++ ticket ∷ [])
held_more old new entry tickets ticket runs none held is holds run =
    let grown : BookState = entered old entry in
    let holds_here : Holds grown.setup grown.history 0 ticket = subst (λ (book : BookState). Holds book.setup book.history 0 ticket) is holds in
    subst (λ (book : BookState). AreHeld book.setup book.history (tickets ++ ticket ∷ [])) (sym is)
    (held_push old.setup grown.history old.history tickets ticket runs held (held_entry old grown entry tickets runs none held refl) holds_here run)

-- ---- the end of a run

-- tickets in hand stay good where an entry is to end another run
ended_still : (setup : Setup) (history : List Entry) (entry : Entry) (ticket : Flight) (tickets : List Flight) → RunsFollow setup history
    → ended_in entry.deed ≡ Some ticket.run → IsApart ticket tickets → AreHeld setup history tickets → AreHeld setup (history ++ entry ∷ []) tickets
ended_still setup history entry ticket [] runs ends apart held = tt
ended_still setup history entry ticket (other ∷ tickets) runs ends apart held = (
  runs.stays entry 0 other held.0 (λ own same. let both : Some ticket.run ≡ Some other.run = sym ends ∙ same in apart.0 (cc)),
  (held.1.0, ended_still setup history entry ticket tickets runs ends apart.1 held.1.1),
)

pub held_finish : (old new : BookState) (ticket : Flight) (ruling : Ruling) (tickets : List Flight) → RunsFollow old.setup old.history
    → IsApart ticket tickets → AreHeld old.setup old.history tickets → new ≡ entered old (finish_entry 0 ticket ruling)
    → AreHeld new.setup new.history tickets
held_finish old new ticket ruling tickets runs apart held is =
    subst (λ (book : BookState). AreHeld book.setup book.history tickets) (sym is)
    (ended_still old.setup old.history (finish_entry 0 ticket ruling) ticket tickets runs refl apart held)

pub held_park : (old new : BookState) (ticket : Flight) (why : Why) (tickets : List Flight) → RunsFollow old.setup old.history
    → IsApart ticket tickets → AreHeld old.setup old.history tickets → new ≡ entered old (park_entry 0 ticket why)
    → AreHeld new.setup new.history tickets
held_park old new ticket why tickets runs apart held is =
    subst (λ (book : BookState). AreHeld book.setup book.history tickets) (sym is)
    (ended_still old.setup old.history (park_entry 0 ticket why) ticket tickets runs refl apart held)

-- ---- a ticket taken out

-- the tickets without that at a place
abbrev pub left_at : List Flight → ℕ → List Flight
left_at tickets at = take at tickets ++ drop (suc at) tickets

apart_at : (first ticket : Flight) (tickets : List Flight) (at : ℕ) → IsApart first tickets → at < length tickets
    → ticket ≡ get_or tickets at ticket → first.run ≢ ticket.run
apart_at first ticket [] at apart within is = absurd (omega (arith, within))
apart_at first ticket (other ∷ tickets) zero apart within is = subst (λ (f : Flight). first.run ≢ f.run) (sym is) apart.0
apart_at first ticket (other ∷ tickets) (suc at) apart within is = apart_at first ticket tickets at apart.1 (omega (arith, within)) is

apart_left : (first : Flight) (tickets : List Flight) (at : ℕ) → IsApart first tickets → IsApart first (left_at tickets at)
apart_left first [] zero apart = tt
apart_left first [] (suc at) apart = tt
apart_left first (other ∷ tickets) zero apart = apart.1
apart_left first (other ∷ tickets) (suc at) apart = (apart.0, apart_left first tickets at apart.1)

-- the ticket that is taken out is good, and of another run than those that are left
pub record IsTaken (setup : Setup) (history : List Entry) (ticket : Flight) (tickets : List Flight) : Type 0 where
  pub holds : Holds setup history 0 ticket
  pub apart : IsApart ticket tickets
  pub held : AreHeld setup history tickets

pub taken : (setup : Setup) (history : List Entry) (tickets : List Flight) (at : ℕ) (ticket : Flight) → AreHeld setup history tickets
    → at < length tickets → ticket ≡ get_or tickets at ticket → IsTaken setup history ticket (left_at tickets at)
taken setup history [] at ticket held within is = absurd (omega (arith, within))
taken setup history (first ∷ tickets) zero ticket held within is = record {
  holds = subst (Holds setup history 0) (sym is) held.0;
  apart = subst (λ (f : Flight). IsApart f tickets) (sym is) held.1.0;
  held = held.1.1;
}
taken setup history (first ∷ tickets) (suc at) ticket held within is =
    let rest = taken setup history tickets at ticket held.1.1 (omega (arith, within)) is in
    let other = apart_at first ticket tickets at held.1.0 (omega (arith, within)) is in
    record {
      holds = rest.holds;
      apart = (λ same. other (sym same), rest.apart);
      held = (held.0, (apart_left first tickets at held.1.0, rest.held));
    }

-- the same at a desk
pub taken_of : (desk : DeskState) (book : BookState) (tickets left : List Flight) (at : ℕ) (ticket : Flight) → record { book = book; tickets = tickets } ≡ desk
    → AreHeld book.setup book.history tickets → at < length desk.tickets → ticket ≡ get_or tickets at ticket → left ≡ left_at tickets at
    → IsTaken book.setup book.history ticket left
taken_of desk book tickets left at ticket is held within value items =
    let here : at < length tickets = subst (λ (d : DeskState). at < length d.tickets) (sym is) within in
    subst (IsTaken book.setup book.history ticket) (sym items) (taken book.setup book.history tickets at ticket held here value)
