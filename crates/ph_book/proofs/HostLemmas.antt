-- What a session needs of the history of any object that answers as a book does: the book's entries of it, and what the session's own caller has left live.
use Rattle.std.proofs.Common.{◌≡◌, ◌≢◌, ℕ, ◌+◌, ◌^◌, ◌<◌, ◌==◌, ◌∷◌, ◌++◌, Bool, true, false, cond, List, [], length, map, Option, Some, None, refl, sym, ap, ◌∙◌, arith}
use Rattle.std.proofs.lemmas.Bool.{eq-eqb}
use Rattle.std.proofs.lemmas.Bool.Decides.{nat_tests}
use Rattle.ph_attempts.specs.declared.flights.Flight.{Flight}
use Rattle.ph_http.specs.declared.message.Raw.{Raw}
use Rattle.ph_http.specs.declared.message.Reply.{Reply}
use Rattle.ph_items.specs.declared.orders.Order.{Order}
use Rattle.ph_lock.specs.Histories.{NoneOf}
use Rattle.ph_book.specs.declared.setup.Setup.{Setup}
use Rattle.ph_book.specs.declared.acts.Deed.{Deed}
use Rattle.ph_book.specs.declared.acts.Deed.TheVariants as deed
use Rattle.ph_book.specs.declared.acts.Entry.{Entry}
use Rattle.ph_book.specs.Callers.{caller_of}
use Rattle.ph_book.specs.Entries.{call_entry}
use Rattle.ph_book.specs.History.{said_to}
use Rattle.ph_book.specs.Legal.{IsLegal}
use Rattle.ph_book.specs.Laws.{ended_in}
use Rattle.ph_book.specs.OwnRuns.{NoMoreOwn, after_call, after_deed, after_end, own_of}
use Rattle.ph_book.specs.Replies.{Said, Replies, Waits}
use Rattle.ph_book.specs.Stays.{own_stays}
use Rattle.ph_book.proofs.GrowthLemmas.{legal_front}
use Rattle.ph_book.proofs.OwnRunLemmas.{runs_after}

-- entries of other callers are so in the book, too
pub none_plain : {E : Type 0} (by : E → ℕ) (plain : E → Entry) → ((e : E) → (plain e).caller ≡ by e) → (caller : ℕ) (entries : List E)
    → NoneOf by caller entries → NoneOf caller_of caller (map plain entries)
none_plain by plain named caller [] none = tt
none_plain by plain named caller (entry ∷ entries) none =
    (λ is. none.0 (sym (named entry) ∙ is), none_plain by plain named caller entries none.1)

-- ---- nothing is left live

pub no_more_then : (setup : Setup) (caller : ℕ) (old middle new : List Entry) → NoMoreOwn setup caller old middle → NoMoreOwn setup caller middle new
    → NoMoreOwn setup caller old new
no_more_then setup caller old middle new first second run flight live = first run flight (second run flight live)

-- while others act
pub no_more_beside : (setup : Setup) (caller : ℕ) (history more : List Entry) → NoneOf caller_of caller more → NoMoreOwn setup caller history (history ++ more)
no_more_beside setup caller history more none run flight live = sym (own_stays setup history more caller run none) ∙ live

module _ (setup : Setup) (history : List Entry) (few : setup.entries < 2 ^ 32) (legal : IsLegal setup history) where
  -- a call of its own that is answered at once
  pub no_more_replied : (caller : ℕ) (raw : Raw) (reply : Reply) → said_to setup history (call_entry caller raw) ≡ Replies reply
      → NoMoreOwn setup caller history (history ++ call_entry caller raw ∷ [])
  no_more_replied caller raw reply said run flight live =
      ap (λ (s : Said). after_call caller (length history + 1) s run (own_of setup history caller run)) (sym said)
      ∙ sym ((runs_after setup history few legal (call_entry caller raw)).own run) ∙ live

  -- a call that waits begins the run of its place, and no other
  pub begun_alone : (caller : ℕ) (raw : Raw) (order : Order) (run : ℕ) (flight : Flight) → said_to setup history (call_entry caller raw) ≡ Waits order
      → run ≢ length history + 1 → own_of setup (history ++ call_entry caller raw ∷ []) caller run ≡ Some flight → own_of setup history caller run ≡ Some flight
  begun_alone caller raw order run flight said apart live =
      let other : (run == length history + 1) ≡ false = grind (arith, nat_tests) in
      sym (ap (λ b. cond b (Some (record { caller = caller; run = length history + 1; order = order })) (own_of setup history caller run)) other)
      ∙ ap (λ (s : Said). after_call caller (length history + 1) s run (own_of setup history caller run)) (sym said)
      ∙ sym ((runs_after setup history few legal (call_entry caller raw)).own run) ∙ live

  -- a run of its own that it ended is not live; all that is was live before
  pub ended_alone : (entry : Entry) (number run : ℕ) (flight : Flight) → ended_in entry.deed ≡ Some number
      → own_of setup (history ++ entry ∷ []) entry.caller run ≡ Some flight → (run ≢ number) × (own_of setup history entry.caller run ≡ Some flight)
  ended_alone entry number run flight ends live = at (run == number) refl
    where
      had : Option Flight
      had = own_of setup history entry.caller run

      after : (d : Deed) → ended_in d ≡ Some number → (said : Said) → after_deed entry.caller (length history + 1) d said run had ≡ after_end number run had
      after (deed.Call raw) e said = absurd (cc)
      after (deed.Finish ended ruling) e said = let same : ended ≡ number = cc in ap (λ n. after_end n run had) same
      after (deed.Park ended why) e said = let same : ended ≡ number = cc in ap (λ n. after_end n run had) same
      after deed.Resume e said = absurd (cc)
      after (deed.Tick moment) e said = absurd (cc)

      left : after_end number run had ≡ Some flight
      left = sym (after entry.deed ends (said_to setup history entry)) ∙ sym ((runs_after setup history few legal entry).own run) ∙ live

      at : (b : Bool) → (run == number) ≡ b → (run ≢ number) × (had ≡ Some flight)
      at true e = absurd (let gone : None ≡ Some flight = sym (ap (λ b. cond b None had) e) ∙ left in cc)
      at false e = (λ is. absurd (let clash : true ≡ false = sym (eq-eqb run number is) ∙ e in cc), sym (ap (λ b. cond b None had) e) ∙ left)

-- a call of its own that waits, and later its end of that run: whatever others enter in between, nothing is left live
pub no_more_ended : (setup : Setup) (history between : List Entry) (caller : ℕ) (raw : Raw) (order : Order) (entry : Entry) → setup.entries < 2 ^ 32
    → IsLegal setup ((history ++ call_entry caller raw ∷ []) ++ between) → said_to setup history (call_entry caller raw) ≡ Waits order
    → NoneOf caller_of caller between → entry.caller ≡ caller → ended_in entry.deed ≡ Some (length history + 1)
    → NoMoreOwn setup caller history (((history ++ call_entry caller raw ∷ []) ++ between) ++ entry ∷ [])
no_more_ended setup history between caller raw order entry few legal said none own ends run flight live =
    let called : List Entry = history ++ call_entry caller raw ∷ [] in
    let here : own_of setup ((called ++ between) ++ entry ∷ []) entry.caller run ≡ Some flight =
    ap (λ c. own_of setup ((called ++ between) ++ entry ∷ []) c run) own ∙ live in
    let before = ended_alone setup (called ++ between) few legal entry (length history + 1) run flight ends here in
    let begun : own_of setup called caller run ≡ Some flight =
    no_more_beside setup caller called between none run flight (ap (λ c. own_of setup (called ++ between) c run) (sym own) ∙ before.1) in
    begun_alone setup history few (legal_front setup history (call_entry caller raw ∷ []) (legal_front setup called between legal)) caller raw order run flight said before.0 begun
