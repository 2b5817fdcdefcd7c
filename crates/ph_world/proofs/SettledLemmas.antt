-- What is settled stays settled, and is never asked of.
use Rattle.std.proofs.Common.{◌≡◌, ℕ, ◌^◌, ◌<◌, ◌==◌, ◌⊎◌, cond, Bool, true, false, List, [], ◌∷◌, ◌++◌, sym, refl, ap, ◌∙◌, subst, inl, inr}
use Rattle.std.proofs.lemmas.Bool.{eqb-true}
use Rattle.std.proofs.lemmas.List.{append-nil}
use Rattle.std.proofs.lemmas.List.Elements.{filter-append}
use Rattle.ph_base.specs.declared.acquirer.Ruling.{Ruling}
use Rattle.ph_doings.specs.Doings.{Doing, Leaves, Puts, Edits, Begins, Resumes, Parks, Settles}
use Rattle.ph_doings.specs.Lawful.{IsLawful, MayDo}
use Rattle.ph_doings.specs.Standings.{Live, Parked, Settled, Standing, NotBegun, Stands, standing_of}
use Rattle.ph_items.specs.declared.orders.Order.{Order}
use Rattle.ph_book.specs.History.{effect_to}
use Rattle.ph_book.specs.Legal.{IsLegal}
use Rattle.ph_book.specs.State.{BookState}
use Rattle.ph_book.proofs.HistoryLemmas.{doings_grow}
use Rattle.ph_world.specs.declared.ask.Ask.{Ask}
use Rattle.ph_world.specs.declared.moves.Move.{Move}
use Rattle.ph_world.specs.Laws.{AsksLive, Everywhere, NeverAskedWhenSettled, SettledStays, asks_of, doings_in}
use Rattle.ph_world.specs.Moves.{after_move, after_moves}
use Rattle.ph_world.specs.Worlds.{WorldState, new_world}
use Rattle.ph_world.proofs.EntryLemmas.{lawful}
use Rattle.ph_world.proofs.LawLemmas.{BookStep, move_asks, move_book}
use Rattle.ph_world.proofs.MoveLemmas.{IsSound, all_sound, move_sound}

-- of an attempt that is settled with a ruling
module _ (reference intent : ℕ) (order : Order) (given : Ruling) where
  abbrev IsSettled : Standing → Type 0
  IsSettled standing = standing ≡ Stands intent order (Settled given)

  -- ---- one doing more

  -- what is done to an attempt that isn't settled is done to another
  other_stays : (past : List Doing) (other : ℕ) (stood now : Standing) → standing_of past other ≡ stood → (IsSettled stood → ⊥)
      → IsSettled (standing_of past reference) → IsSettled (cond (reference == other) now (standing_of past reference))
  other_stays past other stood now stands open_ is = at (reference == other) refl
    where
      at : (b : Bool) → (reference == other) ≡ b → IsSettled (cond (reference == other) now (standing_of past reference))
      at true e = absurd (open_ (sym stands ∙ ap (standing_of past) (sym (eqb-true reference other e)) ∙ is))
      at false e = ap (λ b. cond b now (standing_of past reference)) e ∙ is

  -- a settled attempt can't begin, be taken up again, be parked or be settled
  doing_leaves : (past : List Doing) (doing : Doing) → MayDo past doing → IsSettled (standing_of past reference)
      → IsSettled (standing_of (doing ∷ past) reference)
  doing_leaves past Leaves may is = is
  doing_leaves past (Puts of status) may is = is
  doing_leaves past (Edits of status) may is = is
  doing_leaves past (Begins cause of flight) may is =
      other_stays past flight.order.reference NotBegun (Stands of flight.order Live) may.1 (λ h. cc) is
  doing_leaves past (Resumes of flight) may is =
      other_stays past flight.order.reference (Stands of flight.order Parked) (Stands of flight.order Live) may.1 (λ h. cc) is
  doing_leaves past (Parks of flight) may is =
      other_stays past flight.order.reference (Stands of flight.order Live) (Stands of flight.order Parked) may.1 (λ h. cc) is
  doing_leaves past (Settles of flight capture ruling) may is =
      other_stays past flight.order.reference (Stands of flight.order Live) (Stands of flight.order (Settled ruling)) may.1 (λ h. cc) is

  -- ---- one move more

  book_leaves : (old new : BookState) → new.setup.entries < 2 ^ 32 → IsLegal new.setup new.history → BookStep old new
      → IsSettled (standing_of (doings_in old) reference) → IsSettled (standing_of (doings_in new) reference)
  book_leaves old new few legal (inl same) is = ap (λ (book : BookState). standing_of (doings_in book) reference) same ∙ is
  book_leaves old new few legal (inr more) is =
      let does : Doing = (effect_to old.setup old.history more.0).doing in
      let past : doings_in new ≡ does ∷ doings_in old = ap doings_in more.1 ∙ doings_grow old.setup old.history more.0 in
      let may : IsLawful (does ∷ doings_in old) = subst IsLawful past (lawful new.setup new.history few legal) in
      ap (λ (doings : List Doing). standing_of doings reference) past ∙ doing_leaves (doings_in old) does may.0 is

  move_leaves : (world : WorldState) (m : Move) → IsSound world → IsSettled (standing_of (doings_in world.book) reference)
      → IsSettled (standing_of (doings_in (after_move world m).book) reference)
  move_leaves world m holds is =
      let after : IsSound (after_move world m) = move_sound world m holds in
      book_leaves world.book (after_move world m).book after.fit.few after.well.legal.history (move_book world m) is

  -- an attempt that is live is another
  live_is_other : (past : List Doing) (of live : ℕ) (under : Order) → standing_of past live ≡ Stands of under Live
      → IsSettled (standing_of past reference) → (live == reference) ≡ false
  live_is_other past of live under stands is = at (live == reference) refl
    where
      at : (b : Bool) → (live == reference) ≡ b → (live == reference) ≡ false
      at true e =
          let clash : Stands of under Live ≡ Stands intent order (Settled given) =
          sym stands ∙ ap (standing_of past) (eqb-true live reference e) ∙ is in
          absurd (cc)
      at false e = e

  move_asks_others : (old new : WorldState) → (new.asks ≡ old.asks) ⊎ AsksLive old new → IsSettled (standing_of (doings_in old.book) reference)
      → asks_of reference new.asks ≡ asks_of reference old.asks
  move_asks_others old new (inl same) is = ap (asks_of reference) same
  move_asks_others old new (inr asks) is =
      let other : (asks.ask.order.reference == reference) ≡ false =
      live_is_other (doings_in old.book) asks.live.intent asks.ask.order.reference asks.ask.order asks.live.standing is in
      ap (asks_of reference) asks.more
      ∙ filter-append (λ (ask : Ask). ask.order.reference == reference) old.asks (asks.ask ∷ [])
      ∙ ap (λ b. asks_of reference old.asks ++ cond b (asks.ask ∷ []) []) other
      ∙ append-nil (asks_of reference old.asks)

  -- ---- a list of moves more

  moves_leave : (world : WorldState) (moves : List Move) → IsSound world → IsSettled (standing_of (doings_in world.book) reference)
      → IsSettled (standing_of (doings_in (after_moves world moves).book) reference)
  moves_leave world [] holds is = is
  moves_leave world (m ∷ moves) holds is =
      moves_leave (after_move world m) moves (move_sound world m holds) (move_leaves world m holds is)

  moves_ask_others : (world : WorldState) (moves : List Move) → IsSound world → IsSettled (standing_of (doings_in world.book) reference)
      → asks_of reference (after_moves world moves).asks ≡ asks_of reference world.asks
  moves_ask_others world [] holds is = refl
  moves_ask_others world (m ∷ moves) holds is =
      moves_ask_others (after_move world m) moves (move_sound world m holds) (move_leaves world m holds is)
      ∙ move_asks_others world (after_move world m) (move_asks world holds m) is

-- ---- everywhere

pub settled_stays : Everywhere SettledStays
settled_stays setup fit before moves reference intent order given is =
    moves_leave reference intent order given (after_moves (new_world setup) before) moves (all_sound setup before fit) is

pub never_asked_when_settled : Everywhere NeverAskedWhenSettled
never_asked_when_settled setup fit before moves reference intent order given is =
    moves_ask_others reference intent order given (after_moves (new_world setup) before) moves (all_sound setup before fit) is
