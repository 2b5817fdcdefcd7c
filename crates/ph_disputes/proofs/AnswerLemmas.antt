-- Evidence and closes may be entered.
use Rattle.std.specs.Prelude.{◌||◌}
use Rattle.std.proofs.Common.{◌≡◌, ℕ, ◌+◌, ◌^◌, ◌≤◌, ◌<◌, Bool, true, false, List, [], ◌∷◌, ◌++◌, Option, length, refl, sym, ap, ◌∙◌, subst, arith, codes}
use Rattle.std.specs.List.{list_all, list_any}
use Rattle.std.specs.Str.{is_utf8}
use Rattle.std.proofs.lemmas.Bool.{cond_both, false≢true, ne_eqb}
use Rattle.std.proofs.lemmas.List.{length-append}
use Rattle.ph_base.specs.declared.ids.Kind.TheVariants as kind
use Rattle.ph_errors.specs.Table.{error_of, DisputeClosed}
use Rattle.ph_items.specs.declared.disputes.Dispute.{Dispute}
use Rattle.ph_items.specs.declared.disputes.DisputeStatus.{DisputeStatus}
use Rattle.ph_items.specs.declared.disputes.DisputeStatus.TheVariants as status
use Rattle.ph_items.specs.declared.event_kinds.EventKind.TheVariants as event
use Rattle.ph_items.specs.declared.items.Item.TheVariants as item
use Rattle.ph_items.specs.Kinds.{kind_of}
use Rattle.ph_items.specs.Weights.{texts_of}
use Rattle.ph_rows.specs.declared.rows.Row.{Row}
use Rattle.ph_rows.specs.Batches.{BatchState, last_place, next_row}
use Rattle.ph_rows.specs.Rows.{row_at, latest_of}
use Rattle.ph_rows.specs.Views.{ViewState}
use Rattle.ph_rows.proofs.RowLemmas.{is_version, latest_of-apart, latest_of-last, row_at-before, row_at_within}
use Rattle.ph_facts.specs.Amounts.{given_move, moved, moves_in, moves_of, taken_move}
use Rattle.ph_facts.specs.Entering.{IsToldBy, MayBeEntered}
use Rattle.ph_facts.specs.Keeps.{IsReady, KeepsRows, KeepsSound, MayBeAdded, batch_after, no_texts}
use Rattle.ph_facts.specs.Order.{AllMayFollow, IsInOrder, MayFollow, with_next}
use Rattle.ph_facts.specs.Origins.{HasOrigins, IsOrigin, origins_of}
use Rattle.ph_facts.specs.Outcomes.{Refuses, Adds}
use Rattle.ph_facts.specs.Touches.{Untouched}
use Rattle.ph_facts.proofs.DoneLemmas.{dispute_closed, no_object}
use Rattle.ph_facts.proofs.AmountLemmas.{moved_sum}
use Rattle.ph_facts.proofs.FollowLemmas.{first_follows, further_follows}
use Rattle.ph_facts.proofs.HeldLemmas.{held_beside}
use Rattle.ph_facts.proofs.LawLemmas.{laws_spoken, payments_none}
use Rattle.ph_facts.proofs.OrderLemmas.{order_with, order_with_all, origin_stands, origins_stand, texts_stand}
use Rattle.ph_facts.proofs.SpokenLemmas.{Spoken, spoken_adding, spoken_version}
use Rattle.ph_disputes.specs.Answers.{answered_dispute, evidence_of, evidence_outcome, given_txn, verdict_on, with_evidence, with_verdict}
use Rattle.ph_disputes.specs.Closing.{close_of, close_outcome, lost_dispute, with_closed, with_version}
use Rattle.ph_disputes.specs.Finding.{if_open, is_closed}
use Rattle.ph_disputes.specs.Laws.{evidence_texts}
use Rattle.ph_disputes.proofs.FoundLemmas.{IsFound, holds_at}

-- a dispute that isn't closed has taken its amount and its fee, and given nothing
open_moves : (now : DisputeStatus) (amount : ℕ) → is_closed now ≡ false → moves_in now amount ≡ taken_move amount ∷ []
open_moves status.NeedsResponse amount e = refl
open_moves status.UnderReview amount e = refl
open_moves status.Won amount e = absurd (false≢true (sym e))
open_moves status.Lost amount e = refl

-- a further version of a dispute that isn't closed, behind the rows of a view
module _ (state : ViewState) (entry : ℕ) (row : Row) (dispute after : Dispute) (ready : IsReady state)
    (found : IsFound state.rows row dispute) (open_still : is_closed dispute.status ≡ false)
    (texts : list_all is_utf8 (texts_of (item.Dispute after)) ≡ true) (of_it : after.charge ≡ dispute.charge) where
  abbrev begun : BatchState
  begun = batch_after state entry

  room : length state.rows + 64 < 10 ^ 16
  room = ready.room

  order : IsInOrder state
  order = ready.sound.order

  abbrev version : Row
  version = next_row begun row.object row.account (item.Dispute after)

  named : HasOrigins state.rows (origins_of (item.Dispute after))
  named =
      subst (λ (n : ℕ). HasOrigins state.rows (record { kind = kind.Charge; number = n } ∷ [])) (sym of_it)
      (origins_stand state row (item.Dispute dispute) order found.stands found.is)

  version_follows : MayFollow state version
  version_follows =
      further_follows state row version order found.stands
      (record { few = omega arith; place = omega arith; at = refl })
      (record { texts = texts; within = tt; origins = named; silent = λ event is. absurd (cc) })
      (record { object = refl; account = refl; kind = sym (ap kind_of found.is) }) refl

  taken : moves_of row.object state.rows ≡ taken_move dispute.amount ∷ []
  taken =
      sym (ready.sound.laws.moved row.object row (moves_in dispute.status dispute.amount) found.latest (ap moved.said found.is))
      ∙ open_moves dispute.status dispute.amount open_still

  alone_in_order : IsInOrder (record state { rows = state.rows ++ version ∷ [] })
  alone_in_order = order_with state version order version_follows

  -- it is told, or not
  pub version_enters : taken_move dispute.amount ∷ [] ≡ moves_in after.status after.amount
      → MayBeEntered state (with_version row after begun)
  version_enters same = record {
    began = refl;
    at = refl;
    follow = (version_follows, tt);
    laws = laws_spoken state.rows (version ∷ []) ready.sound.laws
        (payments_none state.rows (version ∷ []) refl
        (spoken_version moved state.rows version (moves_in after.status after.amount) moved_sum refl refl (sym (taken ∙ same))))
        (held_beside state (version ∷ []) order alone_in_order (tt, tt) ready.sound.laws.held);
    told = tt;
  }

  told_of_version : (more : List Row) → list_any (is_version row.object) more ≡ false
      → IsToldBy (latest_of row.object (version ∷ more)) event.DisputeClosed
  told_of_version more apart =
      subst (λ (o : Option Row). IsToldBy o event.DisputeClosed)
      (sym (latest_of-apart row.object (version ∷ []) more apart ∙ latest_of-last [] version)) refl

  pub closed_enters : taken_move dispute.amount ∷ [] ≡ moves_in after.status after.amount
      → MayBeEntered state (with_closed row (with_version row after begun))
  closed_enters same =
      let enters = version_enters same in
      record {
        began = refl;
        at = refl;
        follow = enters.follow;
        laws = enters.laws;
        told = (told_of_version [] refl, tt);
      }

  abbrev versioned : BatchState
  versioned = with_version row after begun

  abbrev given : Row
  given = next_row versioned (last_place versioned + 1) row.account (item.Txn (given_txn row.object dispute begun.at))

  abbrev second : ViewState
  second = with_next state version

  count_second : length second.rows ≡ length state.rows + 1
  count_second = length-append state.rows (version ∷ [])

  source : IsOrigin (row_at row.object second.rows) (record { kind = kind.Dispute; number = row.object })
  source =
      origin_stands second row (item.Dispute dispute) alone_in_order (row_at-before row.place state.rows (version ∷ []) row found.stands) found.is

  given_follows : MayFollow second given
  given_follows =
      let counted = count_second in
      first_follows second given (record { few = omega arith; place = omega arith; at = refl }) (omega arith)
      (record { texts = refl; within = tt; origins = (source, tt); silent = λ event is. absurd (cc) })

  both_follow : AllMayFollow state (version ∷ given ∷ [])
  both_follow = (version_follows, (given_follows, tt))

  both_in_order : IsInOrder (record state { rows = state.rows ++ version ∷ given ∷ [] })
  both_in_order = order_with_all state (version ∷ given ∷ []) order both_follow

  given_is_later : given.object ≡ row.object → ⊥
  given_is_later same =
      let first : row.object ≤ row.place = order.first row.place row found.stands in
      let within : row.place ≤ length state.rows = (row_at_within row.place state.rows row found.stands).1 in
      omega arith

  no_version : list_any (is_version row.object) (given ∷ []) ≡ false
  no_version = ap (λ (b : Bool). b || false) (ne_eqb given.object row.object given_is_later)

  -- it has moved what the rows before it say, and then what it gives back
  won_says : taken_move dispute.amount ∷ given_move dispute.amount ∷ [] ≡ moves_in after.status after.amount
      → Spoken moved state.rows (version ∷ given ∷ [])
  won_says same =
      spoken_adding moved state.rows version given (given_move dispute.amount ∷ []) (moves_in after.status after.amount) moved_sum refl refl refl refl
      (sym (ap (λ front. front ++ given_move dispute.amount ∷ []) taken ∙ same))

  pub won_enters : taken_move dispute.amount ∷ given_move dispute.amount ∷ [] ≡ moves_in after.status after.amount
      → MayBeEntered state (with_verdict status.Won row dispute (with_version row after begun))
  won_enters same = record {
    began = refl;
    at = refl;
    follow = both_follow;
    laws = laws_spoken state.rows (version ∷ given ∷ []) ready.sound.laws
        (payments_none state.rows (version ∷ given ∷ []) refl (won_says same))
        (held_beside state (version ∷ given ∷ []) order both_in_order (tt, (tt, tt)) ready.sound.laws.held);
    told = (told_of_version (given ∷ []) no_version, tt);
  }

-- what is made of a dispute that isn't closed may be entered, where its batch may
if_open_adds : (state : ViewState) (most : ℕ) (now : DisputeStatus) (object : ℕ) (batch : BatchState)
    → (is_closed now ≡ false → MayBeAdded state most Untouched batch) → KeepsRows state most (if_open now object batch)
if_open_adds state most now object batch adds =
    cond_both (is_closed now) (Refuses (error_of DisputeClosed)) (Adds Untouched object batch) (KeepsRows state most) (λ closed. dispute_closed)
    (λ still. (adds still, tt))

-- what a close adds may be entered
pub close_keeps : KeepsSound no_texts 2 close_outcome
close_keeps state entry account call ready texts =
    holds_at (KeepsRows state 2) state (close_of (batch_after state entry)) account call.id ready.sound (no_object (codes "id"))
    (λ row dispute found.
    if_open_adds state 2 dispute.status row.object
    (with_closed row (with_version row (lost_dispute dispute) (batch_after state entry)))
    (λ still. record {
      enters = closed_enters state entry row dispute (lost_dispute dispute) ready found still (kept row dispute found) refl refl;
      few = omega arith;
      shown = refl;
    }))
  where
    kept : (row : Row) (dispute : Dispute) → IsFound state.rows row dispute
        → list_all is_utf8 (texts_of (item.Dispute dispute)) ≡ true
    kept row dispute found =
        texts_stand state row (item.Dispute dispute) ready.sound.order found.stands found.is

-- what follows from a verdict may be entered
verdict_enters : (state : ViewState) (entry : ℕ) (row : Row) (dispute after : Dispute) (now : DisputeStatus) → IsReady state
    → IsFound state.rows row dispute → is_closed dispute.status ≡ false
    → list_all is_utf8 (texts_of (item.Dispute after)) ≡ true → after.charge ≡ dispute.charge → after.amount ≡ dispute.amount
    → after.status ≡ now
    → MayBeAdded state 3 Untouched (with_verdict now row dispute (with_version row after (batch_after state entry)))
verdict_enters state entry row dispute after now ready found still texts of_it amount is = at now is
  where
    moves : (to : DisputeStatus) → after.status ≡ to → moves_in to dispute.amount ≡ moves_in after.status after.amount
    moves to e = ap (λ (s : DisputeStatus). moves_in s dispute.amount) (sym e) ∙ ap (moves_in after.status) (sym amount)

    at : (to : DisputeStatus) → after.status ≡ to
        → MayBeAdded state 3 Untouched (with_verdict to row dispute (with_version row after (batch_after state entry)))
    at status.NeedsResponse e = record {
      enters = version_enters state entry row dispute after ready found still texts of_it (moves status.NeedsResponse e);
      few = omega arith;
      shown = refl;
    }
    at status.UnderReview e = record {
      enters = version_enters state entry row dispute after ready found still texts of_it (moves status.UnderReview e);
      few = omega arith;
      shown = refl;
    }
    at status.Won e = record {
      enters = won_enters state entry row dispute after ready found still texts of_it (moves status.Won e);
      few = omega arith;
      shown = refl;
    }
    at status.Lost e = record {
      enters = closed_enters state entry row dispute after ready found still texts of_it (moves status.Lost e);
      few = omega arith;
      shown = refl;
    }

-- what evidence adds may be entered
pub evidence_keeps : KeepsSound evidence_texts 3 evidence_outcome
evidence_keeps state entry account call ready texts =
    holds_at (KeepsRows state 3) state (evidence_of call.uncategorized_text (batch_after state entry)) account call.id ready.sound (no_object (codes "id"))
    (λ row dispute found.
    if_open_adds state 3 dispute.status row.object (with_evidence call.uncategorized_text row dispute (batch_after state entry))
    (λ still.
    verdict_enters state entry row dispute (answered_dispute call.uncategorized_text dispute) (verdict_on call.uncategorized_text)
    ready found still texts refl refl refl))
