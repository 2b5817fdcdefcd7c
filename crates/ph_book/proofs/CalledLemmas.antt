-- What the program makes of a call, by what is seen of its outcome.
use Rattle.std.proofs.Common.{◌≡◌, ℕ, Bool, List, Option, None, refl, ap, sym, ◌∙◌}
use Rattle.ph_items.specs.declared.orders.Order.{Order}
use Rattle.ph_rows.specs.Batches.{BatchState, made_rows}
use Rattle.ph_rows.specs.declared.rows.Row.{Row}
use Rattle.ph_facts.specs.Outcomes.{Outcome, Refuses, Adds, Added, seen}
use Rattle.ph_facts.specs.Touches.{order_asked}
use Rattle.ph_book.specs.Called.{IsMade}
use Rattle.ph_base.specs.declared.acquirer.Ruling.{Ruling}
use Rattle.ph_disputes.specs.Due.{open_due_of}
use Rattle.ph_book.specs.Calls.{Upshot, Rejects, Replays, Makes, Shows, Sets, and_opened}
use Rattle.ph_book.specs.History.{Effect, call_effect, outcome_rows, shown_or_waits}
use Rattle.ph_book.specs.Replies.{ruling_reply, settled_reply}

-- what is said to an accepted call, and the rows that it makes
pub record IsAdded (key : Option (List ℕ)) (opens : Bool) (now : ℕ) (rows : List Row) (object : ℕ) (order : Option Order) (batch : BatchState) (effect : Effect) : Type 0 where
  pub said : effect.said ≡ shown_or_waits now rows object batch order
  pub saves_is : effect.saves ≡ opens
  pub rows_are : effect.rows ≡ made_rows key batch
  pub now_is : effect.now ≡ now

pub added_effect : (key : Option (List ℕ)) (opens : Bool) (rows : List Row) (now place caller object : ℕ) (order : Option Order) (batch : BatchState) (upshot : Upshot)
    → IsMade upshot (Added object order batch) → IsAdded key opens now rows object order batch (call_effect key opens rows now place caller upshot)
added_effect key opens rows now place caller object order batch (Rejects error) made = absurd made
added_effect key opens rows now place caller object order batch (Replays saved) made = absurd made
added_effect key opens rows now place caller object order batch (Makes (Refuses error)) made = absurd (cc)
added_effect key opens rows now place caller object order batch (Makes (Adds touch shown begun)) made =
    let one : shown ≡ object = cc in
    let two : order_asked touch ≡ order = cc in
    let three : begun ≡ batch = cc in
    record {
      said = ap (λ n. shown_or_waits now rows n begun (order_asked touch)) one ∙ ap (λ b. shown_or_waits now rows object b (order_asked touch)) three
          ∙ ap (shown_or_waits now rows object batch) two;
      saves_is = refl;
      rows_are = ap (made_rows key) three;
      now_is = refl;
    }
added_effect key opens rows now place caller object order batch (Shows doc) made = absurd made
added_effect key opens rows now place caller object order batch (Sets moment) made = absurd made

-- the reply to a ruling, and its rows, by what is seen of its outcome
pub ruled_seen : (key : Option (List ℕ)) (rows : List Row) (outcome : Outcome) (object : ℕ) (batch after : BatchState) → seen outcome ≡ Added object None batch
    → after ≡ open_due_of rows object batch → (now : ℕ) (how : Ruling)
    → (ruling_reply now rows how (and_opened rows outcome) ≡ settled_reply now rows how object after)
    × (outcome_rows key (and_opened rows outcome) ≡ made_rows key after)
ruled_seen key rows (Refuses error) object batch after made opened now how = absurd (cc)
ruled_seen key rows (Adds touch shown begun) object batch after made opened now how =
    let one : shown ≡ object = cc in
    let three : begun ≡ batch = cc in (
      ap (λ (p : ℕ × BatchState). settled_reply now rows how p.0 (open_due_of rows p.0 p.1)) (λ i. (one i, three i))
          ∙ ap (settled_reply now rows how object) (sym opened),
      ap (λ (p : ℕ × BatchState). made_rows key (open_due_of rows p.0 p.1)) (λ i. (one i, three i)) ∙ ap (made_rows key) (sym opened),
    )
