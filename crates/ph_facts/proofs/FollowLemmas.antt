-- Rows that an entry may add: a further version of an object, the first version of a new one, an event.
use Rattle.std.proofs.Common.{◌≡◌, ℕ, ◌+◌, ◌^◌, ◌≤◌, ◌<◌, true, false, List, [], ◌∷◌, ◌++◌, Option, None, Some, length, refl, sym, ap, ◌∙◌, subst, arith}
use Rattle.std.specs.List.{list_all}
use Rattle.std.specs.Str.{is_utf8}
use Rattle.std.proofs.lemmas.Bool.{false≢true}
use Rattle.std.proofs.lemmas.List.{append-nil, append_assoc}
use Rattle.ph_items.specs.declared.items.Item.{Item}
use Rattle.ph_items.specs.declared.items.Item.TheVariants as item
use Rattle.ph_items.specs.declared.events.Event.{Event}
use Rattle.ph_items.specs.Kinds.{kind_of}
use Rattle.ph_items.specs.Weights.{texts_of}
use Rattle.ph_items.specs.Words.{subject_of}
use Rattle.ph_rows.specs.declared.rows.Row.{Row}
use Rattle.ph_rows.specs.Rows.{row_at}
use Rattle.ph_rows.specs.Views.{ViewState}
use Rattle.ph_rows.proofs.RowLemmas.{row_at-before, row_at-next, row_at_within}
use Rattle.ph_facts.specs.Order.{AllMayFollow, AmountsFit, HasBegun, HasSubject, IsInOrder, MayFollow, with_next}
use Rattle.ph_facts.specs.Origins.{HasOrigins, is_made_once, origins_of}

-- a row at the next place and the view's time
pub record IsNext (state : ViewState) (new : Row) : Type 0 where
  pub few : length state.rows + 1 < 10 ^ 16
  pub place : new.place ≡ length state.rows + 1
  pub at : new.at ≡ state.time

-- an item that may stand behind rows as a version of an object, and is no event
pub record MayStand (rows : List Row) (content : Item) : Type 0 where
  pub texts : list_all is_utf8 (texts_of content) ≡ true
  pub within : AmountsFit content
  pub origins : HasOrigins rows (origins_of content)
  pub silent : (event : Event) → content ≡ item.Event event → ⊥

-- a further version of the object of a row that stands
pub record IsFurther (old new : Row) : Type 0 where
  pub object : new.object ≡ old.object
  pub account : new.account ≡ old.account
  pub kind : kind_of new.item ≡ kind_of old.item

-- a further version of an object of which there may be several
pub further_follows : (state : ViewState) (old new : Row) → IsInOrder state → row_at old.place state.rows ≡ Some old
    → IsNext state new → MayStand state.rows new.item → IsFurther old new → is_made_once new.item ≡ false → MayFollow state new
further_follows state old new order stands next may further changes = record {
  few = next.few;
  place = next.place;
  at = next.at;
  begun = subst (λ (o : ℕ). HasBegun (row_at o (state.rows ++ new ∷ [])) new) (sym further.object) (begun (row_at old.object state.rows) refl (order.begun old.place old stands));
  first = (let o : new.object ≡ old.object = further.object in
      let p : new.place ≡ length state.rows + 1 = next.place in
      let first : old.object ≤ old.place = order.first old.place old stands in
      let within : (0 < old.place) × (old.place ≤ length state.rows) = row_at_within old.place state.rows old stands in
      let last : old.place ≤ length state.rows = within.1 in omega arith);
  once = λ is. absurd (false≢true (sym changes ∙ is));
  texts = may.texts;
  within = may.within;
  origins = may.origins;
  events = λ event is. absurd (may.silent event is);
}
  where
    begun : (found : Option Row) → row_at old.object state.rows ≡ found → HasBegun found old
        → HasBegun (row_at old.object (state.rows ++ new ∷ [])) new
    begun None e h = absurd h
    begun (Some first) e h = subst (λ (o : Option Row). HasBegun o new) (sym (row_at-before old.object state.rows (new ∷ []) first e)) (record {
      object = h.object ∙ sym further.object;
      account = h.account ∙ sym further.account;
      kind = h.kind ∙ sym further.kind;
    })

-- a row that is the first version of its object begins it
begins_itself : (state : ViewState) (new : Row) → new.object ≡ length state.rows + 1
    → HasBegun (row_at new.object (state.rows ++ new ∷ [])) new
begins_itself state new object =
    subst (λ (o : Option Row). HasBegun o new) (sym (ap (λ (o : ℕ). row_at o (state.rows ++ new ∷ [])) object ∙ row_at-next state.rows new))
    (record { object = refl; account = refl; kind = refl })

-- the first version of a new object
pub first_follows : (state : ViewState) (new : Row) → IsNext state new → new.object ≡ length state.rows + 1
    → MayStand state.rows new.item → MayFollow state new
first_follows state new next object may = record {
  few = next.few;
  place = next.place;
  at = next.at;
  begun = begins_itself state new object;
  first = (let p : new.place ≡ length state.rows + 1 = next.place in omega arith);
  once = λ is. object ∙ sym next.place;
  texts = may.texts;
  within = may.within;
  origins = may.origins;
  events = λ event is. absurd (may.silent event is);
}

-- the row of an event that speaks of the object of a row that stands
pub record TellsOf (subject new : Row) (event : Event) : Type 0 where
  pub is : new.item ≡ item.Event event
  pub account : new.account ≡ subject.account
  pub object : event.object ≡ subject.object
  pub kind : kind_of subject.item ≡ subject_of event.sort

-- an event that tells of the object of a row that stands
pub event_follows : (state : ViewState) (subject new : Row) (event : Event) → IsInOrder state
    → row_at subject.place state.rows ≡ Some subject → IsNext state new → new.object ≡ length state.rows + 1
    → list_all is_utf8 (texts_of new.item) ≡ true → TellsOf subject new event → MayFollow state new
event_follows state subject new event order stands next object texts tells = record {
  few = next.few;
  place = next.place;
  at = next.at;
  begun = begins_itself state new object;
  first = (let p : new.place ≡ length state.rows + 1 = next.place in omega arith);
  once = λ is. object ∙ sym next.place;
  texts = texts;
  within = subst AmountsFit (sym tells.is) tt;
  origins = subst (λ (content : Item). HasOrigins state.rows (origins_of content)) (sym tells.is) tt;
  events = λ other is. subst (λ (e : Event). HasSubject (row_at e.object state.rows) new e) (same other is)
      (subst (λ (o : ℕ). HasSubject (row_at o state.rows) new event) (sym tells.object)
      (speaks (row_at subject.object state.rows) (order.begun subject.place subject stands)));
}
  where
    same : (other : Event) → new.item ≡ item.Event other → event ≡ other
    same other is = let both : item.Event event ≡ item.Event other = sym tells.is ∙ is in cc

    speaks : (found : Option Row) → HasBegun found subject → HasSubject found new event
    speaks None h = absurd h
    speaks (Some first) h = record {
      object = h.object ∙ sym tells.object;
      kind = h.kind ∙ tells.kind;
      account = h.account ∙ sym tells.account;
    }

-- rows that may follow one after another, and others that may follow them
pub follow_both : (state : ViewState) (rows more : List Row) → AllMayFollow state rows
    → AllMayFollow (record state { rows = state.rows ++ rows }) more → AllMayFollow state (rows ++ more)
follow_both state [] more first second =
    subst (λ (all : List Row). AllMayFollow (record state { rows = all }) more) (append-nil state.rows) second
follow_both state (row ∷ rows) more first second = (
  first.0,
  follow_both (with_next state row) rows more first.1
      (subst (λ (all : List Row). AllMayFollow (record state { rows = all }) more) (sym (append_assoc state.rows (row ∷ []) rows)) second),
)
