-- Payment intents that wait for their capture, with a version of a charge that keeps what it holds.
use Rattle.std.specs.Prelude.{option_and_then}
use Rattle.std.proofs.Common.{◌≡◌, ℕ, ◌+◌, inl, inr, Bool, true, false, cond, eqb, List, [], ◌∷◌, ◌++◌, Option, None, Some, sym, refl, ap, ◌∙◌, subst}
use Rattle.std.proofs.lemmas.Bool.{eqb-true}
use Rattle.std.proofs.lemmas.List.Sums.{fold_push}
use Rattle.ph_rows.specs.declared.rows.Row.{Row}
use Rattle.ph_items.specs.declared.charges.Charge.{Charge}
use Rattle.ph_items.specs.declared.items.Item.{Item}
use Rattle.ph_items.specs.declared.items.Item.TheVariants as item
use Rattle.ph_items.specs.Items.{charge_in}
use Rattle.ph_rows.specs.Rows.{later_version, latest_of}
use Rattle.ph_facts.specs.Held.{AreHeld, IsHeldBy, charge_of}
use Rattle.ph_rows.proofs.RowLemmas.{picked}

-- a version of a charge holds what the version before held: it is made for the same, and as much was authorised and captured
pub record KeepsHold (before after : Charge) : Type 0 where
  pub sort : after.sort ≡ before.sort
  pub amount : after.amount ≡ before.amount
  pub captured : after.amount_captured ≡ before.amount_captured

-- payment intents that wait for their capture stay held with it
pub held_version : (rows : List Row) (new : Row) (before after : Charge) → AreHeld rows → charge_of rows new.object ≡ Some before
    → new.item ≡ item.Charge after → KeepsHold before after → AreHeld (rows ++ new ∷ [])
held_version rows new before after held known is keeps object row intent e intent_is waits =
    elim (picked (eqb new.object object) (Some new) (latest_of object rows) (Some row) (sym (fold_push (later_version object) None rows new) ∙ e)) [
      | inl q ↦ absurd (another (let same : new ≡ row = (let both : Some new ≡ Some row = q.1 in cc) in same))
      | inr q ↦ at intent.latest_charge (held object row intent q.1 intent_is waits)
    ]
  where
    another : new ≡ row → ⊥
    another same = let both : item.Charge after ≡ item.Intent intent = sym is ∙ ap (λ (r : Row). r.item) same ∙ intent_is in absurd (cc)

    holds_still : IsHeldBy object intent (Some before) → IsHeldBy object intent (Some after)
    holds_still h = record {
      sort = keeps.sort ∙ h.sort;
      amount = ap (λ n. intent.amount_capturable + n) keeps.captured ∙ h.amount ∙ sym keeps.amount;
      nothing = keeps.captured ∙ h.nothing;
    }

    found : (number : ℕ) → IsHeldBy object intent (charge_of rows number) → (b : Bool) → eqb new.object number ≡ b
        → IsHeldBy object intent (option_and_then (λ (r : Row). charge_in r.item) (cond b (Some new) (latest_of number rows)))
    found number h true e =
        subst (λ (content : Item). IsHeldBy object intent (charge_in content)) (sym is)
        (holds_still (subst (IsHeldBy object intent) (ap (charge_of rows) (sym (eqb-true new.object number e)) ∙ known) h))
    found number h false e = h

    at : (o : Option ℕ) → IsHeldBy object intent (option_and_then (charge_of rows) o)
        → IsHeldBy object intent (option_and_then (charge_of (rows ++ new ∷ [])) o)
    at None h = absurd h
    at (Some number) h =
        subst (λ (o : Option Row). IsHeldBy object intent (option_and_then (λ (r : Row). charge_in r.item) o))
        (sym (fold_push (later_version number) None rows new)) (found number h (eqb new.object number) refl)
