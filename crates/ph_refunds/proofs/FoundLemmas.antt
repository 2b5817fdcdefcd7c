-- The charge that a refund names, among sound rows.
use Rattle.std.specs.Prelude.{codes, option_and_then}
use Rattle.std.proofs.Common.{◌≡◌, ℕ, List, Option, None, Some, refl, sym, ap, ◌∙◌}
use Rattle.ph_base.specs.declared.ids.Kind.TheVariants as kind
use Rattle.ph_facts.specs.Outcomes.{Outcome, Refuses}
use Rattle.ph_errors.specs.Table.{Problem, error_of, NoSuchObject, ParameterMissing}
use Rattle.ph_rows.specs.declared.rows.Row.{Row}
use Rattle.ph_items.specs.declared.charges.Charge.{Charge}
use Rattle.ph_items.specs.declared.intents.Intent.{Intent}
use Rattle.ph_items.specs.declared.items.Item.{Item}
use Rattle.ph_items.specs.declared.items.Item.TheVariants as item
use Rattle.ph_items.specs.Charges.{charge_kind}
use Rattle.ph_items.specs.Kinds.{kind_of}
use Rattle.ph_items.specs.Items.{charge_in, latest_charge_in}
use Rattle.ph_rows.specs.Names.{object_named}
use Rattle.ph_rows.specs.Rows.{row_at, latest_of}
use Rattle.ph_rows.specs.Views.{ViewState}
use Rattle.ph_facts.specs.Sound.{IsSound}
use Rattle.ph_facts.proofs.DoneLemmas.{Refusing, no_object, none_given}
use Rattle.ph_facts.proofs.FoundLemmas.{object_found}
use Rattle.ph_facts.proofs.PresentLemmas.{IsCharge, charge_found, latest_is_card}
use Rattle.ph_refunds.specs.Finding.{latest_charge_named, latest_version_in, made_at, made_of, made_of_row}

-- the latest charge of a payment intent that an id names has a number, and is a card charge
latest_found : (state : ViewState) (text : List ℕ) (row : Row) → IsSound state → latest_charge_named state.rows text ≡ Some row
    → (number : ℕ) × (latest_of number state.rows ≡ Some row) × (kind_of row.item ≡ kind.Charge)
latest_found state text row sound e = at (object_named state.rows kind.Intent text) refl e
  where
    of_number : (paid : Row) (intent : Intent) → row_at paid.place state.rows ≡ Some paid → paid.item ≡ item.Intent intent
        → (number : Option ℕ) → intent.latest_charge ≡ number → option_and_then (λ n. latest_of n state.rows) number ≡ Some row
        → (number : ℕ) × (latest_of number state.rows ≡ Some row) × (kind_of row.item ≡ kind.Charge)
    of_number paid intent stands is None latest e = absurd (cc)
    of_number paid intent stands is (Some number) latest e =
        (number, e, latest_is_card state paid intent number row sound stands is latest e)

    of_item : (paid : Row) → row_at paid.place state.rows ≡ Some paid → (content : Item) → paid.item ≡ content
        → option_and_then (λ n. latest_of n state.rows) (latest_charge_in content) ≡ Some row
        → (number : ℕ) × (latest_of number state.rows ≡ Some row) × (kind_of row.item ≡ kind.Charge)
    of_item paid stands (item.Intent intent) is e = of_number paid intent stands is intent.latest_charge refl e
    of_item paid stands other is e = absurd (cc)

    at : (found : Option Row) → object_named state.rows kind.Intent text ≡ found
        → option_and_then (latest_version_in state.rows) found ≡ Some row
        → (number : ℕ) × (latest_of number state.rows ≡ Some row) × (kind_of row.item ≡ kind.Charge)
    at None n e = absurd (cc)
    at (Some paid) n e = of_item paid (object_found state kind.Intent text paid sound n).stands paid.item refl e

-- what two operations make of a row is alike, where it is for a version of a charge
alike_of_row : (P : Outcome → Outcome → Type 0) (first second : Row → Charge → Outcome) (param : List ℕ) (row : Option Row)
    → ((problem : Problem) → Refusing problem → P (Refuses (error_of problem)) (Refuses (error_of problem)))
    → ((last : Row) (charge : Charge) → row ≡ Some last → charge_in last.item ≡ Some charge → P (first last charge) (second last charge))
    → P (made_of_row first param row) (made_of_row second param row)
alike_of_row P first second param None refuses each = refuses (NoSuchObject param) (no_object param)
alike_of_row P first second param (Some last) refuses each = at (charge_in last.item) refl
  where
    at : (o : Option Charge) → charge_in last.item ≡ o → P (made_of first param last o) (made_of second param last o)
    at None e = refuses (NoSuchObject param) (no_object param)
    at (Some charge) e = each last charge refl e

-- what two operations make of the charge that a refund names is alike, where it is for each charge among the rows
pub alike_at : (P : Outcome → Outcome → Type 0) (state : ViewState) (first second : Row → Charge → Outcome)
    (charge intent : Option (List ℕ)) → IsSound state → ((problem : Problem) → Refusing problem → P (Refuses (error_of problem)) (Refuses (error_of problem)))
    → ((row : Row) (version : Charge) → IsCharge state.rows row version → charge_kind version.sort ≡ kind.Charge
    → P (first row version) (second row version))
    → P (made_at first state.rows charge intent) (made_at second state.rows charge intent)
alike_at P state first second (Some charge) None sound refuses each =
    alike_of_row P first second (codes "charge") (object_named state.rows kind.Charge charge) refuses
    (λ row version e is.
    let named = object_found state kind.Charge charge row sound e in
    let found = (charge_found state row.object row version sound named.latest is).0 in
    each row version found (sym (ap kind_of found.is) ∙ named.kind))
alike_at P state first second None (Some intent) sound refuses each =
    alike_of_row P first second (codes "payment_intent") (latest_charge_named state.rows intent) refuses
    (λ row version e is.
    let latest = latest_found state intent row sound e in
    let found = (charge_found state latest.0 row version sound latest.1 is).0 in
    each row version found (sym (ap kind_of found.is) ∙ latest.2))
alike_at P state first second None None sound refuses each = refuses (ParameterMissing (codes "charge")) (none_given (codes "charge"))
alike_at P state first second (Some charge) (Some intent) sound refuses each =
    refuses (ParameterMissing (codes "charge")) (none_given (codes "charge"))
