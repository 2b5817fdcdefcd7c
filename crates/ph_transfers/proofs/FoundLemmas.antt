-- The objects that texts name, among sound rows.
use Rattle.std.specs.Prelude.{◌==◌, nat_lt, codes}
use Rattle.std.proofs.Common.{◌≡◌, ℕ, ◌≤◌, ◌<◌, false, List, Option, None, Some, refl, sym, ap, ◌∙◌, arith}
use Rattle.std.proofs.lemmas.Bool.{cond_both, eqb-false}
use Rattle.std.proofs.lemmas.Bool.Decides.{nat_tests}
use Rattle.ph_base.specs.declared.ids.Kind.TheVariants as kind
use Rattle.ph_errors.specs.Table.{Problem, error_of, InvalidValue, NoSuchObject}
use Rattle.ph_items.specs.declared.charges.Charge.{Charge}
use Rattle.ph_items.specs.declared.fees.Fee.{Fee}
use Rattle.ph_items.specs.declared.items.Item.{Item}
use Rattle.ph_items.specs.declared.transfers.Transfer.{Transfer}
use Rattle.ph_items.specs.Charges.{charge_kind}
use Rattle.ph_items.specs.Items.{charge_in, fee_in, transfer_in}
use Rattle.ph_items.specs.Kinds.{kind_of}
use Rattle.ph_rows.specs.declared.rows.Row.{Row}
use Rattle.ph_rows.specs.Names.{object_named, owned_named}
use Rattle.ph_rows.specs.Views.{ViewState}
use Rattle.ph_rows.proofs.RowLemmas.{first_fails, second_fails}
use Rattle.ph_facts.specs.Keeps.{KeepsRows}
use Rattle.ph_facts.specs.Outcomes.{Outcome, Refuses}
use Rattle.ph_facts.specs.Sound.{IsSound}
use Rattle.ph_facts.proofs.DoneLemmas.{Refusing, no_object, wrong_value}
use Rattle.ph_facts.proofs.FoundLemmas.{object_found, owned_found}
use Rattle.ph_facts.proofs.PresentLemmas.{IsCharge, IsFee, IsTransfer}
use Rattle.ph_facts.proofs.VersionLemmas.{charge_is, fee_is, transfer_is}
use Rattle.ph_transfers.specs.Found.{is_too_much, made_of, made_of_row, made_within}

-- what two operations make of a row is alike, where it is for a version in it
pub alike_row : {V : Type 0} (P : Outcome → Outcome → Type 0) (first second : Row → V → Outcome) (version : Item → Option V)
    (name : List ℕ) (row : Option Row)
    → ((problem : Problem) → Refusing problem → P (Refuses (error_of problem)) (Refuses (error_of problem)))
    → ((last : Row) (v : V) → row ≡ Some last → version last.item ≡ Some v → P (first last v) (second last v))
    → P (made_of_row first version name row) (made_of_row second version name row)
alike_row P first second version name None refuses each = refuses (NoSuchObject name) (no_object name)
alike_row {V} P first second version name (Some last) refuses each = at (version last.item) refl
  where
    at : (o : Option V) → version last.item ≡ o → P (made_of first name last o) (made_of second name last o)
    at None e = refuses (NoSuchObject name) (no_object name)
    at (Some v) e = each last v refl e

-- the version in the row of the account's transfer that a text names is its present one
pub transfer_at : (state : ViewState) (account : ℕ) (text : List ℕ) (row : Row) (transfer : Transfer) → IsSound state
    → owned_named state.rows account kind.Transfer text ≡ Some row → transfer_in row.item ≡ Some transfer
    → IsTransfer state.rows row transfer
transfer_at state account text row transfer sound named is =
    let present = (owned_found state account kind.Transfer text row sound named).0 in
    record { stands = present.stands; latest = present.latest; is = transfer_is row.item transfer is }

-- so it is with an application fee
pub fee_at : (state : ViewState) (account : ℕ) (text : List ℕ) (row : Row) (fee : Fee) → IsSound state
    → owned_named state.rows account kind.Fee text ≡ Some row → fee_in row.item ≡ Some fee → IsFee state.rows row fee
fee_at state account text row fee sound named is =
    let present = (owned_found state account kind.Fee text row sound named).0 in
    record { stands = present.stands; latest = present.latest; is = fee_is row.item fee is }

-- and with a card charge, whatever its account
pub charge_at : (state : ViewState) (text : List ℕ) (row : Row) (charge : Charge) → IsSound state
    → object_named state.rows kind.Charge text ≡ Some row → charge_in row.item ≡ Some charge
    → IsCharge state.rows row charge × (charge_kind charge.sort ≡ kind.Charge)
charge_at state text row charge sound named is =
    let present = object_found state kind.Charge text row sound named in
    let version = charge_is row.item charge is in
    (record { stands = present.stands; latest = present.latest; is = version }, sym (ap kind_of version) ∙ present.kind)

-- an amount that may be taken is no more than what is left, of which there is some
pub within_left : (left amount : ℕ) → is_too_much left amount ≡ false → (0 < left) × (amount ≤ left)
within_left left amount fits =
    let some : left ≡ 0 → ⊥ = eqb-false left 0 (first_fails (left == 0) (nat_lt left amount) fits) in
    let above : nat_lt left amount ≡ false = second_fails (left == 0) (nat_lt left amount) fits in
    (grind arith, grind (arith, nat_tests))

-- what is made with an amount keeps the rows sound, where it does with one that may be taken
pub kept_within : (state : ViewState) (most : ℕ) (make : ℕ → Outcome) (left amount : ℕ)
    → (amount ≤ left → KeepsRows state most (make amount)) → KeepsRows state most (made_within make left amount)
kept_within state most make left amount keeps =
    cond_both (is_too_much left amount) (Refuses (error_of (InvalidValue (codes "amount")))) (make amount) (KeepsRows state most)
    (λ above. wrong_value (codes "amount")) (λ fits. keeps (within_left left amount fits).1)
