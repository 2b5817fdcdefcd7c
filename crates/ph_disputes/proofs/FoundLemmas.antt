-- The dispute that a path names, among sound rows.
use Rattle.std.proofs.Common.{◌≡◌, ℕ, List, Option, None, Some, refl}
use Rattle.ph_base.specs.declared.ids.Kind.TheVariants as kind
use Rattle.ph_facts.specs.Outcomes.{Outcome}
use Rattle.ph_rows.specs.declared.rows.Row.{Row}
use Rattle.ph_items.specs.declared.disputes.Dispute.{Dispute}
use Rattle.ph_items.specs.declared.items.Item.TheVariants as item
use Rattle.ph_items.specs.Items.{dispute_in}
use Rattle.ph_rows.specs.Names.{owned_named}
use Rattle.ph_facts.specs.Sound.{IsSound}
use Rattle.ph_rows.specs.Views.{ViewState}
use Rattle.ph_facts.proofs.FoundLemmas.{IsPresent, owned_found}
use Rattle.ph_facts.proofs.PresentLemmas.{IsVersion}
use Rattle.ph_facts.proofs.VersionLemmas.{dispute_is}
use Rattle.ph_disputes.specs.Finding.{made_at, made_of, made_of_row, no_such_dispute}

-- a row is the present version of a dispute, and stands at its place
abbrev pub IsFound : List Row → Row → Dispute → Type 0
IsFound rows row dispute = IsVersion rows row (item.Dispute dispute)

-- what is made of the dispute that a path names has a property, where the refusal has it, and what is made of each dispute
-- among the rows
pub holds_at : (P : Outcome → Type 0) (state : ViewState) (operation : Row → Dispute → Outcome) (account : ℕ) (text : List ℕ)
    → IsSound state → P no_such_dispute
    → ((row : Row) (dispute : Dispute) → IsFound state.rows row dispute → P (operation row dispute))
    → P (made_at operation state.rows account text)
holds_at P state operation account text sound refused each = at (owned_named state.rows account kind.Dispute text) refl
  where
    of_row : (row : Row) → IsPresent state.rows kind.Dispute row → (o : Option Dispute) → dispute_in row.item ≡ o
        → P (made_of operation row o)
    of_row row present None e = refused
    of_row row present (Some dispute) e =
        each row dispute (record { stands = present.stands; latest = present.latest; is = dispute_is row.item dispute e })

    at : (found : Option Row) → owned_named state.rows account kind.Dispute text ≡ found → P (made_of_row operation found)
    at None e = refused
    at (Some row) e = of_row row (owned_found state account kind.Dispute text row sound e).0 (dispute_in row.item) refl
