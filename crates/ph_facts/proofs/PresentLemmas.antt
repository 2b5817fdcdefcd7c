-- The present version of a charge, a transfer, an application fee, among sound rows.
use Rattle.std.proofs.Common.{◌≡◌, ℕ, List, Option, None, Some, sym, ap, ◌∙◌, subst, pos}
use Rattle.ph_base.specs.declared.ids.Kind.TheVariants as kind
use Rattle.ph_items.specs.declared.intents.Intent.{Intent}
use Rattle.ph_items.specs.Kinds.{kind_of}
use Rattle.ph_rows.specs.declared.rows.Row.{Row}
use Rattle.ph_items.specs.declared.charges.Charge.{Charge}
use Rattle.ph_items.specs.declared.fees.Fee.{Fee}
use Rattle.ph_items.specs.declared.items.Item.{Item}
use Rattle.ph_items.specs.declared.items.Item.TheVariants as item
use Rattle.ph_items.specs.declared.transfers.Transfer.{Transfer}
use Rattle.ph_items.specs.Items.{charge_in, fee_in, transfer_in}
use Rattle.ph_rows.specs.Rows.{row_at, latest_of}
use Rattle.ph_facts.specs.Amounts.{captured, captured_of, given_back, given_back_of, refunded, refunded_of, reversed, reversed_of, transferred, transferred_of}
use Rattle.ph_facts.specs.Order.{HasBegun}
use Rattle.ph_facts.specs.Origins.{HasOrigins, IsOrigin, charge_named}
use Rattle.ph_facts.specs.Sound.{IsSound, KeepLaws}
use Rattle.ph_rows.specs.Views.{ViewState}
use Rattle.ph_facts.proofs.OrderLemmas.{origins_stand}
use Rattle.ph_facts.proofs.SoundLemmas.{latest_has_begun, latest_of_sound}
use Rattle.ph_facts.proofs.VersionLemmas.{charge_is, fee_is, transfer_is}

-- a row is the present version of an object, and stands at its place
pub record IsVersion (rows : List Row) (row : Row) (content : Item) : Type 0 where
  pub stands : row_at row.place rows ≡ Some row
  pub latest : latest_of row.object rows ≡ Some row
  pub is : row.item ≡ content

-- it is one of a charge, of a transfer, of an application fee
abbrev pub IsCharge : List Row → Row → Charge → Type 0
IsCharge rows row charge = IsVersion rows row (item.Charge charge)

abbrev pub IsTransfer : List Row → Row → Transfer → Type 0
IsTransfer rows row transfer = IsVersion rows row (item.Transfer transfer)

abbrev pub IsFee : List Row → Row → Fee → Type 0
IsFee rows row fee = IsVersion rows row (item.Fee fee)

-- the last version of an object is of its number
pub version_found : (state : ViewState) (number : ℕ) (row : Row) (content : Item) → IsSound state
    → latest_of number state.rows ≡ Some row → row.item ≡ content → IsVersion state.rows row content × (row.object ≡ number)
version_found state number row content sound latest is =
    let stood : (row_at row.place state.rows ≡ Some row) × (row.object ≡ number) = latest_of_sound state number row sound latest in (
      record {
        stands = stood.0;
        latest = subst (λ (n : ℕ). latest_of n state.rows ≡ Some row) (sym stood.1) latest;
        is = is;
      },
      stood.1,
    )

-- so it is where it is one of a charge, of a transfer, of an application fee
pub charge_found : (state : ViewState) (number : ℕ) (row : Row) (charge : Charge) → IsSound state
    → latest_of number state.rows ≡ Some row → charge_in row.item ≡ Some charge
    → IsCharge state.rows row charge × (row.object ≡ number)
charge_found state number row charge sound latest is =
    version_found state number row (item.Charge charge) sound latest (charge_is row.item charge is)

pub transfer_found : (state : ViewState) (number : ℕ) (row : Row) (transfer : Transfer) → IsSound state
    → latest_of number state.rows ≡ Some row → transfer_in row.item ≡ Some transfer
    → IsTransfer state.rows row transfer × (row.object ≡ number)
transfer_found state number row transfer sound latest is =
    version_found state number row (item.Transfer transfer) sound latest (transfer_is row.item transfer is)

pub fee_found : (state : ViewState) (number : ℕ) (row : Row) (fee : Fee) → IsSound state
    → latest_of number state.rows ≡ Some row → fee_in row.item ≡ Some fee → IsFee state.rows row fee × (row.object ≡ number)
fee_found state number row fee sound latest is =
    version_found state number row (item.Fee fee) sound latest (fee_is row.item fee is)

-- what was captured, refunded and transferred of a charge is what its present version says
pub record ChargeSays (rows : List Row) (number : ℕ) (charge : Charge) : Type 0 where
  pub captured : pos charge.amount_captured ≡ captured_of number rows
  pub refunded : charge.amount_refunded ≡ refunded_of number rows
  pub transferred : charge.amount_transferred ≡ transferred_of number rows

pub charge_says : (rows : List Row) (row : Row) (charge : Charge) → KeepLaws rows → IsCharge rows row charge
    → ChargeSays rows row.object charge
charge_says rows row charge laws found = record {
  captured = laws.captured row.object row (pos charge.amount_captured) found.latest (ap captured.said found.is);
  refunded = laws.refunded row.object row charge.amount_refunded found.latest (ap refunded.said found.is);
  transferred = laws.transferred row.object row charge.amount_transferred found.latest (ap transferred.said found.is);
}

-- so it is with what was reversed of a transfer
pub transfer_says : (rows : List Row) (row : Row) (transfer : Transfer) → KeepLaws rows → IsTransfer rows row transfer
    → transfer.amount_reversed ≡ reversed_of row.object rows
transfer_says rows row transfer laws found =
    laws.reversed row.object row transfer.amount_reversed found.latest (ap reversed.said found.is)

-- and with what was given back of an application fee
pub fee_says : (rows : List Row) (row : Row) (fee : Fee) → KeepLaws rows → IsFee rows row fee
    → fee.amount_refunded ≡ given_back_of row.object rows
fee_says rows row fee laws found =
    laws.given_back row.object row fee.amount_refunded found.latest (ap given_back.said found.is)

-- the latest charge of a payment intent that stands is a card charge
pub latest_is_card : (state : ViewState) (paid : Row) (intent : Intent) (number : ℕ) (row : Row) → IsSound state
    → row_at paid.place state.rows ≡ Some paid → paid.item ≡ item.Intent intent → intent.latest_charge ≡ Some number
    → latest_of number state.rows ≡ Some row → kind_of row.item ≡ kind.Charge
latest_is_card state paid intent number row sound stands is latest e =
    at (row_at number state.rows) named.0 (latest_has_begun state number row sound e)
  where
    named : HasOrigins state.rows (charge_named (Some number))
    named =
        subst (λ (l : Option ℕ). HasOrigins state.rows (charge_named l)) latest
        (origins_stand state paid (item.Intent intent) sound.order stands is)

    at : (first : Option Row) → IsOrigin first (record { kind = kind.Charge; number = number }) → HasBegun first row
        → kind_of row.item ≡ kind.Charge
    at None h begun = absurd h
    at (Some first) h begun = sym begun.kind ∙ h.kind
