-- A payment intent that is found among sound rows, and what an operation on it may add.
use Rattle.std.specs.Prelude.{option_and_then}
use Rattle.std.proofs.Common.{◌≡◌, ℕ, ◌+◌, ◌≤◌, ◌∙◌, true, codes, List, [], ◌++◌, Option, None, Some, length, refl, sym, ap, subst, arith}
use Rattle.ph_base.specs.declared.acquirer.Method.{Method}
use Rattle.ph_base.specs.declared.ids.Kind.TheVariants as kind
use Rattle.ph_facts.specs.Outcomes.{Outcome}
use Rattle.ph_rows.specs.declared.rows.Row.{Row}
use Rattle.ph_items.specs.declared.charges.Charge.{Charge}
use Rattle.ph_items.specs.declared.event_kinds.EventKind.{EventKind}
use Rattle.ph_items.specs.declared.intents.Intent.{Intent}
use Rattle.ph_items.specs.declared.intents.IntentStatus.{IntentStatus}
use Rattle.ph_items.specs.declared.intents.IntentStatus.TheVariants as status
use Rattle.ph_items.specs.declared.items.Item.{Item}
use Rattle.ph_items.specs.declared.items.Item.TheVariants as item
use Rattle.ph_items.specs.Items.{intent_in}
use Rattle.ph_items.specs.Kinds.{kind_of}
use Rattle.ph_rows.specs.Names.{owned_named}
use Rattle.ph_rows.specs.Rows.{row_at, latest_of}
use Rattle.ph_facts.specs.Held.{IsHeldBy, charge_of}
use Rattle.ph_facts.specs.Origins.{HasOrigins, charge_named, origins_of}
use Rattle.ph_facts.specs.Sound.{IsSound}
use Rattle.ph_rows.specs.Views.{ViewState}
use Rattle.ph_items.specs.Weights.{texts_of}
use Rattle.ph_items.specs.Words.{subject_of}
use Rattle.ph_facts.proofs.DoneLemmas.{no_object, status_found, wrong_state}
use Rattle.ph_facts.proofs.FoundLemmas.{owned_found}
use Rattle.ph_facts.specs.Shown.{status_in}
use Rattle.ph_facts.specs.Statuses.{may_begin, may_put}
use Rattle.ph_facts.specs.Touches.{Cause}
use Rattle.ph_rows.proofs.RowLemmas.{row_at_within}
use Rattle.ph_facts.proofs.OrderLemmas.{origins_stand}
use Rattle.ph_facts.proofs.OriginLemmas.{have_begun-before}
use Rattle.ph_facts.proofs.UnderwayLemmas.{IsUnderway, underway_further}
use Rattle.ph_intents.specs.Attempts.{attempted}
use Rattle.ph_intents.specs.Keeps.{AreUtf8, IsReady, KeepsRows, batch_after}
use Rattle.ph_intents.specs.Refusals.{made_of, made_of_row, made_at, if_allowed}
use Rattle.ph_intents.specs.Versions.{adds_told, with_version}
use Rattle.ph_intents.proofs.EnterLemmas.{Waits, attempted_enters, begins, told_enters}

-- a row that stands is the present version of a payment intent of the account
pub record IsFound (state : ViewState) (account : ℕ) (row : Row) (intent : Intent) : Type 0 where
  pub stands : row_at row.place state.rows ≡ Some row
  pub latest : latest_of row.object state.rows ≡ Some row
  pub owner : row.account ≡ account
  pub is : row.item ≡ item.Intent intent

-- an operation on the payment intent of a path: what it makes of one that is found is what counts
pub keeps_at : (most : ℕ) (operation : ℕ → Intent → Outcome) (state : ViewState) (account : ℕ) (text : List ℕ) → IsSound state
    → ((row : Row) (intent : Intent) → IsFound state account row intent → KeepsRows state most (operation row.object intent))
    → KeepsRows state most (made_at operation state.rows account text)
keeps_at most operation state account text sound keeps = at (owned_named state.rows account kind.Intent text) refl
  where
    item_is : (row : Row) → row_at row.place state.rows ≡ Some row → latest_of row.object state.rows ≡ Some row
        → row.account ≡ account → (content : Item) → row.item ≡ content
        → KeepsRows state most (made_of (operation row.object) (intent_in content))
    item_is row stands latest owner (item.Intent intent) is =
        keeps row intent (record { stands = stands; latest = latest; owner = owner; is = is })
    item_is row stands latest owner other is = no_object (codes "id")

    at : (found : Option Row) → owned_named state.rows account kind.Intent text ≡ found
        → KeepsRows state most (made_of_row operation found)
    at None e = no_object (codes "id")
    at (Some row) e =
        let there = owned_found state account kind.Intent text row sound e in
        item_is row there.0.stands there.0.latest there.1 row.item refl

-- a status that is allowed is what counts
pub keeps_allowed : (state : ViewState) (most : ℕ) (further : IntentStatus → Outcome) (found : Option IntentStatus)
    → ((status : IntentStatus) → found ≡ Some status → KeepsRows state most (further status))
    → KeepsRows state most (if_allowed further found)
keeps_allowed state most further None keeps = wrong_state
keeps_allowed state most further (Some status) keeps = keeps status refl

-- its status is that of its present version
pub found_status : (state : ViewState) (account : ℕ) (row : Row) (intent : Intent) → IsFound state account row intent
    → status_in state.rows row.object ≡ Some intent.status
found_status state account row intent found = status_found state.rows row.object row intent found.latest found.is

-- the texts of a payment intent that is found
pub found_texts : (state : ViewState) (account : ℕ) (row : Row) (intent : Intent) → IsSound state
    → IsFound state account row intent → AreUtf8 (texts_of (item.Intent intent))
found_texts state account row intent sound found =
    subst (λ (content : Item). AreUtf8 (texts_of content)) found.is (sound.order.texts row.place row found.stands)

-- it is an object of the view
pub found_within : (state : ViewState) (account : ℕ) (row : Row) (intent : Intent) → IsSound state
    → IsFound state account row intent → row.object ≤ length state.rows
found_within state account row intent sound found =
    let first : row.object ≤ row.place = sound.order.first row.place row found.stands in
    let within : row.place ≤ length state.rows = (row_at_within row.place state.rows row found.stands).1 in
    omega arith

-- a version passes on what the version before it waits to capture: its charge stays, and where it waits, it waits for as much
pub record Passes (old new : Intent) : Type 0 where
  pub charge : new.latest_charge ≡ old.latest_charge
  pub amount : new.status ≡ status.RequiresCapture → new.amount_capturable ≡ old.amount_capturable
  pub waits : new.status ≡ status.RequiresCapture → old.status ≡ status.RequiresCapture

passes_on : (object : ℕ) (old new : Intent) (charge : Option Charge) → new.amount_capturable ≡ old.amount_capturable
    → IsHeldBy object old charge → IsHeldBy object new charge
passes_on object old new None same held = absurd held
passes_on object old new (Some charge) same held =
    record { sort = held.sort; amount = ap (λ n. n + charge.amount_captured) same ∙ held.amount; nothing = held.nothing }

-- so it is held as the version before it was
pub found_waits : (state : ViewState) (account : ℕ) (row : Row) (old new : Intent) → IsSound state → IsFound state account row old
    → Passes old new → Waits state row.object new
found_waits state account row old new sound found passes here =
    subst (λ (charge : Option ℕ). IsHeldBy row.object new (option_and_then (charge_of state.rows) charge)) (sym passes.charge)
    (passes_on row.object old new (option_and_then (charge_of state.rows) old.latest_charge) (passes.amount here)
    (sound.laws.held row.object row old found.latest found.is (passes.waits here)))

-- its latest charge has begun, where a version has the one before it
found_origins : (state : ViewState) (account : ℕ) (row : Row) (old new : Intent) → IsSound state → IsFound state account row old
    → new.latest_charge ≡ old.latest_charge → HasOrigins (state.rows ++ []) (origins_of (item.Intent new))
found_origins state account row old new sound found same =
    have_begun-before state.rows [] (origins_of (item.Intent new))
    (subst (λ (charge : Option ℕ). HasOrigins state.rows (charge_named charge)) (sym same)
    (origins_stand state row (item.Intent old) sound.order found.stands found.is))

-- a batch is under way with a further version of a payment intent that is found
pub found_underway : (state : ViewState) (entry account : ℕ) (row : Row) (old new : Intent) → IsReady state
    → IsFound state account row old → AreUtf8 (texts_of (item.Intent new)) → new.latest_charge ≡ old.latest_charge
    → IsUnderway state (with_version account row.object new (batch_after state entry))
found_underway state entry account row old new ready found texts same =
    subst (λ (owner : ℕ). IsUnderway state (with_version owner row.object new (batch_after state entry))) found.owner
    (underway_further state (batch_after state entry) row (item.Intent new) ready.sound.order (begins state entry) found.stands
    (let room = ready.room in omega arith)
    (record {
      texts = texts;
      within = tt;
      origins = found_origins state account row old new ready.sound found same;
      silent = λ event is. absurd (cc);
    })
    (record { kind = ap kind_of (sym found.is); changes = refl }))

-- it may be entered with an event that tells of it
pub found_told : (state : ViewState) (entry account : ℕ) (row : Row) (old new : Intent) (sort : EventKind) → IsReady state
    → IsFound state account row old → kind.Intent ≡ subject_of sort → AreUtf8 (texts_of (item.Intent new)) → Passes old new
    → may_put (Some old.status) new.status ≡ true → KeepsRows state 2 (adds_told account row.object new sort (batch_after state entry))
found_told state entry account row old new sort ready found subject texts passes may =
    told_enters state entry account row.object new sort ready
    (found_underway state entry account row old new ready found texts passes.charge) subject
    (found_waits state account row old new ready.sound found passes)
    (ap (λ status. may_put status new.status) (found_status state account row old found) ∙ may)

-- and with an attempt
pub found_attempted : (state : ViewState) (entry : ℕ) (cause : Cause) (account : ℕ) (row : Row) (old new : Intent) (how : Method) → IsReady state
    → IsFound state account row old → AreUtf8 (texts_of (item.Intent new)) → Passes old new
    → may_begin cause (Some old.status) ≡ true → new.status ≡ status.Processing
    → KeepsRows state 2 (attempted cause account row.object new how (batch_after state entry))
found_attempted state entry cause account row old new how ready found texts passes may runs =
    attempted_enters state entry cause account row.object new how ready
    (found_underway state entry account row old new ready found texts passes.charge)
    (found_within state account row old ready.sound found)
    (found_waits state account row old new ready.sound found passes)
    runs (ap (may_begin cause) (found_status state account row old found) ∙ may)
