-- What calls may do, by the rows, and the errors that refuse them.
use Rattle.std.specs.Prelude.{option_and_then, option_map}
use Rattle.std.proofs.Common.{◌≡◌, ℕ, ◌≤◌, true, List, [], ◌∷◌, ◌++◌, Option, Some, None, refl, sym, ap, ◌∙◌, subst, arith}
use Rattle.std.specs.List.{cons_option}
use Rattle.std.proofs.lemmas.List.{append-nil}
use Rattle.ph_errors.specs.Table.{Problem, InvalidValue, NoSuchObject, ParameterMissing, AmountTooSmall, UnexpectedState, ChargeNotCaptured, ChargeAlreadyRefunded, ChargeDisputed, DisputeClosed, PlatformOnly, BalanceInsufficient, error_of}
use Rattle.ph_items.specs.Items.{intent_in}
use Rattle.ph_items.specs.declared.intents.Intent.{Intent}
use Rattle.ph_items.specs.declared.items.Item.TheVariants as item
use Rattle.ph_rows.specs.declared.rows.Row.{Row}
use Rattle.ph_rows.specs.Rows.{latest_of}
use Rattle.ph_rows.specs.Batches.{BatchState}
use Rattle.ph_rows.specs.Views.{ViewState}
use Rattle.ph_facts.specs.Keeps.{KeepsRows, MayBeAdded, batch_after, is_refusal}
use Rattle.ph_facts.specs.Outcomes.{Outcome, Refuses, Adds}
use Rattle.ph_facts.specs.Shown.{Shown, shown_by, shown_in, status_by, status_in}
use Rattle.ph_facts.specs.Sound.{IsSound, KeepLaws}
use Rattle.ph_facts.specs.Touches.{Touch, Untouched}

-- the problems for which operations refuse calls
abbrev pub Refusing : Problem → Type 0
Refusing problem = is_refusal (error_of problem) ≡ true

pub no_object : (param : List ℕ) → Refusing (NoSuchObject param)
unfolding error_of
no_object param = refl

pub wrong_value : (param : List ℕ) → Refusing (InvalidValue param)
unfolding error_of
wrong_value param = refl

pub none_given : (param : List ℕ) → Refusing (ParameterMissing param)
unfolding error_of
none_given param = refl

pub too_small : Refusing AmountTooSmall
unfolding error_of
too_small = refl

pub wrong_state : Refusing UnexpectedState
unfolding error_of
wrong_state = refl

pub not_captured : Refusing ChargeNotCaptured
unfolding error_of
not_captured = refl

pub already_refunded : Refusing ChargeAlreadyRefunded
unfolding error_of
already_refunded = refl

pub charge_disputed : Refusing ChargeDisputed
unfolding error_of
charge_disputed = refl

pub dispute_closed : Refusing DisputeClosed
unfolding error_of
dispute_closed = refl

pub of_platform : Refusing PlatformOnly
unfolding error_of
of_platform = refl

pub funds_short : Refusing BalanceInsufficient
unfolding error_of
funds_short = refl

-- the status of a payment intent by its present version
pub status_found : (rows : List Row) (object : ℕ) (row : Row) (intent : Intent) → latest_of object rows ≡ Some row
    → row.item ≡ item.Intent intent → status_in rows object ≡ Some intent.status
status_found rows object row intent latest is =
    ap (option_and_then status_by) latest ∙ ap (λ content. option_map (λ (intent : Intent). intent.status) (intent_in content)) is

-- and there is none of an object without rows
pub status_none : (rows : List Row) (object : ℕ) → latest_of object rows ≡ None → status_in rows object ≡ None
status_none rows object none = ap (option_and_then status_by) none

-- what rows and more behind them show
pub shown_after : (rows more : List Row) → shown_in (rows ++ more) ≡ shown_in rows ++ shown_in more
shown_after [] more = refl
shown_after (row ∷ rows) more = at (shown_by row.object row.item) (shown_after rows more)
  where
    at : (shown : Option Shown) → shown_in (rows ++ more) ≡ shown_in rows ++ shown_in more
        → cons_option shown (shown_in (rows ++ more)) ≡ cons_option shown (shown_in rows) ++ shown_in more
    at None same = same
    at (Some first) same = ap (λ others. first ∷ others) same

-- rows that show nothing, behind others
pub shown_before : (rows more : List Row) → shown_in more ≡ [] → shown_in (rows ++ more) ≡ shown_in rows
shown_before rows more none = shown_after rows more ∙ ap (λ others. shown_in rows ++ others) none ∙ append-nil (shown_in rows)

-- a batch without rows or events may be added, and does nothing
pub nothing_added : (state : ViewState) (entry : ℕ) → IsSound state → MayBeAdded state 0 Untouched (batch_after state entry)
nothing_added state entry sound = record {
  enters = record {
    began = refl;
    at = refl;
    follow = tt;
    laws = subst KeepLaws (sym (append-nil state.rows)) sound.laws;
    told = tt;
  };
  few = omega arith;
  shown = refl;
}

-- a greater bound
pub added_few : (state : ViewState) (fewer most : ℕ) (touch : Touch) (batch : BatchState) → MayBeAdded state fewer touch batch → fewer ≤ most
    → MayBeAdded state most touch batch
added_few state fewer most touch batch may less =
    let few = may.few in
    record { enters = may.enters; few = omega arith; shown = may.shown }

pub kept_few : (state : ViewState) (fewer most : ℕ) (outcome : Outcome) → KeepsRows state fewer outcome → fewer ≤ most → KeepsRows state most outcome
kept_few state fewer most (Refuses error) keeps less = keeps
kept_few state fewer most (Adds touch object batch) keeps less = (added_few state fewer most touch batch keeps.0 less, keeps.1)
