-- What holds of the history that a session leaves, and of its link with it.
use Rattle.std.specs.Prelude.{◌≡◌, ℕ, ◌==◌, true, List, Option, Some}
use Rattle.std.specs.List.{list_any}
use Rattle.ph_base.specs.declared.acquirer.Ruling.{Ruling}
use Rattle.ph_base.specs.declared.acquirer.Ruling.TheVariants as ruling
use Rattle.ph_items.specs.declared.orders.Order.{Order}
use Rattle.ph_doings.specs.Confirmations.{attempts_of_confirmation}
use Rattle.ph_doings.specs.Doings.{Doing}
use Rattle.ph_doings.specs.Laws.{HasOneUnsettled}
use Rattle.ph_doings.specs.Standings.{Settled, Stands, standing_of}
use Rattle.ph_bank.specs.declared.asking.Ask.{Ask}
use Rattle.ph_bank.specs.Links.{Link}
use Rattle.ph_book.specs.Laws.{HaveDifferentReferences, WereChallenged}

-- different attempts have different references; a payment intent is processing exactly where it has an attempt that isn't settled, and never has two; and of a confirmation's attempts all but the newest were challenged
pub record HoldLaws (past : List Doing) : Type 0 where
  pub references_differ : HaveDifferentReferences past
  pub processing_has_one_attempt : HasOneUnsettled past
  pub all_but_the_last_were_challenged : WereChallenged past

-- each attempt that is settled is settled with its decision: so it is where all callers' links lead to one acquirer, which answers a repeated reference as at first
abbrev pub AreDecisions : List Doing → (ℕ → Option Ruling) → Type 0
AreDecisions past decisions = (reference intent : ℕ) (order : Order) (given : Ruling) → standing_of past reference ≡ Stands intent order (Settled given)
    → decisions reference ≡ Some given

-- an attempt of a confirmation is authorised: the acquirer was asked about it, and has approved it
pub record IsAuthorised (past : List Doing) (asks : List Ask) (decisions : ℕ → Option Ruling) (confirmation reference : ℕ) : Type 0 where
  pub of : list_any (λ other. other == reference) (attempts_of_confirmation past confirmation) ≡ true
  pub asked : list_any (λ ask. ask.order.reference == reference) asks ≡ true
  pub approved : decisions reference ≡ Some ruling.Approved

-- where a link tells its asks and the acquirer's decisions, and each settled attempt is settled with its decision, no confirmation is authorised twice
abbrev pub AuthorisedOnce : List Doing → Link → Type 0
AuthorisedOnce past link = (asks : List Ask) (decisions : ℕ → Option Ruling) → link.asked ≡ Some asks → link.decisions ≡ Some decisions → AreDecisions past decisions
    → (confirmation reference other : ℕ) → IsAuthorised past asks decisions confirmation reference → IsAuthorised past asks decisions confirmation other → reference ≡ other
