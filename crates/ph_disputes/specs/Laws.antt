-- The laws of disputes.
use Rattle.std.specs.Prelude.{ℕ, ◌+◌, ◌^◌, ◌<◌, List, [], ◌∷◌, length}
use Rattle.ph_calls.specs.declared.call.SendEvidence.{SendEvidence}
use Rattle.ph_rows.specs.declared.rows.Row.{Row}
use Rattle.ph_rows.specs.Batches.{BatchState}
use Rattle.ph_facts.specs.Keeps.{MayBeAdded}
use Rattle.ph_facts.specs.Touches.{Touch}
use Rattle.ph_facts.specs.Sound.{IsSound}
use Rattle.ph_rows.specs.Views.{ViewState}

-- the texts of a call that its dispute keeps
abbrev pub evidence_texts : SendEvidence → List (List ℕ)
evidence_texts call = call.uncategorized_text ∷ []

-- a batch that may be added after a sound view may be added with what an opening adds to it, where sixteen digits number
-- its three rows more: it does no more, and has at most four rows and events more
abbrev pub OpeningKeepsSound : (List Row → ℕ → BatchState → BatchState) → Type 0
OpeningKeepsSound opening =
    (state : ViewState) (most : ℕ) (touch : Touch) (batch : BatchState) (object : ℕ) → IsSound state
    → MayBeAdded state most touch batch → length state.rows + length batch.rows + 3 < 10 ^ 16
    → MayBeAdded state (most + 4) touch (opening state.rows object batch)
