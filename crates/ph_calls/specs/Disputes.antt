-- The evidence against a dispute.
use Rattle.std.specs.Prelude.{ℕ, List}
use Rattle.ph_calls.specs.declared.call.SendEvidence.{SendEvidence}

-- the evidence for the dispute with this id
abbrev pub send_evidence : List ℕ → List ℕ → SendEvidence
send_evidence id uncategorized_text = record { id = id; uncategorized_text = uncategorized_text }
