use Rattle.std.specs.Prelude.{option_and_then, option_map}
use Rattle.std.specs.Option.{option_copied}
use Rattle.std.proofs.Common.{Option, ap, sym, ◌∙◌}
use Rattle.ph_items.specs.declared.transfers.Transfer.{Transfer}
use Rattle.ph_rows.specs.declared.rows.Row.{Row}
use Rattle.ph_refunds.specs.Parts.{transfer_version}
use Rattle.ph_refunds.proofs.PartLemmas.{transfer_refused}
use Rattle.ph_refunds.proofs.parts.transfer_due.Goals as goal

pub returns-in_default-clause-refusal : goal.returns-in_default-clause-refusal
returns-in_default-clause-refusal c =
    transfer_refused c.args.charge.now c.args.amount (option_and_then transfer_version (option_copied c.args.row)) c.invalid_value.result
    c.of.result (ap (λ row. option_and_then transfer_version (option_copied row)) c.in_default.is) c.of.ensures c.invalid_value.ensures

pub returns-in-None-clause-refusal : goal.returns-in-None-clause-refusal
returns-in-None-clause-refusal c =
    transfer_refused c.args.charge.now c.args.amount (option_and_then transfer_version (option_copied c.args.row))
    c.invalid_value-in-None.result c.of-in-None.result
    (ap (λ row. option_and_then transfer_version (option_copied row)) c.in-Some.is
    ∙ ap (λ (found : Option Transfer). option_map (λ (transfer : Transfer). record { row = c.in-Some.row.now; transfer = transfer }) found)
    (sym c.transfer.ensures ∙ ap (λ found. option_copied found) c.in-None.is))
    c.of-in-None.ensures c.invalid_value-in-None.ensures
