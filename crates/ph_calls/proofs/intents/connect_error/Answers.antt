use Rattle.std.proofs.Common.{[], ◌∷◌, codes, sym, ◌∙◌}
use Rattle.ph_errors.specs.Table.{InvalidValue, error_of}
use Rattle.ph_calls.specs.Intents.{is_fee_above, is_fee_of_nobody, is_passed_on}
use Rattle.ph_calls.proofs.CheckLemmas.{holds_here, holds_later}
use Rattle.ph_calls.proofs.intents.connect_error.Goals as goal

pub returns-then-is_fee_above : goal.returns-then-is_fee_above
returns-then-is_fee_above c =
    let call = c.args.call.now in
    let account = c.args.account in
    let wrong_fee = error_of (InvalidValue (codes "application_fee_amount")) in
    let wrong_destination = error_of (InvalidValue (codes "transfer_data[destination]")) in
    holds_here (is_fee_above call.application_fee_amount call.amount) wrong_fee c.in_ok-invalid_value.field-0
    ((is_fee_of_nobody account call, wrong_fee) ∷ (is_passed_on account call, wrong_destination) ∷ [])
    (sym c.is_fee_above.ensures ∙ c.if-is_fee_above.true) c.in_ok-invalid_value.ensures

pub returns-then-is_fee_of_nobody : goal.returns-then-is_fee_of_nobody
returns-then-is_fee_of_nobody c =
    let call = c.args.call.now in
    let account = c.args.account in
    let wrong_fee = error_of (InvalidValue (codes "application_fee_amount")) in
    let wrong_destination = error_of (InvalidValue (codes "transfer_data[destination]")) in
    let others = (is_passed_on account call, wrong_destination) ∷ [] in
    holds_later (is_fee_above call.application_fee_amount call.amount) wrong_fee c.in_ok-invalid_value-2.field-0
    ((is_fee_of_nobody account call, wrong_fee) ∷ others)
    (sym c.is_fee_above.ensures ∙ c.if-is_fee_above.false)
    (holds_here (is_fee_of_nobody account call) wrong_fee c.in_ok-invalid_value-2.field-0 others
    (sym c.is_fee_of_nobody.ensures ∙ c.if-is_fee_of_nobody.true) c.in_ok-invalid_value-2.ensures)

pub returns-then-is_passed_on : goal.returns-then-is_passed_on
returns-then-is_passed_on c =
    let call = c.args.call.now in
    let account = c.args.account in
    let wrong_fee = error_of (InvalidValue (codes "application_fee_amount")) in
    let wrong_destination = error_of (InvalidValue (codes "transfer_data[destination]")) in
    let others = (is_passed_on account call, wrong_destination) ∷ [] in
    holds_later (is_fee_above call.application_fee_amount call.amount) wrong_fee c.in_ok-invalid_value-3.field-0
    ((is_fee_of_nobody account call, wrong_fee) ∷ others)
    (sym c.is_fee_above.ensures ∙ c.if-is_fee_above.false)
    (holds_later (is_fee_of_nobody account call) wrong_fee c.in_ok-invalid_value-3.field-0 others
    (sym c.is_fee_of_nobody.ensures ∙ c.if-is_fee_of_nobody.false)
    (holds_here (is_passed_on account call) wrong_destination c.in_ok-invalid_value-3.field-0 []
    (sym c.is_passed_on.ensures ∙ c.if-is_passed_on.true) c.in_ok-invalid_value-3.ensures))
