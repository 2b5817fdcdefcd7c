use Rattle.std.proofs.Common.{◌≡◌, ◌++◌, ◌-◌, length, take, Some, None, sym, ap, ◌∙◌, arith}
use Rattle.std.proofs.lemmas.List.{take-append-drop}
use Rattle.ph_base.specs.Numbers.{padded, number_in}
use Rattle.ph_base.proofs.IdLemmas.{same_id, same_kind, parts_of}
use Rattle.ph_base.proofs.DecimalLemmas.{number_padded, number_prints}
use Rattle.ph_base.proofs.id_text.read_id.Goals as goal

pub returns-then-text-lt16-clause-only : goal.returns-then-text-lt16-clause-only
returns-then-text-lt16-clause-only c = λ id h. let p = parts_of _ id h in absurd (let l = p.long in omega arith)

pub returns-in_err-kind-clause-only : goal.returns-in_err-kind-clause-only
returns-in_err-kind-clause-only c = λ id h. let p = parts_of _ id h in absurd (c.in_err-kind.ensures.none id.kind (c.split_at.ensures.front ∙ p.front))

pub returns-in_err-number-clause-only : goal.returns-in_err-number-clause-only
returns-in_err-number-clause-only c = λ id h.
    let p = parts_of _ id h in
    let digits = c.split_at.ensures.back ∙ p.back in
    let read : None ≡ Some id.number = c.in_err-number.ensures ∙ ap number_in digits ∙ number_padded id.number id.in_range in
    cc

pub invariant_of-result : goal.invariant_of-result
invariant_of-result c = let p = number_prints c.split_at.result.1.now c.in_ok-number.number (omega arith) c.in_ok-number.ensures in record { in_range = p.below }

pub returns-clause-found : goal.returns-clause-found
returns-clause-found c =
    let text = c.args.text.now in
    let p = number_prints c.split_at.result.1.now c.in_ok-number.number (omega arith) c.in_ok-number.ensures in
    let front = sym c.split_at.ensures.front ∙ c.in_ok-kind.ensures.found in
    let back = sym c.split_at.ensures.back ∙ p.text_is in
    sym (take-append-drop (length text - 16) text) ∙ ap (λ b. take (length text - 16) text ++ b) back ∙ ap (λ a. a ++ padded 16 c.in_ok-number.number) front

pub returns-clause-only : goal.returns-clause-only
returns-clause-only c = λ id h.
    let p = parts_of _ id h in
    let read : Some c.in_ok-number.number ≡ Some id.number = c.in_ok-number.ensures ∙ ap number_in (c.split_at.ensures.back ∙ p.back) ∙ number_padded id.number id.in_range in
    let kind = sym c.in_ok-kind.ensures.found ∙ c.split_at.ensures.front ∙ p.front in
    ap Some (same_id _ id (same_kind _ id.kind kind) (cc))
