use Rattle.std.proofs.Common.{◌+◌, sym, ap, ◌∙◌, arith}
use Rattle.std.proofs.lemmas.List.{take_rest, length-drop}
use Rattle.ph_http.specs.Requests.{lists_close}
use Rattle.ph_http.proofs.TokenLemmas.{close_found, close_later, close_alone}
use Rattle.ph_http.proofs.tokens.has_close.Goals as goal

pub returns-then-is_close : goal.returns-then-is_close
returns-then-is_close c =
    sym (close_found c.loop-comma.rest.now c.in-Some.comma c.in-Some.ensures.value (sym c.is_close.ensures ∙ c.if-is_close.true)) ∙ c.loop-comma.invariant.value

pub loop-comma-preserved : goal.loop-comma-preserved
loop-comma-preserved c =
    let rest = c.loop-comma.rest.now in
    let i = c.in-Some.comma in
    let size = length-drop (i + 1) rest in
    let later = close_later rest i c.in-Some.ensures.value (sym c.is_close.ensures ∙ c.if-is_close.false) in
    record {
      within = rw (take_rest rest (i + 1)) (omega arith);
      value = ap lists_close (take_rest rest (i + 1)) ∙ sym later ∙ c.loop-comma.invariant.value;
    }

pub returns : goal.returns
returns c = c.is_close-2.ensures ∙ sym (close_alone c.loop-comma.rest.now c.in_default.ensures.value) ∙ c.loop-comma.invariant.value
