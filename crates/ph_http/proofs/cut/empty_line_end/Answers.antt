use Rattle.std.proofs.Common.{◌≡◌, ◌+◌, ◌==◌, ◌&&◌, nat_lt, false, get_or, drop, ◌∙◌}
use Rattle.ph_http.specs.Cut.{empty_line}
use Rattle.ph_http.proofs.CutLemmas.{step_on, not_ten, no_line}
use Rattle.ph_http.proofs.cut.empty_line_end.Goals as goal
use Rattle.ph_http.proofs.cut.empty_line_end.Goals.{then-bytes-i-eq10+else-n-gt0, else-bytes-i-eq10}

pub loop-i-preserved : goal.loop-i-preserved
loop-i-preserved c =
    let bytes = c.args.bytes.now in
    let i = c.loop-i.i in
    let no : (get_or bytes i 0 == 10 && nat_lt 0 (empty_line (drop (i + 1) bytes))) ≡ false =
    elim c.if-bytes-i-eq10.branch [
      | then-bytes-i-eq10+else-n-gt0 w ↦ let e = w.empty_line_len-n.ensures.value in let z = w.if-n-gt0.false in no_line bytes i _ e z
      | else-bytes-i-eq10 w ↦ let z = w.if-bytes-i-eq10.false in not_ten bytes i z
    ] in
    step_on bytes i c.loop-i-test.true no ∙ c.loop-i.invariant
