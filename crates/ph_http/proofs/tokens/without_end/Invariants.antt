use Rattle.std.proofs.Common.{◌≡◌, ◌≤◌, take, length, reverse}
use Rattle.httparse.specs.Grammar.{skip_ows}
use Rattle.ph_http.proofs.tokens.without_end.Given as goal

abbrev pub invariant-loop-end : goal.invariant-loop-end
invariant-loop-end l = record {
  within : l.end ≤ length l.text;
  value : reverse (skip_ows (reverse (take l.end l.text))) ≡ reverse (skip_ows (reverse l.text));
}

abbrev pub decreases-loop-end : goal.decreases-loop-end
decreases-loop-end l = l.end
