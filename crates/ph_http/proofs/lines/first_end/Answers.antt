use Rattle.std.proofs.Common.{ℕ, ◌==◌, length, sym, arith, rules}
use Rattle.std.proofs.lemmas.List.Sums.{position_or_len_is}
use Rattle.ph_http.proofs.lines.first_end.Goals as goal

pub returns-in-Some-clause-value : goal.returns-in-Some-clause-value
returns-in-Some-clause-value c =
    sym (position_or_len_is (λ (b : ℕ). b == 10) c.args.bytes.now c.in-Some.at 0 (search rules) (search rules) (search rules))

pub returns-in-None-clause-value : goal.returns-in-None-clause-value
returns-in-None-clause-value c =
    sym (position_or_len_is (λ (b : ℕ). b == 10) c.args.bytes.now (length c.args.bytes.now) 0 (omega arith) (search rules) (search rules))
