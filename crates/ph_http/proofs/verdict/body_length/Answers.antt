use Rattle.std.proofs.Common.{codes, map, sym, ◌∙◌}
use Rattle.httparse.specs.Spans.{header_bytes}
use Rattle.ph_http.proofs.DigitLemmas.{first_is_number}
use Rattle.ph_http.proofs.verdict.body_length.Goals as goal

pub by_digits-requires : goal.by_digits-requires
by_digits-requires c =
    first_is_number (codes "content-length") (map (header_bytes c.args.head.now) c.args.headers.now) c.in-Some.value.now (sym c.in-Some.ensures) (sym c.all_same.ensures ∙ c.if-all_same.true)
