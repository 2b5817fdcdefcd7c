use Rattle.std.proofs.Common.{◌≡◌, length, ap, sym, ◌∙◌, arith}
use Rattle.ph_history.specs.Text.{end_line}
use Rattle.ph_history.proofs.GrammarLemmas.{open_refused, form_never, fits_push, other_count, form_always}
use Rattle.ph_history.proofs.parts.add_entry.Goals as goal

pub returns-in-Ok-push-clause-fits : goal.returns-in-Ok-push-clause-fits
returns-in-Ok-push-clause-fits c fits = (fits.0, rw c.in-Ok-push.ensures.items (fits_push c.args.entries.items c.in-Ok.entry fits.1 c.in-Ok.ensures.found.1))

pub returns-else-count-len-clause-refused : goal.returns-else-count-len-clause-refused
returns-else-count-len-clause-refused c fits form begins =
    open_refused c.args.setup c.args.entries.items c.args.line.now
    (λ entry one text. form_never entry (rw c.in-Err-Form.field-0-is at (c.in-Err-Form.ensures.only entry one text)))
    (λ text. other_count c.in-Ok-read_end.count (length c.args.entries.items) (c.in-Ok-read_end.ensures.only (length c.args.entries.items) (omega arith) text) (omega arith))
    begins

pub returns-in-Err-read_end-clause-refused : goal.returns-in-Err-read_end-clause-refused
returns-in-Err-read_end-clause-refused c fits form begins =
    open_refused c.args.setup c.args.entries.items c.args.line.now
    (λ entry one text. form_never entry (rw c.in-Err-Form.field-0-is at (c.in-Err-Form.ensures.only entry one text)))
    (λ text. form_always (length c.args.entries.items) c.in-Err-read_end.why form (c.in-Err-read_end.ensures.only (length c.args.entries.items) (omega arith) text))
    begins
