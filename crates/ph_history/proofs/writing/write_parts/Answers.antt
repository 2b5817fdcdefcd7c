use Rattle.std.proofs.Common.{◌++◌, length, refl}
use Rattle.ph_lines.specs.Fields.{line_text}
use Rattle.ph_lines.proofs.WriteLemmas.{at_err, err_map, ok_map, front_first}
use Rattle.ph_history.specs.Text.{header_fields, setup_fields, end_fields}
use Rattle.ph_history.specs.Written.{entries_text, written_text}
use Rattle.ph_history.proofs.WrittenLemmas.{in_second, in_third, in_fourth, all_four}
use Rattle.ph_history.proofs.writing.write_parts.Goals as goal

pub returns-in_err-write_line-clause-front : goal.returns-in_err-write_line-clause-front
unfolding written_text
returns-in_err-write_line-clause-front g c =
    at_err _ (front_first (line_text (setup_fields c.args.setup.now) ++ (entries_text c.args.entries.now ++ line_text (end_fields (length c.args.entries.now)))) c.in_err-write_line.ensures.front refl)

pub returns-in_err-write_setup-clause-front : goal.returns-in_err-write_setup-clause-front
unfolding written_text
returns-in_err-write_setup-clause-front g c =
    at_err _ (in_second (line_text header_fields) (line_text (setup_fields c.args.setup.now)) (entries_text c.args.entries.now) (line_text (end_fields (length c.args.entries.now))) c.in_ok-write_line.ensures.all c.in_err-write_setup.ensures.front)

pub returns-in_err-write_entries-clause-front : goal.returns-in_err-write_entries-clause-front
unfolding written_text
returns-in_err-write_entries-clause-front g c =
    at_err _ (in_third (line_text header_fields) (line_text (setup_fields c.args.setup.now)) (entries_text c.args.entries.now) (line_text (end_fields (length c.args.entries.now))) c.in_ok-write_line.ensures.all c.in_ok-write_setup.ensures.all c.in_err-write_entries.ensures.front)

pub returns-clause-all : goal.returns-clause-all
unfolding written_text
returns-clause-all g c =
    ok_map c.write_line-2.result c.write_line-2.ensures.all (λ last. all_four (line_text header_fields) (line_text (setup_fields c.args.setup.now)) (entries_text c.args.entries.now) (line_text (end_fields (length c.args.entries.now))) c.in_ok-write_line.ensures.all c.in_ok-write_setup.ensures.all c.in_ok-write_entries.ensures.all last)

pub returns-clause-front : goal.returns-clause-front
unfolding written_text
returns-clause-front g c =
    err_map c.write_line-2.result c.write_line-2.ensures.front (λ front. in_fourth (line_text header_fields) (line_text (setup_fields c.args.setup.now)) (entries_text c.args.entries.now) (line_text (end_fields (length c.args.entries.now))) c.in_ok-write_line.ensures.all c.in_ok-write_setup.ensures.all c.in_ok-write_entries.ensures.all front)
