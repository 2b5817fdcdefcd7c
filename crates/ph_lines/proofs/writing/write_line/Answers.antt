use Rattle.std.proofs.Common.{◌∷◌, ◌++◌, [], refl, sym, ap, ◌∙◌, append_assoc}
use Rattle.ph_io.proofs.DeviceLemmas.{takes_twice}
use Rattle.std.proofs.lemmas.List.{append-nil}
use Rattle.ph_lines.specs.Fields.{spaced}
use Rattle.ph_lines.proofs.WriteLemmas.{at_err, err_map, ok_map, both, front_within, front_first, line_is}
use Rattle.ph_lines.proofs.writing.write_line.Goals as goal

pub returns-in_err-write_all-clause-front : goal.returns-in_err-write_all-clause-front
returns-in_err-write_all-clause-front g c =
    at_err _ (front_first (spaced c.args.fields.now ++ 10 ∷ []) c.in_err-write_all.ensures.front
    (sym (append_assoc c.args.word.now (spaced c.args.fields.now) (10 ∷ [])) ∙ line_is c.args.word.now c.args.fields.now))

pub returns-in_err-write_fields-clause-front : goal.returns-in_err-write_fields-clause-front
returns-in_err-write_fields-clause-front g c =
    at_err _ (front_within (10 ∷ []) c.in_ok-write_all.ensures.all c.in_err-write_fields.ensures.front (line_is c.args.word.now c.args.fields.now))

pub returns-clause-all : goal.returns-clause-all
returns-clause-all g c =
    ok_map _ c.write_all-2.ensures.all (λ last. both (takes_twice c.in_ok-write_all.ensures.all c.in_ok-write_fields.ensures.all) last (line_is c.args.word.now c.args.fields.now))

pub returns-clause-front : goal.returns-clause-front
returns-clause-front g c =
    err_map _ c.write_all-2.ensures.front (λ front. front_within [] (takes_twice c.in_ok-write_all.ensures.all c.in_ok-write_fields.ensures.all) front
    (append-nil _ ∙ line_is c.args.word.now c.args.fields.now))
