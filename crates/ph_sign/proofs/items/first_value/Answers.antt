use Rattle.std.proofs.Common.{ap, ◌∙◌}
use Rattle.std.specs.List.{slice_split}
use Rattle.std.specs.Option.{option_and_then}
use Rattle.ph_sign.specs.Verdicts.{is_comma, value_in}
use Rattle.ph_sign.proofs.ItemLemmas.{first_of-filter_map}
use Rattle.ph_sign.proofs.items.first_value.Goals as goal

pub returns-in-Some : goal.returns-in-Some
returns-in-Some c =
    c.value.ensures ∙ ap (option_and_then (value_in c.args.name.now)) c.in-Some.ensures
    ∙ first_of-filter_map (value_in c.args.name.now) (slice_split is_comma c.args.header.now)

pub returns-in-None : goal.returns-in-None
returns-in-None c =
    ap (option_and_then (value_in c.args.name.now)) c.in-None.ensures
    ∙ first_of-filter_map (value_in c.args.name.now) (slice_split is_comma c.args.header.now)
