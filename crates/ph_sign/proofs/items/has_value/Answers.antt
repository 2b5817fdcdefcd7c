use Rattle.std.proofs.Common.{false, ◌∙◌, rules}
use Rattle.std.specs.List.{slice_split}
use Rattle.std.specs.Option.{option_map_or}
use Rattle.std.specs.Str.{bytes_eq}
use Rattle.std.proofs.lemmas.Iterator.Search.{any_from_yields_List}
use Rattle.std.proofs.lemmas.Iterator.Splits.{YieldsList-from_slice_split}
use borrow.Author.Tests.{tests}
use Rattle.ph_sign.specs.Verdicts.{is_comma, value_in}
use Rattle.ph_sign.proofs.ItemLemmas.{list_any-filter_map}
use Rattle.ph_sign.proofs.items.has_value.Goals as goal

pub returns : goal.returns
returns c =
    any_from_yields_List (λ item. option_map_or (λ text. bytes_eq text c.args.sought.now) (value_in c.args.name.now item) false)
    _ _ _ c.any.ensures.ran
    (YieldsList-from_slice_split _ is_comma c.args.header.now c.split.ensures.rest c.split.ensures.done c.split.ensures.closure
    (λ x b q k. search (rules, tests)))
    (λ x b q k. search (rules, tests))
    ∙ list_any-filter_map (λ text. bytes_eq text c.args.sought.now) (value_in c.args.name.now)
    (slice_split is_comma c.args.header.now)
