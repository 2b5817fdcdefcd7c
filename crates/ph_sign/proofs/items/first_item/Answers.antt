use Rattle.std.proofs.Common.{rules}
use Rattle.std.specs.Prelude.{is_some}
use Rattle.std.proofs.lemmas.Iterator.Search.{find_from_yields_List}
use Rattle.std.proofs.lemmas.Iterator.Splits.{YieldsList-from_slice_split}
use borrow.Author.Tests.{tests}
use Rattle.ph_sign.specs.Verdicts.{is_comma, value_in}
use Rattle.ph_sign.proofs.items.first_item.Goals as goal

pub returns : goal.returns
returns c =
    find_from_yields_List (λ item. is_some (value_in c.args.name.now item)) _ _ c.find.result c.find.ensures.ran
    (YieldsList-from_slice_split _ is_comma c.args.header.now c.split.ensures.rest c.split.ensures.done c.split.ensures.closure
    (λ x b q k. search (rules, tests)))
    (λ x b q k. search (rules, tests))
