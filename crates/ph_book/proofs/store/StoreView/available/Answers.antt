use Rattle.std.proofs.Common.{true, ◌∙◌, w64}
use Rattle.std.proofs.lemmas.Int.{to_z-of_z}
use Rattle.ph_book.proofs.StoreLemmas.{ledger_balance}
use Rattle.ph_book.proofs.store.StoreView.available.Goals as goal

pub returns : goal.returns
returns c =
    to_z-of_z w64 c.available.result (record { sfits = c.available.type_inv })
    ∙ ledger_balance true c.args.account c.args.currency c.self.inside.view c.self.inside.ledger c.args.self.now c.available.result c.self.invariant c.self.view_is c.available.ensures
