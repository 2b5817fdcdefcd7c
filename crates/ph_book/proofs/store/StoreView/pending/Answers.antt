use Rattle.std.proofs.Common.{false, ◌∙◌, w64}
use Rattle.std.proofs.lemmas.Int.{to_z-of_z}
use Rattle.ph_book.proofs.StoreLemmas.{ledger_balance}
use Rattle.ph_book.proofs.store.StoreView.pending.Goals as goal

pub returns : goal.returns
returns c =
    to_z-of_z w64 c.pending.result (record { sfits = c.pending.type_inv })
    ∙ ledger_balance false c.args.account c.args.currency c.self.inside.view c.self.inside.ledger c.args.self.now c.pending.result c.self.invariant c.self.view_is c.pending.ensures
