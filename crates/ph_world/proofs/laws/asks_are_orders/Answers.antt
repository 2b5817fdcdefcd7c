use Rattle.ph_world.proofs.LawLemmas.{asks_are_orders}
use Rattle.ph_world.proofs.laws.asks_are_orders.Goals as goal

pub returns : goal.returns
returns c = asks_are_orders
