-- What holds of the rows of every legal history.
use Rattle.std.specs.Prelude.{List}
use Rattle.ph_rows.specs.declared.rows.Row.{Row}
use Rattle.ph_rows.specs.Views.{ViewState}
use Rattle.ph_facts.specs.Amounts.{captured, refunded, transferred, reversed, given_back, moved}
use Rattle.ph_facts.specs.Held.{AreHeld}
use Rattle.ph_facts.specs.Order.{IsInOrder}
use Rattle.ph_facts.specs.Tallies.{SaySums}

-- what holds of the rows after each entry, though not between the rows of one
pub record KeepLaws (rows : List Row) : Type 0 where
  -- what was captured of each charge is the sum of its transactions
  pub captured : SaySums captured rows
  -- what was refunded of each charge is the sum of its refunds
  pub refunded : SaySums refunded rows
  -- what was transferred of each charge is the sum of the transfers that are drawn on it
  pub transferred : SaySums transferred rows
  -- what was reversed of each transfer is the sum of its reversals
  pub reversed : SaySums reversed rows
  -- what was given back of each application fee is the sum of its refunds
  pub given_back : SaySums given_back rows
  -- each dispute has moved what its status says
  pub moved : SaySums moved rows
  -- what a payment intent that waits for its capture may capture is held by its charge
  pub held : AreHeld rows

-- what holds of the rows and the time of every legal history
pub record IsSound (state : ViewState) : Type 0 where
  -- each row is one that may stand where it stands
  pub order : IsInOrder state
  -- and after each entry the rows keep the laws
  pub laws : KeepLaws state.rows
