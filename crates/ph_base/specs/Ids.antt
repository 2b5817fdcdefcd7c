-- Ids: the prefix of a kind, and sixteen digits.
use Rattle.std.specs.Prelude.{ℕ, List, ◌++◌, codes}
use Rattle.ph_base.specs.declared.ids.Kind.{Kind}
use Rattle.ph_base.specs.declared.ids.Kind.TheVariants.{Intent, Attempt, Charge, Payment, Refund, Dispute, Transfer, Reversal, Fee, FeeRefund, Txn, Account, Event, Endpoint, Delivery, Payout}
use Rattle.ph_base.specs.declared.ids.Id.{Id}
use Rattle.ph_base.specs.Numbers.{padded}

-- what the ids of a kind begin with
abbrev pub prefix_of : Kind → List ℕ
prefix_of Intent = codes "pi_"
prefix_of Attempt = codes "at_"
prefix_of Charge = codes "ch_"
prefix_of Payment = codes "py_"
prefix_of Refund = codes "re_"
prefix_of Dispute = codes "dp_"
prefix_of Transfer = codes "tr_"
prefix_of Reversal = codes "trr_"
prefix_of Fee = codes "fee_"
prefix_of FeeRefund = codes "fr_"
prefix_of Txn = codes "txn_"
prefix_of Account = codes "acct_"
prefix_of Event = codes "evt_"
prefix_of Endpoint = codes "we_"
prefix_of Delivery = codes "dl_"
prefix_of Payout = codes "po_"

-- the printed id
abbrev pub id_text : Id → List ℕ
id_text i = prefix_of i.kind ++ padded 16 i.number
