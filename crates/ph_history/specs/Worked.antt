-- A history worked out: one create, and its text.
use Rattle.std.specs.Prelude.{ℕ, List, [], ◌∷◌, codes, Some, None, false}
use Rattle.ph_book.specs.declared.acts.Deed.TheVariants as deed
use Rattle.ph_history.specs.Text.{History}

-- a create of 20.00 US dollars by caller 0, under the key that the setup has
abbrev pub created : History
created = record {
  setup = record { key = codes "sk_test_payhost"; opened = 1700000000; entries = 200000; weight = 536870912 };
  entries = record {
    caller = 0;
    deed = deed.Call (record {
      method = codes "POST";
      path = codes "/v1/payment_intents";
      query = None;
      auth = Some (codes "sk_test_payhost");
      key = None;
      account = None;
      body = codes "amount=2000&currency=usd";
      close = false;
    });
  } ∷ [];
}

-- its text: four lines, each with its LF
abbrev pub created_text : List ℕ
created_text = codes "payhost-history 1\nsetup =736b5f746573745f706179686f7374 1700000000 200000 536870912\ne 0 call =504f5354 =2f76312f7061796d656e745f696e74656e7473 - =736b5f746573745f706179686f7374 - - 0 =616d6f756e743d323030302663757272656e63793d757364\nend 1\n"
