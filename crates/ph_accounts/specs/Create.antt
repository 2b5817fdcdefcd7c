-- The create of a connected account.
use Rattle.std.specs.Prelude.{ℕ, ◌+◌, ◌==◌, if◌then◌else◌, List, unwrap_or}
use Rattle.ph_errors.specs.Table.{error_of, PlatformOnly}
use Rattle.ph_calls.specs.declared.call.CreateAccount.{CreateAccount}
use Rattle.ph_facts.specs.Outcomes.{Outcome, Refuses, Adds}
use Rattle.ph_facts.specs.Touches.{Untouched}
use Rattle.ph_items.specs.declared.accounts.Account.{Account}
use Rattle.ph_items.specs.declared.accounts.AccountType.TheVariants as type
use Rattle.ph_items.specs.declared.items.Item.TheVariants as item
use Rattle.ph_items.specs.Accounts.{platform}
use Rattle.ph_kinds.specs.Kept.{first_metadata}
use Rattle.ph_rows.specs.declared.rows.Row.{Row}
use Rattle.ph_rows.specs.Batches.{BatchState, last_place, with_row}

-- the first version of a connected account: each field from the call, or its default
abbrev pub new_account : CreateAccount → Account
new_account call = record {
  sort = unwrap_or call.sort type.Standard;
  email = call.email;
  metadata = first_metadata call.metadata;
}

-- the batch with a new account, which has the next place as its number and belongs to the platform; no event tells of it
abbrev pub with_account : CreateAccount → BatchState → BatchState
with_account call batch = with_row batch (last_place batch + 1) platform (item.Account (new_account call))

-- the create by an account: only the platform makes connected accounts
abbrev pub create_outcome : List Row → ℕ → CreateAccount → BatchState → Outcome
create_outcome rows account call batch =
    if account == platform then Adds Untouched (last_place batch + 1) (with_account call batch)
    else Refuses (error_of PlatformOnly)
