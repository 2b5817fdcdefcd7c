-- The create of a connected account.
use Rattle.std.specs.Prelude.{ℕ, List, Option}
use Rattle.ph_items.specs.declared.accounts.AccountType.{AccountType}
use Rattle.ph_kinds.specs.declared.metadata.Meta.{Meta}
use Rattle.ph_calls.specs.declared.call.CreateAccount.{CreateAccount}

-- the create of an account
abbrev pub create_account : Option AccountType → Option (List ℕ) → Option Meta → CreateAccount
create_account type email metadata = record { sort = type; email = email; metadata = metadata }
