-- The opening moment is one that a clock shows.
use Rattle.std.proofs.Common.{◌≡◌, ℕ, ◌≤◌, Bool, true, false, ◌&&◌, cond, nat_le, List, Option, Some, None, refl, arith}
use Rattle.std.specs.Option.{unwrap_or, option_and_then}
use Rattle.std.proofs.lemmas.Bool.Decides.{nat_tests}
use Rattle.ph_base.specs.Numbers.{number_in}
use Rattle.ph_items.specs.Clocks.{clock_limit}
use Rattle.ph_book.specs.Legal.{IsLegal}
use Rattle.ph_host.specs.Options.{if_between, moment_in}
use Rattle.ph_host.specs.Runs.{new_book}
use Rattle.ph_host.specs.Setups.{given_in}
use Rattle.ph_host.specs.declared.option_names.OptionName.TheVariants.{Clock}

and_right : (a b : Bool) → (a && b) ≡ true → b ≡ true
and_right true b e = e
and_right false b e = absurd (cc)

shown : (o : Option ℕ) → unwrap_or (if_between 0 clock_limit o) 1700000000 ≤ clock_limit
shown None = omega arith
shown (Some moment) = at (nat_le 0 moment && nat_le moment clock_limit) refl
  where
    at : (b : Bool) → (nat_le 0 moment && nat_le moment clock_limit) ≡ b → unwrap_or (cond b (Some moment) None) 1700000000 ≤ clock_limit
    at true h = let below : nat_le moment clock_limit ≡ true = and_right (nat_le 0 moment) (nat_le moment clock_limit) h in grind (arith, nat_tests)
    at false h = omega arith

opened_shown : (o : Option (List ℕ)) → unwrap_or (option_and_then moment_in o) 1700000000 ≤ clock_limit
opened_shown None = omega arith
opened_shown (Some text) = shown (number_in text)

-- a book without entries is legal
pub new_legal : (words : List (List ℕ)) → IsLegal (new_book words).setup (new_book words).history
new_legal words = record { opened = opened_shown (given_in Clock words); allowed = tt }
