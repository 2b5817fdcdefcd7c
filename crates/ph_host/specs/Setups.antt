-- The setup that the words of the command line name.
use Rattle.std.specs.Prelude.{ℕ, List, drop, codes, Option, unwrap_or, option_and_then}
use Rattle.ph_book.specs.declared.setup.Setup.{Setup}
use Rattle.ph_host.specs.Options.{given, moment_in, word_of}
use Rattle.ph_host.specs.declared.option_names.OptionName.{OptionName}
use Rattle.ph_host.specs.declared.option_names.OptionName.TheVariants.{Clock, Key}

-- the value that the words give for the option, behind the command
abbrev pub given_in : OptionName → List (List ℕ) → Option (List ℕ)
given_in name words = given (word_of name) (drop 1 words)

-- the API key: that of the words, or `sk_test_payhost`
abbrev pub key_of : List (List ℕ) → List ℕ
key_of words = unwrap_or (given_in Key words) (codes "sk_test_payhost")

-- the opening moment: that of the words, or 1700000000
abbrev pub opened_of : List (List ℕ) → ℕ
opened_of words = unwrap_or (option_and_then moment_in (given_in Clock words)) 1700000000

-- the program's setup, with 200,000 entries and a weight of 536,870,912
abbrev pub setup_of : List (List ℕ) → Setup
setup_of words = record { key = key_of words; opened = opened_of words; entries = 200000; weight = 536870912 }
