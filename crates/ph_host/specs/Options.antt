-- The options of the command line, and the values that they take.
use Rattle.std.specs.Prelude.{ℕ, Bool, true, false, not, ◌&&◌, nat_le, bytes_eq, if◌then◌else◌, List, [], ◌∷◌, length, take, codes, Option, Some, None, is_some, is_none, find}
use Rattle.std.specs.List.{list_all}
use Rattle.ph_base.specs.Numbers.{number_in}
use Rattle.ph_items.specs.Clocks.{clock_limit}
use Rattle.ph_host.specs.declared.commands.Command.{Command}
use Rattle.ph_host.specs.declared.commands.Command.TheVariants.{Stdio, Serve}
use Rattle.ph_host.specs.declared.option_names.OptionName.{OptionName}
use Rattle.ph_host.specs.declared.option_names.OptionName.TheVariants.{Key, Clock, Patience, Port, Workers, Connections}

-- a byte from `!` to `~`
abbrev pub is_visible : ℕ → Bool
is_visible b = nat_le 33 b && nat_le b 126

-- an API key: 9 to 255 visible bytes, of which the first eight are `sk_test_`
abbrev pub is_api_key : List ℕ → Bool
is_api_key value =
    nat_le 9 (length value) && nat_le (length value) 255 && bytes_eq (take 8 value) (codes "sk_test_")
    && list_all is_visible value

-- so many, where it lies between these two
abbrev pub if_between : ℕ → ℕ → Option ℕ → Option ℕ
if_between least most None = None
if_between least most (Some number) = if nat_le least number && nat_le number most then Some number else None

-- the number that a text is, in decimal, where it lies between these two
abbrev pub number_between : ℕ → ℕ → List ℕ → Option ℕ
number_between least most value = if_between least most (number_in value)

-- the moment that a text is, in seconds since 1970, where a clock shows it
abbrev pub moment_in : List ℕ → Option ℕ
moment_in value = number_between 0 clock_limit value

-- the patience that a text is, in further polls of a drive
abbrev pub patience_in : List ℕ → Option ℕ
patience_in value = number_between 0 1000000 value

-- the port that a text is
abbrev pub port_in : List ℕ → Option ℕ
port_in value = number_between 1 65535 value

-- how many workers a text names
abbrev pub workers_in : List ℕ → Option ℕ
workers_in value = number_between 1 16 value

-- how many connections a text grants each worker
abbrev pub connections_in : List ℕ → Option ℕ
connections_in value = number_between 1 1000000 value

-- how the option is written
abbrev pub word_of : OptionName → List ℕ
word_of Key = codes "--key"
word_of Clock = codes "--clock"
word_of Patience = codes "--patience"
word_of Port = codes "--port"
word_of Workers = codes "--workers"
word_of Connections = codes "--connections"

-- every option
abbrev pub all_names : List OptionName
all_names = Key ∷ Clock ∷ Patience ∷ Port ∷ Workers ∷ Connections ∷ []

-- the option that is written so
unfoldable pub name_of : List ℕ → Option OptionName
name_of word = find (λ name. bytes_eq word (word_of name)) all_names

-- the option takes the value
abbrev pub is_value : OptionName → List ℕ → Bool
is_value Key value = is_api_key value
is_value Clock value = is_some (moment_in value)
is_value Patience value = is_some (patience_in value)
is_value Port value = is_some (port_in value)
is_value Workers value = is_some (workers_in value)
is_value Connections value = is_some (connections_in value)

-- the command is that of a server
abbrev pub is_serve : Command → Bool
is_serve Stdio = false
is_serve Serve = true

-- the command has the option: those of a port are a server's
abbrev pub has : Command → OptionName → Bool
has command Key = true
has command Clock = true
has command Patience = true
has command Port = is_serve command
has command Workers = is_serve command
has command Connections = is_serve command

-- the option, where the command has it
abbrev pub if_had : Command → Option OptionName → Option OptionName
if_had command None = None
if_had command (Some name) = if has command name then Some name else None

-- the command's option that is written so
abbrev pub option_of : Command → List ℕ → Option OptionName
option_of command word = if_had command (name_of word)

-- it is an option, and takes the value
abbrev pub is_value_of : Option OptionName → List ℕ → Bool
is_value_of None value = false
is_value_of (Some name) value = is_value name value

-- the command has an option that is written so, and it takes the value
abbrev pub takes : Command → List ℕ → List ℕ → Bool
takes command word value = is_value_of (option_of command word) value

-- the option that takes no value: the history is to be written
abbrev pub is_history : List ℕ → Bool
is_history word = bytes_eq word (codes "--history")

-- the option that takes no value stands among the words, where each other option stands before its value
abbrev pub asks_history : List (List ℕ) → Bool
asks_history [] = false
asks_history (word ∷ []) = is_history word
asks_history (word ∷ value ∷ words) = if is_history word then true else asks_history words

-- the value that is given for the option that is written so, where each option stands before its value, but the one that takes none
abbrev pub given : List ℕ → List (List ℕ) → Option (List ℕ)
given word [] = None
given word (other ∷ []) = None
given word (other ∷ value ∷ words) =
    if is_history other then given word (value ∷ words)
    else if bytes_eq other word then Some value
    else given word words

-- the option that is written so takes the value, and isn't given again among the words behind it
unfoldable pub is_option : Command → List ℕ → List ℕ → List (List ℕ) → Bool
is_option command word value words = takes command word value && is_none (given word words)

-- the words are options of the command, each before a value that it takes, and none is given twice; the one that takes no value is a server's
abbrev pub are_options : Command → List (List ℕ) → Bool
are_options command [] = true
are_options command (word ∷ []) = is_history word && is_serve command
are_options command (word ∷ value ∷ words) =
    if is_history word then is_serve command && not (asks_history (value ∷ words)) && are_options command (value ∷ words)
    else is_option command word value words && are_options command words
