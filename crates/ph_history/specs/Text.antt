-- The text of a history: its lines, and their fields.
use Rattle.std.specs.Prelude.{ℕ, List, [], ◌∷◌, ◌++◌, length, map, codes, Some}
use Rattle.std.specs.Fmt.{decimal}
use Rattle.ph_base.specs.declared.acquirer.Decline.TheVariants as decline
use Rattle.ph_base.specs.declared.acquirer.Ruling.{Ruling}
use Rattle.ph_base.specs.declared.acquirer.Ruling.TheVariants as ruling
use Rattle.ph_base.specs.declared.acquirer.Why.{Why}
use Rattle.ph_base.specs.declared.acquirer.Why.TheVariants as why
use Rattle.ph_http.specs.declared.message.Raw.{Raw}
use Rattle.ph_book.specs.declared.acts.Deed.{Deed}
use Rattle.ph_book.specs.declared.acts.Deed.TheVariants as deed
use Rattle.ph_book.specs.declared.acts.Entry.{Entry}
use Rattle.ph_book.specs.declared.setup.Setup.{Setup}
use Rattle.ph_lines.specs.Fields.{flag, joined, octets, text_of}

-- what a text tells: the setup of a book, and its entries
pub record History : Type 0 where
  pub setup : Setup
  pub entries : List Entry

-- the word of a ruling
abbrev pub ruling_word : Ruling → List ℕ
ruling_word ruling.Approved = codes "approved"
ruling_word (ruling.Declined decline.Generic) = codes "declined"
ruling_word (ruling.Declined decline.NoFunds) = codes "nofunds"
ruling_word ruling.Challenge = codes "challenge"

-- the word of the reason why a run was given up
abbrev pub why_word : Why → List ℕ
why_word why.Pending = codes "pending"
why_word why.Failed = codes "failed"
why_word why.NoMemory = codes "nomemory"

-- the fields of a request: its method, path, query, credentials, idempotency key and account, whether its session ends, and its body
abbrev pub raw_fields : Raw → List (List ℕ)
raw_fields raw =
    octets (Some raw.method) ∷ octets (Some raw.path) ∷ octets raw.query ∷ octets raw.auth ∷ octets raw.key
    ∷ octets raw.account ∷ flag raw.close ∷ octets (Some raw.body) ∷ []

-- the fields of a deed: the word of its kind, and what it says
abbrev pub deed_fields : Deed → List (List ℕ)
deed_fields (deed.Call raw) = codes "call" ∷ raw_fields raw
deed_fields (deed.Finish run ruling) = codes "finish" ∷ decimal run ∷ ruling_word ruling ∷ []
deed_fields (deed.Park run why) = codes "park" ∷ decimal run ∷ why_word why ∷ []
deed_fields deed.Resume = codes "resume" ∷ []
deed_fields (deed.Tick moment) = codes "tick" ∷ decimal moment ∷ []

-- the fields of an entry
abbrev pub entry_fields : Entry → List (List ℕ)
entry_fields entry = codes "e" ∷ decimal entry.caller ∷ deed_fields entry.deed

-- the fields of a setup: its key, its opening moment, and for how many entries and how much weight there is room
abbrev pub setup_fields : Setup → List (List ℕ)
setup_fields setup =
    codes "setup" ∷ octets (Some setup.key) ∷ decimal setup.opened ∷ decimal setup.entries ∷ decimal setup.weight ∷ []

-- the fields of the first line: the format's name and its number
abbrev pub header_fields : List (List ℕ)
header_fields = codes "payhost-history" ∷ codes "1" ∷ []

-- the fields of the last line: how many entries there are
abbrev pub end_fields : ℕ → List (List ℕ)
end_fields count = codes "end" ∷ decimal count ∷ []

-- the lines, without their LF
unfoldable pub entry_line : Entry → List ℕ
entry_line entry = joined (entry_fields entry)

unfoldable pub setup_line : Setup → List ℕ
setup_line setup = joined (setup_fields setup)

abbrev pub header_line : List ℕ
header_line = codes "payhost-history 1"

unfoldable pub end_line : ℕ → List ℕ
end_line count = joined (end_fields count)

-- the lines of what happened: one for each entry
abbrev pub entry_lines : History → List (List ℕ)
entry_lines history = map entry_line history.entries

-- the lines of a history's text, without their LF
abbrev pub history_lines : History → List (List ℕ)
history_lines history =
    header_line ∷ setup_line history.setup ∷ (entry_lines history ++ end_line (length history.entries) ∷ [])

-- the text of a history
unfoldable pub history_text : History → List ℕ
history_text history = text_of (history_lines history)
