-- Reading the lines of a history's text, field by field.
use Rattle.std.specs.Prelude.{◌≡◌, ℕ, ◌<◌, ◌^◌, nat_lt, List, [], ◌∷◌, codes, if◌then◌else◌, Option, Some, None, IfSome}
use Rattle.std.specs.Str.{bytes_eq}
use Rattle.hex.specs.Hex.{IsBytes}
use Rattle.ph_base.specs.declared.acquirer.Decline.TheVariants as decline
use Rattle.ph_base.specs.declared.acquirer.Ruling.{Ruling}
use Rattle.ph_base.specs.declared.acquirer.Ruling.TheVariants as ruling
use Rattle.ph_base.specs.declared.acquirer.Why.{Why}
use Rattle.ph_base.specs.declared.acquirer.Why.TheVariants as why
use Rattle.ph_http.specs.declared.message.Raw.{Raw}
use Rattle.ph_book.specs.declared.acts.Deed.{Deed}
use Rattle.ph_book.specs.declared.acts.Deed.TheVariants as deed
use Rattle.ph_book.specs.declared.acts.Entry.{Entry}
use Rattle.ph_book.specs.declared.setup.Setup.{Setup}
use Rattle.ph_lines.specs.Reading.{◌>>=◌, all_read, by_word, bytes_at, field_at, flag_at, number_at, octets_at}
use Rattle.ph_history.specs.Text.{History}

-- the ruling of a word
abbrev pub ruling_of : List ℕ → Option Ruling
ruling_of word =
    if bytes_eq word (codes "approved") then Some ruling.Approved
    else if bytes_eq word (codes "declined") then Some (ruling.Declined decline.Generic)
    else if bytes_eq word (codes "nofunds") then Some (ruling.Declined decline.NoFunds)
    else if bytes_eq word (codes "challenge") then Some ruling.Challenge
    else None

-- the reason of a word
abbrev pub why_of : List ℕ → Option Why
why_of word =
    if bytes_eq word (codes "pending") then Some why.Pending
    else if bytes_eq word (codes "failed") then Some why.Failed
    else if bytes_eq word (codes "nomemory") then Some why.NoMemory
    else None

-- a request, and the fields behind it
unfoldable pub raw_at : List (List ℕ) → Option (Raw × List (List ℕ))
raw_at words = do
  method ← bytes_at words
  path ← bytes_at method.1
  query ← octets_at path.1
  auth ← octets_at query.1
  key ← octets_at auth.1
  account ← octets_at key.1
  close ← flag_at account.1
  body ← bytes_at close.1
  Some (record { method = method.0; path = path.0; query = query.0; auth = auth.0; key = key.0; account = account.0; body = body.0; close = close.0 }, body.1)

-- the deed of each kind, of the fields behind its word
unfoldable pub call_at : List (List ℕ) → Option (Deed × List (List ℕ))
call_at words = do
  raw ← raw_at words
  Some (deed.Call raw.0, raw.1)

unfoldable pub finish_at : List (List ℕ) → Option (Deed × List (List ℕ))
finish_at words = do
  run ← number_at words
  ruling ← by_word ruling_of run.1
  Some (deed.Finish run.0 ruling.0, ruling.1)

unfoldable pub park_at : List (List ℕ) → Option (Deed × List (List ℕ))
park_at words = do
  run ← number_at words
  why ← by_word why_of run.1
  Some (deed.Park run.0 why.0, why.1)

unfoldable pub tick_at : List (List ℕ) → Option (Deed × List (List ℕ))
tick_at words = do
  moment ← number_at words
  Some (deed.Tick moment.0, moment.1)

-- the deed of this kind
unfoldable pub deed_by : List ℕ → List (List ℕ) → Option (Deed × List (List ℕ))
deed_by kind words =
    if bytes_eq kind (codes "call") then call_at words
    else if bytes_eq kind (codes "finish") then finish_at words
    else if bytes_eq kind (codes "park") then park_at words
    else if bytes_eq kind (codes "resume") then Some (deed.Resume, words)
    else if bytes_eq kind (codes "tick") then tick_at words
    else None

-- the entry of all fields of a line
unfoldable pub entry_in : List (List ℕ) → Option Entry
entry_in words = do
  first ← field_at words
  if bytes_eq first.0 (codes "e") then (number_at first.1 >>= λ caller. field_at caller.1 >>= λ kind. deed_by kind.0 kind.1 >>= λ deed.
      all_read (record { caller = caller.0; deed = deed.0 }, deed.1)) else None

-- the setup of all fields of a line
unfoldable pub setup_in : List (List ℕ) → Option Setup
setup_in words = do
  first ← field_at words
  if bytes_eq first.0 (codes "setup") then (bytes_at first.1 >>= λ key. number_at key.1 >>= λ opened. number_at opened.1 >>= λ entries. number_at entries.1 >>= λ weight.
      if nat_lt entries.0 (2 ^ 32) then all_read (record { key = key.0; opened = opened.0; entries = entries.0; weight = weight.0 }, weight.1) else None) else None

-- the count of all fields of a last line
unfoldable pub end_in : List (List ℕ) → Option ℕ
end_in words = do
  first ← field_at words
  if bytes_eq first.0 (codes "end") then (number_at first.1 >>= λ count. all_read (count.0, count.1)) else None

-- what their types say of a request, of a deed, of an entry and of a setup: bytes are below 256, and numbers fit
pub record FitsRaw (raw : Raw) : Type 0 where
  pub method : IsBytes raw.method
  pub path : IsBytes raw.path
  pub query : IfSome raw.query IsBytes
  pub auth : IfSome raw.auth IsBytes
  pub key : IfSome raw.key IsBytes
  pub account : IfSome raw.account IsBytes
  pub body : IsBytes raw.body

abbrev pub FitsDeed : Deed → Type 0
FitsDeed (deed.Call raw) = FitsRaw raw
FitsDeed (deed.Finish run ruling) = run < 2 ^ 64
FitsDeed (deed.Park run why) = run < 2 ^ 64
FitsDeed deed.Resume = Unit {0}
FitsDeed (deed.Tick moment) = moment < 2 ^ 64

pub record FitsEntry (entry : Entry) : Type 0 where
  pub caller : entry.caller < 2 ^ 64
  pub deed : FitsDeed entry.deed

pub record FitsSetup (setup : Setup) : Type 0 where
  pub key : IsBytes setup.key
  pub opened : setup.opened < 2 ^ 64
  pub entries : setup.entries < 2 ^ 32
  pub weight : setup.weight < 2 ^ 64

abbrev pub AllFit : List Entry → Type 0
AllFit [] = Unit {0}
AllFit (entry ∷ entries) = FitsEntry entry × AllFit entries

-- what its types say of a history
pub record FitsHistory (history : History) : Type 0 where
  pub setup : FitsSetup history.setup
  pub entries : AllFit history.entries
