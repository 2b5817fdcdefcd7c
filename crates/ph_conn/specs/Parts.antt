-- The parts of a session: each is a request and what followed its call.
use Rattle.std.specs.Prelude.{◌≡◌, ◌≢◌, ℕ, ◌+◌, Bool, true, false, List, [], ◌∷◌, ◌++◌, length, map, Option, Some, None}
use Rattle.std.specs.List.{flat_map}
use Rattle.ph_base.specs.declared.acquirer.Ruling.{Ruling}
use Rattle.ph_base.specs.declared.acquirer.Why.{Why}
use Rattle.ph_base.specs.declared.acquirer.Why.TheVariants as why
use Rattle.ph_items.specs.declared.orders.Order.{Order}
use Rattle.ph_lock.specs.Histories.{StartsWith}
use Rattle.ph_http.specs.declared.message.Raw.{Raw}
use Rattle.ph_http.specs.declared.message.Reply.{Reply}
use Rattle.ph_book.specs.declared.acts.Deed.TheVariants as deed
use Rattle.ph_book.specs.declared.acts.Entry.{Entry}
use Rattle.ph_book.specs.declared.hosted.Kept.{Kept}
use Rattle.ph_book.specs.declared.hosted.Kept.TheVariants as kept
use Rattle.ph_book.specs.declared.setup.Setup.{Setup}
use Rattle.ph_book.specs.Answers.{is_ruled}
use Rattle.ph_book.specs.Entries.{call_entry}
use Rattle.ph_book.specs.Replies.{Said, Replies, Waits, Silence, park_reply}
use Rattle.ph_bank.specs.declared.asking.Ask.{Ask}
use Rattle.ph_bank.specs.declared.driving.Driven.{Driven}
use Rattle.ph_bank.specs.declared.driving.Driven.TheVariants as driven
use Rattle.ph_bank.specs.Drives.{EndsWith, EndsDecided, waits}
use Rattle.ph_bank.specs.Links.{Link}
use Rattle.ph_conn.specs.Fronts.{Filed, said_behind}

-- how the run of a call ended: its attempt was settled by a ruling, or it was given up for this reason
pub data Ending : Type 0 where
  Settled : Ruling → Ending
  GivenUp : Why → Ending

-- what a drive did: it was granted so many polls, made this last ask, and ended so
pub record Drive : Type 0 where
  pub grants : ℕ
  pub last : List Ask
  pub driven : Driven

-- the run of a call that waited for an order: its drive, where it was driven; the history before its end, the ending that was entered, and whether that is kept
pub record Run : Type 0 where
  pub order : Order
  pub drive : Option Drive
  pub before : List Filed
  pub ending : Ending
  pub kept : Kept

-- a request: the history before its call, whether that is kept, and the run of it, where it waited
pub record Part : Type 0 where
  pub raw : Raw
  pub before : List Filed
  pub kept : Kept
  pub run : Option Run

-- the requests of parts
abbrev pub requests_of : List Part → List Raw
requests_of parts = map (λ part. part.raw) parts

-- ---- entries

-- the place of the entry that comes behind a history
abbrev pub place_behind : List Filed → ℕ
place_behind before = length before + 1

-- the entry that ends the run of this number
abbrev pub end_entry : ℕ → ℕ → Ending → Entry
end_entry caller run (Settled ruling) = record { caller = caller; deed = deed.Finish run ruling }
end_entry caller run (GivenUp reason) = record { caller = caller; deed = deed.Park run reason }

-- the call of a part, as it is filed
abbrev pub call_filed : ℕ → Part → Filed
call_filed caller part = record { entry = call_entry caller part.raw; kept = part.kept }

-- the end of the run that a place began, as it is filed
abbrev pub end_filed : ℕ → ℕ → Run → Filed
end_filed caller place run = record { entry = end_entry caller place run.ending; kept = run.kept }

-- what is entered behind a call with this place: where it waited, the end of the run with that number, with a place of its own
abbrev pub ends_at : ℕ → ℕ → Option Run → List (ℕ × Filed)
ends_at caller place None = []
ends_at caller place (Some run) = (place_behind run.before, end_filed caller place run) ∷ []

-- the entries of a part with their places
abbrev pub entries_of : ℕ → Part → List (ℕ × Filed)
entries_of caller part = (place_behind part.before, call_filed caller part) ∷ ends_at caller (place_behind part.before) part.run

-- the entries of parts with their places
abbrev pub mine_of : ℕ → List Part → List (ℕ × Filed)
mine_of caller parts = flat_map (entries_of caller) parts

-- ---- where they stand

-- the history up to and with the call of a part
abbrev pub called : ℕ → Part → List Filed
called caller part = part.before ++ call_filed caller part ∷ []

-- the history up to and with the end of a run that a place began, behind the call
abbrev pub ended : ℕ → ℕ → List Filed → Option Run → List Filed
ended caller place call None = call
ended caller place call (Some run) = run.before ++ end_filed caller place run ∷ []

-- the history up to and with the last entry of a part
abbrev pub behind : ℕ → Part → List Filed
behind caller part = ended caller (place_behind part.before) (called caller part) part.run

-- the history before the end of a run begins with that up to the call
abbrev pub EndFollows : List Filed → Option Run → Type 0
EndFollows call None = Unit {0}
EndFollows call (Some run) = StartsWith run.before call

-- the part stands behind the first history
abbrev pub Stands : ℕ → List Filed → Part → Type 0
Stands caller first part = StartsWith part.before first × EndFollows (called caller part) part.run

-- the parts stand one behind another in the last history, the first of them behind the first: between their entries and behind them others may stand
abbrev pub AllStand : ℕ → List Filed → List Filed → List Part → Type 0
AllStand caller first last [] = StartsWith last first
AllStand caller first last (part ∷ parts) = Stands caller first part × AllStand caller (behind caller part) last parts

-- ---- what follows a call

-- a drive ends its run so: a ruling is entered, or for want of memory for it the run is given up; a link that failed and a patience that ended give it up for this reason
abbrev pub EndsBy : Driven → Ending → Type 0
EndsBy (driven.Ready ruling) (Settled entered) = entered ≡ ruling
EndsBy (driven.Ready ruling) (GivenUp reason) = reason ≡ why.NoMemory
EndsBy driven.Failed (Settled entered) = ⊥
EndsBy driven.Failed (GivenUp reason) = reason ≡ why.Failed
EndsBy driven.GaveUp (Settled entered) = ⊥
EndsBy driven.GaveUp (GivenUp reason) = reason ≡ why.Pending

-- a run whose call is kept is driven and ended by its drive; one whose call isn't is never driven, but given up for that
abbrev pub EndsAs : Order → Kept → Option Drive → Ending → Type 0
EndsAs order kept.Yes (Some drive) ending = EndsWith order drive.driven drive.last × EndsBy drive.driven ending
EndsAs order kept.Yes None ending = ⊥
EndsAs order kept.Failed (Some drive) ending = ⊥
EndsAs order kept.Failed None ending = ending ≡ GivenUp why.Failed
EndsAs order kept.NoMemory (Some drive) ending = ⊥
EndsAs order kept.NoMemory None ending = ending ≡ GivenUp why.NoMemory

-- the run of a call that is kept so drives the order that the call waits for, or is given up
pub record IsRun (order : Order) (mark : Kept) (run : Run) : Type 0 where
  pub of : run.order ≡ order
  pub ends : EndsAs order mark run.drive run.ending

-- what followed a call to which this was said: a run where it waits, and else nothing
abbrev pub Follows : Said → Kept → Option Run → Type 0
Follows (Waits order) mark (Some run) = IsRun order mark run
Follows (Waits order) mark None = ⊥
Follows (Replies reply) mark (Some run) = ⊥
Follows (Replies reply) mark None = Unit {0}
Follows Silence mark followed = ⊥

-- what followed the call of a part, by what was said to it where it stands
abbrev pub PartFollows : Setup → ℕ → Part → Type 0
PartFollows setup caller part = Follows (said_behind setup part.before (call_entry caller part.raw)) part.kept part.run

-- what followed the call of each of these parts
abbrev pub AllFollow : Setup → ℕ → List Part → Type 0
AllFollow setup caller [] = Unit {0}
AllFollow setup caller (part ∷ parts) = PartFollows setup caller part × AllFollow setup caller parts

-- ---- replies

-- the reply to an ending: to a ruling, the payment intent or the decline; to a run that was given up, that of the reason, and none but these has the status 500
abbrev pub IsReplyOf : Ending → Reply → Type 0
IsReplyOf (Settled ruling) reply = is_ruled reply.status ≡ true
IsReplyOf (GivenUp reason) reply = reply ≡ park_reply reason

-- the reply to a request: where its call waited, that to the end of its run
abbrev pub IsReplyBy : Option Run → Reply → Type 0
IsReplyBy None reply = reply.status ≢ 500
IsReplyBy (Some run) reply = IsReplyOf run.ending reply

-- what is said to the last entry of a part, where it stands: behind this history its call, which has this place
abbrev pub last_said : Setup → ℕ → ℕ → List Filed → Raw → Option Run → Said
last_said setup caller place before raw None = said_behind setup before (call_entry caller raw)
last_said setup caller place before raw (Some run) = said_behind setup run.before (end_entry caller place run.ending)

-- the reply to a part is what is said to its last entry, where that stands
pub record IsReplyTo (setup : Setup) (caller : ℕ) (part : Part) (reply : Reply) : Type 0 where
  pub said : last_said setup caller (place_behind part.before) part.before part.raw part.run ≡ Replies reply
  pub replied : IsReplyBy part.run reply

-- these are the replies to these parts, one to each
abbrev pub AreReplies : Setup → ℕ → List Part → List Reply → Type 0
AreReplies setup caller [] [] = Unit {0}
AreReplies setup caller [] (reply ∷ replies) = ⊥
AreReplies setup caller (part ∷ parts) [] = ⊥
AreReplies setup caller (part ∷ parts) (reply ∷ replies) = IsReplyTo setup caller part reply × AreReplies setup caller parts replies

-- none of these replies is to a run that was given up while the acquirer's ruling was pending, or since the link failed
abbrev pub AreNoParks : List Reply → Type 0
AreNoParks [] = Unit {0}
AreNoParks (reply ∷ replies) = (reply.status ≢ 500) × AreNoParks replies

-- ---- asks

-- the asks of a drive for an order: one for each poll that was granted, pending, and the last one
abbrev pub asks_by : Order → Option Drive → List Ask
asks_by order None = []
asks_by order (Some drive) = waits order drive.grants ++ drive.last

-- the asks of a run
abbrev pub asks_in : Option Run → List Ask
asks_in None = []
asks_in (Some run) = asks_by run.order run.drive

-- the asks of parts
abbrev pub asks_of : List Part → List Ask
asks_of parts = flat_map (λ part. asks_in part.run) parts

-- the link's decision on the order of a drive is the ruling that ended it, where one did
abbrev pub DriveDecided : Link → Order → Option Drive → Type 0
DriveDecided link order None = Unit {0}
DriveDecided link order (Some drive) = EndsDecided link order drive.driven

-- the same of a run
abbrev pub RunDecided : Link → Option Run → Type 0
RunDecided link None = Unit {0}
RunDecided link (Some run) = DriveDecided link run.order run.drive

-- the same of the run of each of these parts
abbrev pub AllDecided : Link → List Part → Type 0
AllDecided link [] = Unit {0}
AllDecided link (part ∷ parts) = RunDecided link part.run × AllDecided link parts

-- ---- counts

-- one for a run that was given up since the link failed
abbrev pub failures_in : Ending → ℕ
failures_in (Settled ruling) = 0
failures_in (GivenUp why.Pending) = 0
failures_in (GivenUp why.Failed) = 1
failures_in (GivenUp why.NoMemory) = 0

-- one for a run that was given up while the acquirer's ruling was pending
abbrev pub refusals_in : Ending → ℕ
refusals_in (Settled ruling) = 0
refusals_in (GivenUp why.Pending) = 1
refusals_in (GivenUp why.Failed) = 0
refusals_in (GivenUp why.NoMemory) = 0

-- a number of a run that was driven, where there is one
abbrev pub if_driven : (Drive → Ending → ℕ) → Option Drive → Ending → ℕ
if_driven number None ending = 0
if_driven number (Some drive) ending = number drive ending

abbrev pub in_run : (Drive → Ending → ℕ) → Option Run → ℕ
in_run number None = 0
in_run number (Some run) = if_driven number run.drive run.ending

-- the sum of a number over the runs of parts that were driven
abbrev pub over_runs : (Drive → Ending → ℕ) → List Part → ℕ
over_runs number [] = 0
over_runs number (part ∷ parts) = in_run number part.run + over_runs number parts

-- how many runs that were driven were given up since the link failed, and how many while the ruling was pending; how many polls were granted; how many runs were driven
abbrev pub failures : Drive → Ending → ℕ
failures drive ending = failures_in ending

abbrev pub refusals : Drive → Ending → ℕ
refusals drive ending = refusals_in ending

abbrev pub grants : Drive → Ending → ℕ
grants drive ending = drive.grants

abbrev pub drives : Drive → Ending → ℕ
drives drive ending = 1

-- ---- want of memory, and entries that aren't kept

abbrev pub is_out_in : Ending → Bool
is_out_in (Settled ruling) = false
is_out_in (GivenUp why.Pending) = false
is_out_in (GivenUp why.Failed) = false
is_out_in (GivenUp why.NoMemory) = true

-- a run was given up for want of memory
abbrev pub is_out : Option Run → Bool
is_out None = false
is_out (Some run) = is_out_in run.ending

-- the mark of the end of a run, where there is one
abbrev pub end_mark : Option Run → Kept
end_mark None = kept.Yes
end_mark (Some run) = run.kept

-- of the marks of a call and of the end of its run the first that isn't Yes, where there is one
abbrev pub first_mark : Kept → Kept → Kept
first_mark kept.Yes mark = mark
first_mark kept.Failed mark = kept.Failed
first_mark kept.NoMemory mark = kept.NoMemory

abbrev pub mark_of : Part → Kept
mark_of part = first_mark part.kept (end_mark part.run)

-- the entries of a part are kept, and its run wasn't given up for want of memory: the session may go on
pub record IsWell (part : Part) : Type 0 where
  pub marked : mark_of part ≡ kept.Yes
  pub had_memory : is_out part.run ≡ false

abbrev pub AllWell : List Part → Type 0
AllWell [] = Unit {0}
AllWell (part ∷ parts) = IsWell part × AllWell parts

-- each entry of these parts is kept
abbrev pub AllKept : List Part → Type 0
AllKept [] = Unit {0}
AllKept (part ∷ parts) = (mark_of part ≡ kept.Yes) × AllKept parts

-- of these parts the last is this one, and the session might have gone on behind each other
pub record LastIs (parts : List Part) (last : Part) : Type 0 where
  pub before : List Part
  pub all : parts ≡ before ++ last ∷ []
  pub well : AllWell before
