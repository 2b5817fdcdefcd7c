-- What becomes of a request.
use Rattle.std.specs.Prelude.{◌≡◌, ◌++◌, Bool, true, false, Result, Ok, Err, IsTrue}
use Rattle.ph_base.specs.declared.acquirer.Ruling.{Ruling}
use Rattle.ph_base.specs.declared.acquirer.Why.TheVariants as why
use Rattle.ph_attempts.specs.declared.flights.Flight.{Flight}
use Rattle.ph_lock.specs.Histories.{StartsWith}
use Rattle.ph_bank.specs.declared.driving.Driven.{Driven}
use Rattle.ph_bank.specs.Links.{KeepsDecisions, and_asks}
use Rattle.ph_http.specs.declared.message.Raw.{Raw}
use Rattle.ph_http.specs.declared.message.Reply.{Reply}
use Rattle.ph_http.specs.Replies.{is_status}
use Rattle.ph_book.specs.declared.acts.Act.{Act}
use Rattle.ph_book.specs.declared.acts.Act.TheVariants as act
use Rattle.ph_book.specs.declared.acts.Answer.TheVariants as answer
use Rattle.ph_book.specs.declared.acts.Deed.TheVariants as deed
use Rattle.ph_book.specs.declared.hosted.Kept.{Kept}
use Rattle.ph_book.specs.declared.hosted.Kept.TheVariants as kept
use Rattle.ph_book.specs.Legal.{is_full}
use Rattle.ph_book.specs.Replies.{park_reply}
use Rattle.ph_conn.specs.declared.answers.Called.{Called}
use Rattle.ph_conn.specs.declared.answers.Called.TheVariants as called
use Rattle.ph_conn.specs.declared.answers.Outcome.{Outcome}
use Rattle.ph_conn.specs.declared.answers.Outcome.TheVariants as outcome
use Rattle.ph_conn.specs.declared.endings.TalkError.{TalkError}
use Rattle.ph_conn.specs.declared.endings.TalkError.TheVariants as fault
use Rattle.ph_conn.specs.Means.{Means, Counted}
use Rattle.ph_conn.specs.Fronts.{Known, IsSame, KeepsLive, OnlySaw, Entered, entries_in}
use Rattle.ph_conn.specs.Parts.{Ending, Settled, GivenUp, Part, EndsBy, PartFollows, IsReplyTo, Stands, behind, entries_of, asks_in, RunDecided, in_run, failures, refusals, grants, drives, is_out, is_out_in, mark_of, IsWell}

-- the history has no room for the request
abbrev pub IsFullFor : Known → Raw → Type 0
IsFullFor known raw = IsTrue (is_full known.setup (entries_in known.front) (deed.Call raw))

-- ---- calls

-- the call was entered and replied to, or it waits and has a ticket; or nothing was entered
abbrev pub Calls : Known → Known → Raw → Called → Type 0
Calls old new raw (called.Replied reply mark) = Entered old new (act.Call raw) (answer.Reply reply) mark
Calls old new raw (called.Waiting ticket mark) = Entered old new (act.Call raw) (answer.Wait ticket) mark
Calls old new raw called.Full = OnlySaw old new × IsFullFor new raw
Calls old new raw called.NoMemory = OnlySaw old new

-- ---- the ends of runs

-- the act that ends the run of a ticket so
abbrev pub end_act : Flight → Ending → Act
end_act ticket (Settled ruling) = act.Finish ticket ruling
end_act ticket (GivenUp reason) = act.Park ticket reason

-- the end of a ticket's run was entered, this was replied to it, and it is kept so
abbrev pub Ended : Known → Known → Flight → Ending → Reply → Kept → Type 0
Ended old new ticket ending reply mark = Entered old new (end_act ticket ending) (answer.Reply reply) mark

-- the ruling was entered, or the ticket comes back and nothing was entered
abbrev pub Finishes : Known → Known → Flight → Ruling → Result (Reply × Kept) Flight → Type 0
Finishes old new ticket ruling (Ok replied) = Ended old new ticket (Settled ruling) replied.0 replied.1
Finishes old new ticket ruling (Err back) = (back ≡ ticket) × OnlySaw old new

-- why a session breaks off at a part of which this is the first mark that isn't Yes: for want of memory, where the run was given up for that, and else by the mark
abbrev pub BreaksFor : Bool → Kept → TalkError → Type 0
BreaksFor out kept.Yes why = ⊥
BreaksFor true kept.Failed why = why ≡ fault.NoMemory
BreaksFor false kept.Failed why = why ≡ fault.KeepFault
BreaksFor out kept.NoMemory why = why ≡ fault.NoMemory

-- what a reply that is kept so comes to: it is the reply, or the session breaks off
abbrev pub Comes : Reply → Kept → Outcome → Type 0
Comes reply kept.Yes what = what ≡ outcome.Reply reply
Comes reply kept.Failed what = what ≡ outcome.Unkept fault.KeepFault
Comes reply kept.NoMemory what = what ≡ outcome.Unkept fault.NoMemory

-- the run of a ticket was ended by its drive; for want of memory for the ruling the session's last words are its reply, and where the end isn't kept it has none
abbrev pub Settles : Known → Known → Flight → Driven → Outcome → Type 0
Settles old new ticket driven (outcome.Reply reply) =
    (ending : Ending) × Ended old new ticket ending reply kept.Yes × EndsBy driven ending × (is_out_in ending ≡ false)
Settles old new ticket driven outcome.Parked =
    Ended old new ticket (GivenUp why.NoMemory) (park_reply why.NoMemory) kept.Yes × EndsBy driven (GivenUp why.NoMemory)
Settles old new ticket driven (outcome.Unkept why) =
    (ending : Ending) × (reply : Reply) × (mark : Kept) × Ended old new ticket ending reply mark × EndsBy driven ending × BreaksFor (is_out_in ending) mark why
Settles old new ticket driven outcome.Full = ⊥
Settles old new ticket driven outcome.NoMemory = ⊥

-- ---- requests

-- a request was entered as this part: its call and, where that waited, the end of its run, which was driven between them; this is what was replied
pub record Took (old new : Means) (part : Part) (reply : Reply) : Type 0 where
  pub same : IsSame old.known new.known
  pub stands : Stands old.known.caller old.known.front part
  pub front : StartsWith new.known.front (behind old.known.caller part)
  pub entered_once : new.known.mine ≡ old.known.mine ++ entries_of old.known.caller part
  -- the call has a run where it waits for one
  pub follows : PartFollows old.known.setup old.known.caller part
  pub replied : IsReplyTo old.known.setup old.known.caller part reply
  pub status : IsTrue (is_status reply.status)
  -- the link was asked what the drive asked, and its decision is the ruling
  pub asked : new.link.asked ≡ and_asks old.link.asked (asks_in part.run)
  pub decided : RunDecided new.link part.run
  pub decisions : KeepsDecisions old.link.decisions new.link.decisions
  pub counted : Counted old new (in_run failures part.run) (in_run refusals part.run) (in_run grants part.run) (in_run drives part.run)
  pub nothing_left_live : KeepsLive old.known new.known

-- nothing was entered or asked
pub record Idles (old new : Means) : Type 0 where
  pub saw : OnlySaw old.known new.known
  pub link : new.link ≡ old.link
  pub counts : new.counts ≡ old.counts

-- the request was entered and answered, or nothing was; where there was no memory for a ruling the reply is 503 `no_memory`, and where an entry isn't kept the reply isn't given
abbrev pub Answers : Means → Means → Raw → Outcome → Type 0
Answers old new raw (outcome.Reply reply) =
    (part : Part) × (part.raw ≡ raw) × Took old new part reply × IsWell part
Answers old new raw outcome.Parked =
    (part : Part) × (part.raw ≡ raw) × Took old new part (park_reply why.NoMemory) × (mark_of part ≡ kept.Yes) × (is_out part.run ≡ true)
Answers old new raw (outcome.Unkept why) =
    (part : Part) × (reply : Reply) × (part.raw ≡ raw) × Took old new part reply × BreaksFor (is_out part.run) (mark_of part) why
Answers old new raw outcome.Full = Idles old new × IsFullFor new.known raw
Answers old new raw outcome.NoMemory = Idles old new
