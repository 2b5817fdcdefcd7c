-- What a session did.
use Rattle.std.specs.Prelude.{◌≡◌, ℕ, ◌⊎◌, Bool, true, false, List, [], ◌∷◌, ◌++◌, length, Option, Some, None, Result, Ok, Err}
use Rattle.ph_base.specs.Counts.{Rose}
use Rattle.ph_base.specs.declared.acquirer.Why.TheVariants as why
use Rattle.ph_bank.specs.Links.{KeepsDecisions, and_asks}
use Rattle.ph_lock.specs.Histories.{StartsWith}
use Rattle.ph_io.specs.Told.{SourceState, SinkState}
use Rattle.ph_io.specs.Reads.{Moves, EndsAfter, FailsAfter}
use Rattle.ph_io.specs.Writes.{Takes, TakesFront}
use Rattle.ph_http.specs.declared.message.Raw.{Raw}
use Rattle.ph_http.specs.declared.message.Reply.{Reply}
use Rattle.ph_http.specs.Items.{Item, items_of}
use Rattle.ph_errors.specs.declared.fixed.Fixed.{Fixed}
use Rattle.ph_errors.specs.declared.fixed.Fixed.TheVariants as fixed
use Rattle.ph_errors.specs.Fixed.{closing_of}
use Rattle.ph_book.specs.History.{replies_of}
use Rattle.ph_book.specs.Replies.{park_reply}
use Rattle.ph_book.specs.declared.hosted.Kept.TheVariants as kept
use Rattle.ph_conn.specs.Answers.{BreaksFor, IsFullFor}
use Rattle.ph_conn.specs.Means.{Means, Counted}
use Rattle.ph_conn.specs.Fronts.{Known, IsSame, KeepsLive, entries_in}
use Rattle.ph_conn.specs.Parts.{Part, requests_of, mine_of, AllStand, AllFollow, AreReplies, AreNoParks, asks_of, AllDecided, over_runs, failures, refusals, grants, drives, is_out, mark_of, AllWell, AllKept, LastIs}
use Rattle.ph_conn.specs.Served.{Halt, Stopped, AtCut, Open, served, halt_of, replies_text, next_line, output}
use Rattle.ph_conn.specs.Texts.{last_words}
use Rattle.ph_conn.specs.declared.endings.Closed.{Closed}
use Rattle.ph_conn.specs.declared.endings.Stop.{Stop}
use Rattle.ph_conn.specs.declared.endings.Stop.TheVariants as stop
use Rattle.ph_conn.specs.declared.endings.TalkError.{TalkError}
use Rattle.ph_conn.specs.declared.endings.TalkError.TheVariants as fault

-- ---- what was read

-- at a close, the bytes were taken, and at the end of the source it counted its end
abbrev pub ReadsTo : Stop → SourceState → SourceState → List ℕ → Type 0
ReadsTo stop.End old new bytes = EndsAfter old new bytes
ReadsTo stop.Asked old new bytes = Moves old new bytes
ReadsTo stop.Limit old new bytes = Moves old new bytes
ReadsTo (stop.Refused status) old new bytes = Moves old new bytes

-- the bytes were taken from the source, whose counts show how the reading ended
abbrev pub Reads : Result Closed TalkError → SourceState → SourceState → List ℕ → Type 0
Reads (Ok closed) old new bytes = ReadsTo closed.stop old new bytes
Reads (Err fault.Cut) old new bytes = EndsAfter old new bytes
Reads (Err fault.ReadFault) old new bytes = FailsAfter old new bytes
Reads (Err fault.WriteFault) old new bytes = Moves old new bytes ⊎ EndsAfter old new bytes
Reads (Err fault.NoMemory) old new bytes = Moves old new bytes ⊎ EndsAfter old new bytes
Reads (Err fault.Full) old new bytes = Moves old new bytes
Reads (Err fault.KeepFault) old new bytes = Moves old new bytes

abbrev pub is_end : Stop → Bool
is_end stop.End = true
is_end stop.Asked = false
is_end stop.Limit = false
is_end (stop.Refused status) = false

-- the source was read to its end, so that no more bytes may follow
abbrev pub has_ended : Result Closed TalkError → Bool
has_ended (Ok closed) = is_end closed.stop
has_ended (Err fault.Cut) = true
has_ended (Err fault.ReadFault) = false
has_ended (Err fault.WriteFault) = false
has_ended (Err fault.NoMemory) = false
has_ended (Err fault.Full) = false
has_ended (Err fault.KeepFault) = false

-- ---- what was entered

-- the first list is a front of the second
abbrev pub IsFront : List Raw → List Raw → Type 0
IsFront front whole = (rest : List Raw) × (whole ≡ front ++ rest)

-- the request behind those that were entered is one for which the history has no room
pub record NextIsFull (known : Known) (requests entered : List Raw) : Type 0 where
  pub refused : Raw
  pub rest : List Raw
  pub next : requests ≡ entered ++ refused ∷ rest
  pub full : IsFullFor known refused

-- all requests that are served were entered; where the history was full, those before the one that has no room; after a failed write, want of memory or an entry that isn't kept, the first of them
abbrev pub Enters : Result Closed TalkError → Known → List Raw → List Raw → Type 0
Enters (Ok closed) known requests entered = entered ≡ requests
Enters (Err fault.Cut) known requests entered = entered ≡ requests
Enters (Err fault.ReadFault) known requests entered = entered ≡ requests
Enters (Err fault.WriteFault) known requests entered = IsFront entered requests
Enters (Err fault.NoMemory) known requests entered = IsFront entered requests
Enters (Err fault.Full) known requests entered = NextIsFull known requests entered
Enters (Err fault.KeepFault) known requests entered = IsFront entered requests

-- ---- what was written

-- what stands behind the replies of a session that stops so: the closing reply of a refused request, or nothing
abbrev pub tail_of : Stop → Option Fixed
tail_of stop.End = None
tail_of stop.Asked = None
tail_of stop.Limit = None
tail_of (stop.Refused status) = closing_of status

-- the replies and 503 `no_memory`, between which the 100 line of the next item may stand
pub record RunsOut (items : List Item) (limit : ℕ) (replies : List Reply) (text : List ℕ) : Type 0 where
  pub line : List ℕ
  pub line_is : (line ≡ []) ⊎ (line ≡ next_line items limit replies)
  pub text_is : text ≡ replies_text items limit replies ++ line ++ last_words fixed.NoMemory

-- the last reply was lost: nothing is written behind those before it
pub record Loses (items : List Item) (limit : ℕ) (replies : List Reply) (text : List ℕ) : Type 0 where
  pub before : List Reply
  pub lost : Reply
  pub all : replies ≡ before ++ lost ∷ []
  pub text_is : text ≡ output items limit before None

-- what a session may have been writing when a write failed
pub data Writing (items : List Item) (limit : ℕ) (known : Known) (entered : List Raw) (replies : List Reply) (text : List ℕ) : Type 0 where
  -- the replies
  Replying : text ≡ output items limit replies None → Writing items limit known entered replies text
  -- the closing reply, all requests that are served being entered
  Refusing : (status : ℕ) → halt_of items limit ≡ Stopped (stop.Refused status) → entered ≡ served items limit
      → text ≡ output items limit replies (closing_of status) → Writing items limit known entered replies text
  -- that the history has no room for the next request
  Filling : NextIsFull known (served items limit) entered → text ≡ output items limit replies (Some fixed.HistoryFull)
      → Writing items limit known entered replies text
  -- that there is no memory
  RunningOut : RunsOut items limit replies text → Writing items limit known entered replies text

-- the replies were written whole, and behind them the tail of this answer; where a write failed, a front of what was being written
abbrev pub WritesReplies : Result Closed TalkError → List Item → ℕ → Known → List Raw → List Reply → SinkState → SinkState → Type 0
WritesReplies (Ok closed) items limit known entered replies old new = Takes old new (output items limit replies (tail_of closed.stop))
WritesReplies (Err fault.Cut) items limit known entered replies old new = Takes old new (output items limit replies None)
WritesReplies (Err fault.ReadFault) items limit known entered replies old new = Takes old new (output items limit replies None)
WritesReplies (Err fault.Full) items limit known entered replies old new = Takes old new (output items limit replies (Some fixed.HistoryFull))
WritesReplies (Err fault.WriteFault) items limit known entered replies old new =
    (text : List ℕ) × Writing items limit known entered replies text × TakesFront old new text
WritesReplies (Err fault.NoMemory) items limit known entered replies old new =
    (text : List ℕ) × (RunsOut items limit replies text ⊎ Loses items limit replies text) × Takes old new text
WritesReplies (Err fault.KeepFault) items limit known entered replies old new = ⊥

-- a session whose last run was given up for want of memory breaks off for want of memory, and its text was written whole, or a front of it up to a write that failed
abbrev pub EndsOut : Result Closed TalkError → SinkState → SinkState → List ℕ → Type 0
EndsOut (Ok closed) old new text = ⊥
EndsOut (Err fault.Cut) old new text = ⊥
EndsOut (Err fault.ReadFault) old new text = ⊥
EndsOut (Err fault.Full) old new text = ⊥
EndsOut (Err fault.WriteFault) old new text = ⊥
EndsOut (Err fault.KeepFault) old new text = ⊥
EndsOut (Err fault.NoMemory) old new text = Takes old new text ⊎ TakesFront old new text

-- the replies were written, of which the last one, 503 `no_memory`, says that the session closes
pub record WritesOut (result : Result Closed TalkError) (items : List Item) (limit : ℕ) (parts : List Part) (replies : List Reply) (old new : SinkState) : Type 0 where
  pub last : Part
  pub last_is : LastIs parts last
  pub marked : mark_of last ≡ kept.Yes
  pub out : is_out last.run ≡ true
  pub before : List Reply
  pub all : replies ≡ before ++ park_reply why.NoMemory ∷ []
  pub ends : EndsOut result old new (output items limit before (Some fixed.NoMemory))

-- an entry of the last part isn't kept: the session breaks off, and nothing is written behind the replies to the parts before it
pub record WritesNoMore (result : Result Closed TalkError) (items : List Item) (limit : ℕ) (parts : List Part) (replies : List Reply) (old new : SinkState) : Type 0 where
  pub last : Part
  pub last_is : LastIs parts last
  pub why : TalkError
  pub breaks : BreaksFor (is_out last.run) (mark_of last) why
  pub result_is : result ≡ Err why
  pub before : List Reply
  pub unwritten : Reply
  pub all : replies ≡ before ++ unwritten ∷ []
  pub ends : Takes old new (output items limit before None)

-- what a session wrote: where it might have gone on behind each part, the replies and their tail; where it gave up the last run for want of memory, that this is so as the last reply; and where an entry of the last part isn't kept, no reply to that
pub data Writes (result : Result Closed TalkError) (items : List Item) (limit : ℕ) (known : Known) (parts : List Part) (replies : List Reply) (old new : SinkState) : Type 0 where
  Whole : AllWell parts → WritesReplies result items limit known (requests_of parts) replies old new
      → Writes result items limit known parts replies old new
  Out : WritesOut result items limit parts replies old new → Writes result items limit known parts replies old new
  NoMore : WritesNoMore result items limit parts replies old new → Writes result items limit known parts replies old new

-- ---- why it ended

-- the session stopped as its items have it halt, and counted its replies; it may break off anywhere
abbrev pub StopsAs : Result Closed TalkError → Halt → ℕ → Type 0
StopsAs (Ok closed) halt replies = (halt ≡ Stopped closed.stop) × (closed.replies ≡ replies)
StopsAs (Err fault.Cut) halt replies = halt ≡ AtCut
StopsAs (Err fault.ReadFault) halt replies = halt ≡ Open
StopsAs (Err fault.WriteFault) halt replies = Unit {0}
StopsAs (Err fault.NoMemory) halt replies = Unit {0}
StopsAs (Err fault.Full) halt replies = Unit {0}
StopsAs (Err fault.KeepFault) halt replies = Unit {0}

-- What a session did that serves so many requests: it took these bytes, which have these items, and entered the requests of these parts, which got these replies.
pub record Session (result : Result Closed TalkError) (limit : ℕ) (means0 means1 : Means) (input0 input1 : SourceState) (output0 output1 : SinkState) : Type 0 where
  pub bytes : List ℕ
  pub items : List Item
  pub parts : List Part
  pub replies : List Reply
  -- the bytes went from what the input had left to what was taken
  pub taken : Reads result input0 input1 bytes
  -- the items are those of the bytes
  pub items_are : items ≡ items_of bytes (has_ended result)
  -- setup and caller are as they were, and the history is legal
  pub same : IsSame means0.known means1.known
  -- it begins with all that the session's caller had seen
  pub one_history : StartsWith means1.known.front means0.known.front
  -- the caller has each entered request once, in order, and behind each that waited the end of its run, and nothing else
  pub entered_once : means1.known.mine ≡ means0.known.mine ++ mine_of means0.known.caller parts
  -- these entries stand in it in this order, behind all that was seen before
  pub stand : AllStand means0.known.caller means0.known.front means1.known.front parts
  -- a request has a run where it waits for one; that of a call that is kept drove the order and was ended by its drive
  pub followed : AllFollow means0.known.setup means0.known.caller parts
  -- the requests are those that are served
  pub which_requests : Enters result means1.known (served items limit) (requests_of parts)
  -- each request has one reply, which is what is said to its last entry where that stands
  pub replied : AreReplies means0.known.setup means0.known.caller parts replies
  -- what was written is these replies
  pub written : Writes result items limit means1.known parts replies output0 output1
  -- the link was asked what the drives asked, and nothing else
  pub asked : means1.link.asked ≡ and_asks means0.link.asked (asks_of parts)
  -- its decisions are the rulings that ended the drives, and none of them changed
  pub decided : AllDecided means1.link parts
  pub decisions : KeepsDecisions means0.link.decisions means1.link.decisions
  -- runs that were driven and given up are covered by faults of the link and refusals of the patience, which was started once for each drive
  pub counted : Counted means0 means1 (over_runs failures parts) (over_runs refusals parts) (over_runs grants parts) (over_runs drives parts)
  -- where neither rose and each entry is kept, each run was ruled: no reply is that the ruling is pending, or that the link failed
  pub complete : (Rose means0.link.faults means1.link.faults → ⊥) → (Rose means0.counts.refusals means1.counts.refusals → ⊥) → AllKept parts → AreNoParks replies
  -- the live runs of the caller are those that were live before
  pub nothing_left_live : KeepsLive means0.known means1.known
  -- the session ended as its items have it halt
  pub stopped : StopsAs result (halt_of items limit) (length parts)

-- A session over a book that no one else has: all of its entries are kept, and the replies of its new history are those of the old one and then those of the session.
pub record SoloSession (result : Result Closed TalkError) (limit : ℕ) (means0 means1 : Means) (input0 input1 : SourceState) (output0 output1 : SinkState) : Type 0 where
  pub session : Session result limit means0 means1 input0 input1 output0 output1
  pub kept : AllKept session.parts
  pub answered : replies_of means1.known.setup (entries_in means1.known.front) ≡ replies_of means0.known.setup (entries_in means0.known.front) ++ session.replies
