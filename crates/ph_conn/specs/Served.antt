-- What a session serves of the items of its bytes, why it halts, and what it writes.
use Rattle.std.specs.Prelude.{ℕ, zero, suc, ◌||◌, ◌==◌, if◌then◌else◌, List, [], ◌∷◌, ◌++◌, Option}
use Rattle.ph_http.specs.declared.message.Raw.{Raw}
use Rattle.ph_http.specs.declared.message.Reply.{Reply}
use Rattle.ph_http.specs.Items.{Item, Continue, Request, Close, Cut, End}
use Rattle.ph_http.specs.Replies.{rendered}
use Rattle.ph_errors.specs.declared.fixed.Fixed.{Fixed}
use Rattle.ph_conn.specs.declared.endings.Stop.{Stop}
use Rattle.ph_conn.specs.declared.endings.Stop.TheVariants as stop
use Rattle.ph_conn.specs.Texts.{continue_line, tail_text}

-- the requests up to and with the first that asks for the end, at most so many
abbrev pub served : List Item → ℕ → List Raw
served items zero = []
served [] (suc limit) = []
served (Continue ∷ items) (suc limit) = served items (suc limit)
served (Request raw ∷ items) (suc limit) = raw ∷ (if raw.close then [] else served items limit)
served (Close status ∷ items) (suc limit) = []
served (Cut ∷ items) (suc limit) = []
served (End ∷ items) (suc limit) = []

pub data Halt : Type 0 where
  -- it stops, and this is why
  Stopped : Stop → Halt
  -- the bytes end within a request
  AtCut : Halt
  -- more bytes may follow
  Open : Halt

-- why a session that serves so many requests halts
abbrev pub halt_of : List Item → ℕ → Halt
halt_of items zero = Stopped stop.Limit
halt_of [] (suc limit) = Open
halt_of (Continue ∷ items) (suc limit) = halt_of items (suc limit)
halt_of (Request raw ∷ items) (suc limit) = if raw.close then Stopped stop.Asked else halt_of items limit
halt_of (Close status ∷ items) (suc limit) = Stopped (stop.Refused status)
halt_of (Cut ∷ items) (suc limit) = AtCut
halt_of (End ∷ items) (suc limit) = Stopped stop.End

-- the replies of a session that serves so many requests, behind this line: before each stands the 100 line that its request waits for, and the one to a request that asks for the end, or the last that the session may serve, says that the session closes
abbrev pub replies_behind : List ℕ → List Item → ℕ → List Reply → List ℕ
replies_behind line items zero replies = []
replies_behind line [] (suc limit) replies = []
replies_behind line (Continue ∷ items) (suc limit) replies = replies_behind continue_line items (suc limit) replies
replies_behind line (Request raw ∷ items) (suc limit) [] = []
replies_behind line (Request raw ∷ items) (suc limit) (reply ∷ replies) =
    line ++ rendered reply (raw.close || limit == 0)
    ++ (if raw.close then [] else replies_behind [] items limit replies)
replies_behind line (Close status ∷ items) (suc limit) replies = []
replies_behind line (Cut ∷ items) (suc limit) replies = []
replies_behind line (End ∷ items) (suc limit) replies = []

-- the line that stands before the next item, of which no reply tells: this one, or the 100 line of that item; a session that stops before it writes none
abbrev pub line_behind : List ℕ → List Item → ℕ → List Reply → List ℕ
line_behind line items zero replies = []
line_behind line [] (suc limit) replies = line
line_behind line (Continue ∷ items) (suc limit) replies = line_behind continue_line items (suc limit) replies
line_behind line (Request raw ∷ items) (suc limit) [] = line
line_behind line (Request raw ∷ items) (suc limit) (reply ∷ replies) =
    if raw.close then [] else line_behind [] items limit replies
line_behind line (Close status ∷ items) (suc limit) replies = line
line_behind line (Cut ∷ items) (suc limit) replies = line
line_behind line (End ∷ items) (suc limit) replies = line

-- the replies, each behind the 100 line that its request waits for
abbrev pub replies_text : List Item → ℕ → List Reply → List ℕ
replies_text items limit replies = replies_behind [] items limit replies

-- the 100 line of the next item, of which no reply tells
abbrev pub next_line : List Item → ℕ → List Reply → List ℕ
next_line items limit replies = line_behind [] items limit replies

-- what a session that serves so many requests writes for its items with these replies: the replies, the 100 line of the next item, and the tail
abbrev pub output : List Item → ℕ → List Reply → Option Fixed → List ℕ
output items limit replies tail = replies_text items limit replies ++ next_line items limit replies ++ tail_text tail
