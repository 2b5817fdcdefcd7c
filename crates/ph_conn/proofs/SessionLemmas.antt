-- A session, request by request.
use Rattle.std.proofs.Common.{◌≡◌, ℕ, suc, zero, ◌+◌, ◌<◌, ◌≤◌, ◌==◌, ◌||◌, ◌⊎◌, Bool, true, false, cond, is_some, List, [], ◌∷◌, ◌++◌, length, Option, Some, None, Result, Ok, Err, refl, sym, ap, ◌∙◌, subst, inl, inr, append_assoc, arith}
use Rattle.std.specs.Bool.{⊤}
use Rattle.std.proofs.lemmas.List.{append-nil, length_push}
use Rattle.std.proofs.lemmas.Bool.Decides.{nat_tests}
use Rattle.ph_base.specs.Counts.{Rose}
use Rattle.ph_io.specs.Told.{SourceState, SinkState, followed_by, preceded_by}
use Rattle.ph_io.specs.Reads.{Moves, EndsAfter, FailsAfter}
use Rattle.ph_io.specs.Writes.{Takes, TakesFront}
use Rattle.ph_io.proofs.DeviceLemmas.{followed_twice, preceded_twice, moves_twice, moves_nothing, takes_nothing, takes_twice, takes_then_front, front_of_more}
use Rattle.ph_http.specs.declared.message.Raw.{Raw}
use Rattle.ph_http.specs.declared.message.Reply.{Reply}
use Rattle.ph_http.specs.Items.{Item, Close, Cut, End, Has, first, items_from, items_of}
use Rattle.ph_http.specs.Replies.{rendered}
use Rattle.ph_http.specs.Talk.{Leads}
use Rattle.ph_http.specs.TalkState.{TalkState, talk_of, grown}
use Rattle.ph_http.proofs.ItemLemmas.{leads_more, items_lead, items_last, items_none}
use Rattle.ph_http.proofs.StatusLemmas.{close_passes}
use Rattle.ph_errors.specs.declared.fixed.Fixed.{Fixed}
use Rattle.ph_errors.specs.declared.fixed.Fixed.TheVariants as fixed
use Rattle.ph_errors.specs.Fixed.{closing_of}
use Rattle.ph_base.specs.declared.acquirer.Why.TheVariants as why
use Rattle.ph_book.specs.declared.hosted.Kept.{Kept}
use Rattle.ph_book.specs.declared.hosted.Kept.TheVariants as kept
use Rattle.ph_book.specs.Legal.{IsLegal}
use Rattle.ph_book.specs.Replies.{park_reply}
use Rattle.ph_conn.specs.Answers.{BreaksFor, IsFullFor, Idles, Took, Answers}
use Rattle.ph_conn.specs.Fronts.{Known, entries_in}
use Rattle.ph_conn.specs.Means.{Means}
use Rattle.ph_conn.specs.Parts.{Part, requests_of, is_out, mark_of, IsWell}
use Rattle.ph_conn.specs.Reads.{Fetches, request_items, told_end}
use Rattle.ph_conn.specs.Sends.{Parts, PartsOut, Closes, Sends}
use Rattle.ph_conn.specs.Served.{Halt, Stopped, AtCut, Open, served, halt_of, replies_text, next_line, output}
use Rattle.ph_conn.specs.Session as session
use Rattle.ph_conn.specs.Session.{Session, SoloSession, NextIsFull, EndsOut, RunsOut, Replying, Refusing, Filling, RunningOut, Out, NoMore}
use Rattle.ph_conn.specs.Steps as stepping
use Rattle.ph_conn.specs.Steps.{Steps, ClosesKnown, closed_as, closes_if, is_last_of}
use Rattle.ph_conn.specs.Texts.{line_for, tail_text, last_words}
use Rattle.ph_conn.specs.declared.answers.Outcome.{Outcome}
use Rattle.ph_conn.specs.declared.answers.Outcome.TheVariants as outcome
use Rattle.ph_conn.specs.declared.endings.Closed.{Closed}
use Rattle.ph_conn.specs.declared.endings.Stop.TheVariants as stop
use Rattle.ph_conn.specs.declared.endings.TalkError.{TalkError}
use Rattle.ph_conn.specs.declared.endings.TalkError.TheVariants as fault
use Rattle.ph_conn.specs.declared.reads.Fetched.{Fetched}
use Rattle.ph_conn.specs.declared.reads.Fetched.TheVariants as fetched
use Rattle.ph_conn.proofs.ItemFacts.{leads_then}
use Rattle.ph_conn.proofs.PartLemmas.{requests-push, front-push}
use Rattle.ph_conn.proofs.ServedLemmas.{Serves, serves-nothing, written, line-left, output-left, line-waiting, served-with, no-replies, reply_text, TookText, took, goes_further, goes_no_further}
use Rattle.ph_conn.proofs.WorkLemmas.{Grown, grown-nothing, grown-push, grown-saw, work-push, session_with, session_of}

-- ---- the state of a session between two requests

-- i requests were answered, and so many are left
pub record Serving (limit i : ℕ) (talk : TalkState) (means0 means1 : Means) (input0 input1 : SourceState) (output0 output1 : SinkState) : Type 0 where
  pub bytes : List ℕ
  pub given : List Item
  pub parts : List Part
  pub replies : List Reply
  pub text : List ℕ
  pub left : ℕ
  pub moved : Moves input0 input1 bytes
  pub led : Leads (talk_of bytes false) given talk
  pub still : talk.ended ≡ false
  pub grown_by : Grown means0 means1 parts replies
  pub count : length parts ≡ i
  pub left_is : i + left ≡ limit
  pub done : Serves limit given (requests_of parts) replies text left
  pub wrote : Takes output0 output1 text

pub begins : (limit : ℕ) (means : Means) (input : SourceState) (output : SinkState) → IsLegal means.known.setup (entries_in means.known.front) → Serving limit 0 (talk_of [] false) means means input input output output
begins limit means input output legal = record {
  bytes = [];
  given = [];
  parts = [];
  replies = [];
  text = [];
  left = limit;
  moved = moves_nothing input;
  led = refl;
  still = refl;
  grown_by = grown-nothing means legal;
  count = refl;
  left_is = omega arith;
  done = serves-nothing limit;
  wrote = takes_nothing output;
}

-- ---- what the items of the bytes are

-- the items given, and then those of the talk with the bytes that were read for the next item
items_so_far : (bytes more : List ℕ) (given : List Item) (talk : TalkState) (ended : Bool) → Leads (talk_of bytes false) given talk → items_of (bytes ++ more) ended ≡ given ++ items_from (grown talk more ended)
items_so_far bytes more given talk ended led = items_lead (talk_of (bytes ++ more) ended) (grown talk more ended) given (leads_more (talk_of bytes false) talk given more ended refl led)

-- requests that are left, where some are
some_left : (i left limit : ℕ) → i + left ≡ limit → i < limit → (n : ℕ) × (left ≡ suc n)
some_left i zero limit sum below = absurd (omega arith)
some_left i (suc n) limit sum below = (n, refl)

-- the reply to the last request that a session serves says so
last_flag : (i n limit : ℕ) → i + suc n ≡ limit → (i + 1 == limit) ≡ (n == 0)
last_flag i zero limit sum = let last : i + 1 ≡ limit = omega arith in grind (arith, nat_tests)
last_flag i (suc n) limit sum = grind (arith, nat_tests)

-- a read after reads, with what it counts
ends_later : {old between new : SourceState} {xs ys : List ℕ} → Moves old between xs → EndsAfter between new ys → EndsAfter old new (xs ++ ys)
ends_later {old} {between} {new} {xs} {ys} first last = record {
  left = first.left ∙ ap (λ told. preceded_by told xs) last.left ∙ preceded_twice new.left xs ys;
  spent = last.spent;
  taken = last.taken ∙ ap (λ told. followed_by told ys) first.taken ∙ followed_twice old.taken xs ys;
  counted = subst (λ before. Rose before new.ends) first.ends last.counted;
  not_fallen = subst (λ before. before ≤ new.ends) first.ends last.not_fallen;
  faults = last.faults ∙ first.faults;
}

fails_later : {old between new : SourceState} {xs ys : List ℕ} → Moves old between xs → FailsAfter between new ys → FailsAfter old new (xs ++ ys)
fails_later {old} {between} {new} {xs} {ys} first last = record {
  left = first.left ∙ ap (λ told. preceded_by told xs) last.left ∙ preceded_twice new.left xs ys;
  taken = last.taken ∙ ap (λ told. followed_by told ys) first.taken ∙ followed_twice old.taken xs ys;
  ends = last.ends ∙ first.ends;
  counted = subst (λ before. Rose before new.faults) first.faults last.counted;
  not_fallen = subst (λ before. before ≤ new.faults) first.faults last.not_fallen;
}

reads_later : {old between new : SourceState} {xs ys : List ℕ} → Moves old between xs → Moves between new ys ⊎ EndsAfter between new ys → Moves old new (xs ++ ys) ⊎ EndsAfter old new (xs ++ ys)
reads_later first (inl last) = inl (moves_twice first last)
reads_later first (inr last) = inr (ends_later first last)

-- ---- how a session ends where its items do

-- what stands where a session ends with these items and this written
record Exit (limit : ℕ) (items : List Item) (entered : List Raw) (replies : List Reply) (text : List ℕ) (halt : Halt) : Type 0 where
  all_entered : entered ≡ served items limit
  text_is : (tail : Option Fixed) → output items limit replies tail ≡ text ++ tail_text tail
  halt_is : halt_of items limit ≡ halt

-- nothing of the rest is served, and no line is written
record IsLast (rest : List Item) (left : ℕ) (halt : Halt) : Type 0 where
  none_served : served rest left ≡ []
  no_line : next_line rest left [] ≡ []
  halt_is : halt_of rest left ≡ halt

exit : {limit : ℕ} {given : List Item} {entered : List Raw} {replies : List Reply} {text : List ℕ} {left : ℕ} {halt : Halt} (rest : List Item)
    → Serves limit given entered replies text left → IsLast rest left halt → Exit limit (given ++ rest) entered replies text halt
exit {limit} {given} {entered} {replies} {text} {left} {halt} rest done last = record {
  all_entered = sym (done.serves rest ∙ ap (λ (raws : List Raw). entered ++ raws) last.none_served ∙ append-nil entered);
  text_is = λ tail. output-left done rest tail ∙ ap (λ line. text ++ line ++ tail_text tail) last.no_line ∙ ap (λ told. told ++ tail_text tail) (append-nil text);
  halt_is = done.halts rest ∙ last.halt_is;
}

-- with nothing behind the replies
nothing_behind : {limit : ℕ} {items : List Item} {entered : List Raw} {replies : List Reply} {text : List ℕ} {halt : Halt} → Exit limit items entered replies text halt → output items limit replies None ≡ text
nothing_behind {text = text} e = e.text_is None ∙ append-nil text

-- one item that no request is, with a request left to serve
last_item : (rest : List Item) (left n : ℕ) (halt : Halt) → left ≡ suc n → IsLast rest (suc n) halt → IsLast rest left halt
last_item rest left n halt some last = subst (λ (k : ℕ). IsLast rest k halt) (sym some) last

pub stops_end : {limit i : ℕ} {talk new : TalkState} {means0 means1 : Means} {input0 input1 input2 : SourceState} {output0 output1 : SinkState} (closed : Closed)
    → closed ≡ record { replies = i; stop = stop.End } → i < limit → Serving limit i talk means0 means1 input0 input1 output0 output1 → Fetches talk new fetched.End input1 input2
    → Session (Ok closed) limit means0 means1 input0 input2 output0 output1
stops_end {limit} {i} {talk} {new} {means0} {means1} {input0} {input1} {input2} {output0} {output1} closed is below s fetches =
    let some = some_left i s.left limit s.left_is below in
    let last : IsLast (End ∷ []) s.left (Stopped stop.End) = last_item (End ∷ []) s.left some.0 (Stopped stop.End) some.1 (record { none_served = refl; no_line = refl; halt_is = refl }) in
    let e = exit (End ∷ []) s.done last in
    let are : items_of (s.bytes ++ fetches.bytes) true ≡ s.given ++ End ∷ [] =
    items_so_far s.bytes fetches.bytes s.given talk true s.led ∙ ap (λ (items : List Item). s.given ++ items) (items_last (told_end (grown talk fetches.bytes false)) (told_end (grown talk fetches.bytes false)) End fetches.item refl) in
    subst (λ (c : Closed). Session (Ok c) limit means0 means1 input0 input2 output0 output1) (sym is)
    (session_of s.grown_by (s.bytes ++ fetches.bytes) (ends_later s.moved fetches.read) (sym are) e.all_entered (subst (Takes output0 output1) (sym (nothing_behind e)) s.wrote) (e.halt_is, sym s.count))

pub stops_cut : {limit i : ℕ} {talk new : TalkState} {means0 means1 : Means} {input0 input1 input2 : SourceState} {output0 output1 : SinkState} → i < limit
    → Serving limit i talk means0 means1 input0 input1 output0 output1 → Fetches talk new fetched.Cut input1 input2
    → Session (Err fault.Cut) limit means0 means1 input0 input2 output0 output1
stops_cut {limit} {i} {talk} {new} {means0} {means1} {input0} {input1} {input2} {output0} {output1} below s fetches =
    let some = some_left i s.left limit s.left_is below in
    let last : IsLast (Cut ∷ []) s.left AtCut = last_item (Cut ∷ []) s.left some.0 AtCut some.1 (record { none_served = refl; no_line = refl; halt_is = refl }) in
    let e = exit (Cut ∷ []) s.done last in
    let are : items_of (s.bytes ++ fetches.bytes) true ≡ s.given ++ Cut ∷ [] =
    items_so_far s.bytes fetches.bytes s.given talk true s.led ∙ ap (λ (items : List Item). s.given ++ items) (items_last (told_end (grown talk fetches.bytes false)) (told_end (grown talk fetches.bytes false)) Cut fetches.item refl) in
    session_of s.grown_by (s.bytes ++ fetches.bytes) (ends_later s.moved fetches.read) (sym are) e.all_entered (subst (Takes output0 output1) (sym (nothing_behind e)) s.wrote) e.halt_is

pub stops_read_fault : {limit i : ℕ} {talk new : TalkState} {means0 means1 : Means} {input0 input1 input2 : SourceState} {output0 output1 : SinkState} → i < limit
    → Serving limit i talk means0 means1 input0 input1 output0 output1 → Fetches talk new fetched.ReadFault input1 input2
    → Session (Err fault.ReadFault) limit means0 means1 input0 input2 output0 output1
stops_read_fault {limit} {i} {talk} {new} {means0} {means1} {input0} {input1} {input2} {output0} {output1} below s fetches =
    let some = some_left i s.left limit s.left_is below in
    let last : IsLast [] s.left Open = last_item [] s.left some.0 Open some.1 (record { none_served = refl; no_line = refl; halt_is = refl }) in
    let e = exit [] s.done last in
    let are : items_of (s.bytes ++ fetches.bytes) false ≡ s.given ++ [] =
    items_so_far s.bytes fetches.bytes s.given talk false s.led ∙ ap (λ (items : List Item). s.given ++ items) (items_none (grown talk fetches.bytes false) fetches.item) in
    session_of s.grown_by (s.bytes ++ fetches.bytes) (fails_later s.moved fetches.read) (sym are) e.all_entered (subst (Takes output0 output1) (sym (nothing_behind e)) s.wrote) e.halt_is

pub stops_limit : {limit : ℕ} {talk : TalkState} {means0 means1 : Means} {input0 input1 : SourceState} {output0 output1 : SinkState} (i : ℕ) (closed : Closed)
    → closed ≡ record { replies = limit; stop = stop.Limit } → limit ≤ i → i ≤ limit → Serving limit i talk means0 means1 input0 input1 output0 output1
    → Session (Ok closed) limit means0 means1 input0 input1 output0 output1
stops_limit {limit} {talk} {means0} {means1} {input0} {input1} {output0} {output1} i closed is reached within s =
    let rest = items_from talk in
    let none : s.left ≡ 0 = (let sum = s.left_is in omega arith) in
    let last : IsLast rest s.left (Stopped stop.Limit) = subst (λ (k : ℕ). IsLast rest k (Stopped stop.Limit)) (sym none) (record { none_served = refl; no_line = refl; halt_is = refl }) in
    let e = exit rest s.done last in
    let all : limit ≡ length s.parts = (let count = s.count in omega arith) in
    subst (λ (c : Closed). Session (Ok c) limit means0 means1 input0 input1 output0 output1) (sym is)
    (session_of s.grown_by s.bytes s.moved (sym (items_lead (talk_of s.bytes false) talk s.given s.led)) e.all_entered (subst (Takes output0 output1) (sym (nothing_behind e)) s.wrote) (e.halt_is, all))

-- ---- closing replies

-- a session is refused with no other status than a closing one
pub closing_status : (talk after : TalkState) (status : ℕ) → first talk ≡ Has (Close status) after → is_some (closing_of status) ≡ true
closing_status = close_passes (λ status. is_some (closing_of status)) (record { malformed = refl; too_large = refl; head_too_large = refl; not_implemented = refl; other_version = refl })

pub stops_close : {limit i : ℕ} {talk new : TalkState} {means0 means1 : Means} {input0 input1 input2 : SourceState} {output0 output1 output2 : SinkState} (status : ℕ) (result : Result Closed TalkError) → i < limit
    → Serving limit i talk means0 means1 input0 input1 output0 output1 → Fetches talk new (fetched.Close status) input1 input2 → Closes status i result output1 output2
    → Session result limit means0 means1 input0 input2 output0 output2
stops_close {limit} {i} {talk} {new} {means0} {means1} {input0} {input1} {input2} {output0} {output1} {output2} status result below s fetches closes = at result closes
  where
    rest : List Item
    rest = Close status ∷ []

    e : Exit limit (s.given ++ rest) (requests_of s.parts) s.replies s.text (Stopped (stop.Refused status))
    e = let some = some_left i s.left limit s.left_is below in
        exit rest s.done (last_item rest s.left some.0 (Stopped (stop.Refused status)) some.1 (record { none_served = refl; no_line = refl; halt_is = refl }))

    are : s.given ++ rest ≡ items_of (s.bytes ++ fetches.bytes) false
    are = sym (items_so_far s.bytes fetches.bytes s.given talk false s.led
        ∙ ap (λ (items : List Item). s.given ++ items) (items_last (grown talk fetches.bytes false) (grown talk fetches.bytes false) (Close status) fetches.item refl))

    at : (result : Result Closed TalkError) → Closes status i result output1 output2 → Session result limit means0 means1 input0 input2 output0 output2
    at (Ok closed) closes = subst (λ (c : Closed). Session (Ok c) limit means0 means1 input0 input2 output0 output2) (sym closes.0)
        (session_of s.grown_by (s.bytes ++ fetches.bytes) (moves_twice s.moved fetches.read) are e.all_entered
        (subst (Takes output0 output2) (sym (e.text_is (closing_of status))) (takes_twice s.wrote closes.1)) (e.halt_is, sym s.count))
    at (Err fault.WriteFault) closes = session_of s.grown_by (s.bytes ++ fetches.bytes) (inl (moves_twice s.moved fetches.read)) are
        ([], sym e.all_entered ∙ sym (append-nil (requests_of s.parts)))
        (s.text ++ tail_text (closing_of status), Refusing status e.halt_is e.all_entered (sym (e.text_is (closing_of status))), takes_then_front s.wrote closes) tt
    at (Err fault.ReadFault) closes = absurd closes
    at (Err fault.Cut) closes = absurd closes
    at (Err fault.NoMemory) closes = absurd closes
    at (Err fault.Full) closes = absurd closes
    at (Err fault.KeepFault) closes = absurd closes

-- ---- want of memory while the next item is read

pub stops_out : {limit i : ℕ} {talk new : TalkState} {means0 means1 : Means} {input0 input1 input2 : SourceState} {output0 output1 output2 : SinkState} (why : TalkError)
    → Serving limit i talk means0 means1 input0 input1 output0 output1 → Fetches talk new fetched.NoMemory input1 input2 → Parts fixed.NoMemory fault.NoMemory why output1 output2
    → Session (Err why) limit means0 means1 input0 input2 output0 output2
stops_out {limit} {i} {talk} {new} {means0} {means1} {input0} {input1} {input2} {output0} {output1} {output2} why s fetches parts = at parts
  where
    rest : List Item
    rest = items_from (grown talk fetches.bytes false)

    items : List Item
    items = s.given ++ rest

    are : items ≡ items_of (s.bytes ++ fetches.bytes) false
    are = sym (items_so_far s.bytes fetches.bytes s.given talk false s.led)

    some : session.IsFront (requests_of s.parts) (served items limit)
    some = (served rest s.left, s.done.serves rest)

    runs : RunsOut items limit s.replies (s.text ++ last_words fixed.NoMemory)
    runs = record { line = []; line_is = inl refl; text_is = ap (λ told. told ++ last_words fixed.NoMemory) (sym (append-nil s.text) ∙ ap (λ told. told ++ []) (sym (written s.done rest))) }

    at : Parts fixed.NoMemory fault.NoMemory why output1 output2 → Session (Err why) limit means0 means1 input0 input2 output0 output2
    at (inl (is, takes)) = subst (λ (w : TalkError). Session (Err w) limit means0 means1 input0 input2 output0 output2) (sym is)
        (session_of s.grown_by (s.bytes ++ fetches.bytes) (reads_later s.moved fetches.read) are some (s.text ++ last_words fixed.NoMemory, inl runs, takes_twice s.wrote takes) tt)
    at (inr (is, front)) = subst (λ (w : TalkError). Session (Err w) limit means0 means1 input0 input2 output0 output2) (sym is)
        (session_of s.grown_by (s.bytes ++ fetches.bytes) (reads_later s.moved fetches.read) are some (s.text ++ last_words fixed.NoMemory, RunningOut runs, takes_then_front s.wrote front) tt)

-- ---- a request that waits for its reply

-- a request was read behind those that were answered, and the line that it waits for was written
pub record Waiting (limit i n : ℕ) (talk : TalkState) (raw : Raw) (continues : Bool) (means0 means1 : Means) (input0 input1 : SourceState) (output0 output1 : SinkState) : Type 0 where
  pub bytes : List ℕ
  pub given : List Item
  pub parts : List Part
  pub replies : List Reply
  pub text : List ℕ
  pub moved : Moves input0 input1 bytes
  pub led : Leads (talk_of bytes false) (given ++ request_items raw continues) talk
  pub still : talk.ended ≡ false
  pub grown_by : Grown means0 means1 parts replies
  pub count : length parts ≡ i
  pub left_is : i + suc n ≡ limit
  pub done : Serves limit given (requests_of parts) replies text (suc n)
  pub wrote : Takes output0 output1 (text ++ line_for continues)

-- the items of the bytes are those before the request, the request, and those of the talk
waiting-items : {limit i n : ℕ} {talk : TalkState} {raw : Raw} {continues : Bool} {means0 means1 : Means} {input0 input1 : SourceState} {output0 output1 : SinkState}
    (w : Waiting limit i n talk raw continues means0 means1 input0 input1 output0 output1) → (w.given ++ request_items raw continues) ++ items_from talk ≡ items_of w.bytes false
waiting-items {talk = talk} {raw = raw} {continues = continues} w = sym (items_lead (talk_of w.bytes false) talk (w.given ++ request_items raw continues) w.led)

request_is : {limit i : ℕ} {talk new : TalkState} {means0 means1 : Means} {input0 input1 input2 : SourceState} {output0 output1 : SinkState} (raw : Raw) (continues : Bool) → i < limit
    → (s : Serving limit i talk means0 means1 input0 input1 output0 output1) → (fetches : Fetches talk new (fetched.Request raw continues) input1 input2)
    → Leads (talk_of (s.bytes ++ fetches.bytes) false) (s.given ++ request_items raw continues) new
request_is {talk = talk} {new = new} raw continues below s fetches =
    leads_then (talk_of (s.bytes ++ fetches.bytes) false) (grown talk fetches.bytes false) new s.given (request_items raw continues)
    (leads_more (talk_of s.bytes false) talk s.given fetches.bytes false refl s.led) fetches.item.0

pub waits : {limit i : ℕ} {talk new : TalkState} {means0 means1 : Means} {input0 input1 input2 : SourceState} {output0 output1 output2 : SinkState} (raw : Raw) (continues : Bool) → i < limit
    → Serving limit i talk means0 means1 input0 input1 output0 output1 → Fetches talk new (fetched.Request raw continues) input1 input2 → Takes output1 output2 (line_for continues)
    → (n : ℕ) × Waiting limit i n new raw continues means0 means1 input0 input2 output0 output2
waits {limit} {i} {talk} {new} raw continues below s fetches takes =
    let some = some_left i s.left limit s.left_is below in (
      some.0,
      record {
        bytes = s.bytes ++ fetches.bytes;
        given = s.given;
        parts = s.parts;
        replies = s.replies;
        text = s.text;
        moved = moves_twice s.moved fetches.read;
        led = request_is raw continues below s fetches;
        still = fetches.item.1;
        grown_by = s.grown_by;
        count = s.count;
        left_is = ap (λ k. i + k) (sym some.1) ∙ s.left_is;
        done = subst (Serves limit s.given (requests_of s.parts) s.replies s.text) some.1 s.done;
        wrote = takes_twice s.wrote takes;
      },
    )

-- the line of the request isn't written whole
pub line_fails : {limit i : ℕ} {talk new : TalkState} {means0 means1 : Means} {input0 input1 input2 : SourceState} {output0 output1 output2 : SinkState} (raw : Raw) (continues : Bool) → i < limit
    → Serving limit i talk means0 means1 input0 input1 output0 output1 → Fetches talk new (fetched.Request raw continues) input1 input2 → TakesFront output1 output2 (line_for continues)
    → Session (Err fault.WriteFault) limit means0 means1 input0 input2 output0 output2
line_fails {limit} {i} {talk} {new} {means0} {means1} {input0} {input1} {input2} {output0} {output1} {output2} raw continues below s fetches front =
    let some = some_left i s.left limit s.left_is below in
    let request = request_items raw continues in
    let rest = items_from new in
    let items = s.given ++ (request ++ rest) in
    let are : items ≡ items_of (s.bytes ++ fetches.bytes) false =
    sym (append_assoc s.given request rest) ∙ sym (items_lead (talk_of (s.bytes ++ fetches.bytes) false) new (s.given ++ request) (request_is raw continues below s fetches)) in
    let text_is : output items limit s.replies None ≡ s.text ++ line_for continues =
    output-left s.done (request ++ rest) None ∙ append-nil (s.text ++ next_line (request ++ rest) s.left [])
    ∙ ap (λ k. s.text ++ next_line (request ++ rest) k []) some.1 ∙ ap (λ (line : List ℕ). s.text ++ line) (line-waiting raw continues rest some.0) in
    session_of s.grown_by (s.bytes ++ fetches.bytes) (inl (moves_twice s.moved fetches.read)) are (served (request ++ rest) s.left, s.done.serves (request ++ rest))
    (s.text ++ line_for continues, Replying (sym text_is), takes_then_front s.wrote front) tt

-- ---- a request that isn't entered

-- the items, where the request that waits isn't entered: they go on behind those that were answered
record Refused (limit n : ℕ) (items : List Item) (entered : List Raw) (replies : List Reply) (text : List ℕ) (raw : Raw) (continues : Bool) : Type 0 where
  rest : List Raw
  serves : served items limit ≡ entered ++ raw ∷ rest
  writes : replies_text items limit replies ≡ text
  line : next_line items limit replies ≡ line_for continues

refused : {limit n : ℕ} {given : List Item} {entered : List Raw} {replies : List Reply} {text : List ℕ} (raw : Raw) (continues : Bool) (rest : List Item)
    → Serves limit given entered replies text (suc n) → Refused limit n ((given ++ request_items raw continues) ++ rest) entered replies text raw continues
refused {limit} {n} {given} {entered} {replies} {text} raw continues rest done =
    let request = request_items raw continues in
    let assoc = append_assoc given request rest in
    record {
      rest = cond raw.close [] (served rest n);
      serves = ap (λ (items : List Item). served items limit) assoc ∙ done.serves (request ++ rest) ∙ ap (λ (raws : List Raw). entered ++ raws) (served-with raw continues rest n);
      writes = ap (λ (items : List Item). replies_text items limit replies) assoc ∙ written done (request ++ rest);
      line = ap (λ (items : List Item). next_line items limit replies) assoc ∙ line-left done (request ++ rest) ∙ line-waiting raw continues rest n;
    }

-- what is written with this tail
refused-output : {limit n : ℕ} {items : List Item} {entered : List Raw} {replies : List Reply} {text : List ℕ} {raw : Raw} {continues : Bool} → Refused limit n items entered replies text raw continues
    → (tail : Option Fixed) → output items limit replies tail ≡ (text ++ line_for continues) ++ tail_text tail
refused-output {limit} {n} {items} {entered} {replies} {text} {raw} {continues} r tail =
    ap (λ (told : List ℕ). told ++ next_line items limit replies ++ tail_text tail) r.writes ∙ ap (λ (line : List ℕ). text ++ line ++ tail_text tail) r.line

-- the history has no room for it
pub stops_full : {limit i n : ℕ} {talk : TalkState} {raw : Raw} {continues : Bool} {means0 means1 : Means} {input0 input1 : SourceState} {output0 output1 output2 : SinkState} (why : TalkError)
    → Waiting limit i n talk raw continues means0 means1 input0 input1 output0 output1 → IsFullFor means1.known raw → Parts fixed.HistoryFull fault.Full why output1 output2
    → Session (Err why) limit means0 means1 input0 input1 output0 output2
stops_full {limit} {i} {n} {talk} {raw} {continues} {means0} {means1} {input0} {input1} {output0} {output1} {output2} why w full parts = at parts
  where
    r : Refused limit n ((w.given ++ request_items raw continues) ++ items_from talk) (requests_of w.parts) w.replies w.text raw continues
    r = refused raw continues (items_from talk) w.done

    next : NextIsFull means1.known (served ((w.given ++ request_items raw continues) ++ items_from talk) limit) (requests_of w.parts)
    next = record { refused = raw; rest = r.rest; next = r.serves; full = full }

    text_is : output ((w.given ++ request_items raw continues) ++ items_from talk) limit w.replies (Some fixed.HistoryFull) ≡ (w.text ++ line_for continues) ++ last_words fixed.HistoryFull
    text_is = refused-output r (Some fixed.HistoryFull)

    at : Parts fixed.HistoryFull fault.Full why output1 output2 → Session (Err why) limit means0 means1 input0 input1 output0 output2
    at (inl (is, takes)) = subst (λ (e : TalkError). Session (Err e) limit means0 means1 input0 input1 output0 output2) (sym is)
        (session_of w.grown_by w.bytes w.moved (waiting-items w) next (subst (Takes output0 output2) (sym text_is) (takes_twice w.wrote takes)) tt)
    at (inr (is, front)) = subst (λ (e : TalkError). Session (Err e) limit means0 means1 input0 input1 output0 output2) (sym is)
        (session_of w.grown_by w.bytes (inl w.moved) (waiting-items w) (raw ∷ r.rest, r.serves)
        ((w.text ++ line_for continues) ++ last_words fixed.HistoryFull, Filling next (sym text_is), takes_then_front w.wrote front) tt)

-- there is no memory for it
pub stops_no_memory : {limit i n : ℕ} {talk : TalkState} {raw : Raw} {continues : Bool} {means0 means1 : Means} {input0 input1 : SourceState} {output0 output1 output2 : SinkState} (why : TalkError)
    → Waiting limit i n talk raw continues means0 means1 input0 input1 output0 output1 → Parts fixed.NoMemory fault.NoMemory why output1 output2
    → Session (Err why) limit means0 means1 input0 input1 output0 output2
stops_no_memory {limit} {i} {n} {talk} {raw} {continues} {means0} {means1} {input0} {input1} {output0} {output1} {output2} why w parts = at parts
  where
    r : Refused limit n ((w.given ++ request_items raw continues) ++ items_from talk) (requests_of w.parts) w.replies w.text raw continues
    r = refused raw continues (items_from talk) w.done

    runs : RunsOut ((w.given ++ request_items raw continues) ++ items_from talk) limit w.replies ((w.text ++ line_for continues) ++ last_words fixed.NoMemory)
    runs = record { line = line_for continues; line_is = inr (sym r.line); text_is = ap (λ (told : List ℕ). told ++ line_for continues ++ last_words fixed.NoMemory) (sym r.writes) }

    at : Parts fixed.NoMemory fault.NoMemory why output1 output2 → Session (Err why) limit means0 means1 input0 input1 output0 output2
    at (inl (is, takes)) = subst (λ (e : TalkError). Session (Err e) limit means0 means1 input0 input1 output0 output2) (sym is)
        (session_of w.grown_by w.bytes (inl w.moved) (waiting-items w) (raw ∷ r.rest, r.serves)
        ((w.text ++ line_for continues) ++ last_words fixed.NoMemory, inl runs, takes_twice w.wrote takes) tt)
    at (inr (is, front)) = subst (λ (e : TalkError). Session (Err e) limit means0 means1 input0 input1 output0 output2) (sym is)
        (session_of w.grown_by w.bytes (inl w.moved) (waiting-items w) (raw ∷ r.rest, r.serves)
        ((w.text ++ line_for continues) ++ last_words fixed.NoMemory, RunningOut runs, takes_then_front w.wrote front) tt)

-- ---- a request that is entered

-- what stands where the request was entered, and this is the text of its reply
record Replied (limit n : ℕ) (items : List Item) (entered : List Raw) (replies : List Reply) (text line : List ℕ) (raw : Raw) : Type 0 where
  rest : List Raw
  serves : served items limit ≡ entered ++ rest
  output_is : output items limit replies None ≡ text ++ line

replied : {limit n : ℕ} {given : List Item} {entered : List Raw} {replies : List Reply} {text : List ℕ} (raw : Raw) (continues : Bool) (rest : List Item) (reply : Reply)
    → Serves limit given entered replies text (suc n)
    → Replied limit n ((given ++ request_items raw continues) ++ rest) (entered ++ raw ∷ []) (replies ++ reply ∷ []) (text ++ reply_text continues (raw.close || n == 0) reply) (cond raw.close [] (next_line rest n [])) raw
replied {limit} {n} {given} {entered} {replies} {text} raw continues rest reply done =
    let t = took raw continues reply done in
    let items = (given ++ request_items raw continues) ++ rest in
    let all = replies ++ reply ∷ [] in
    let out = text ++ reply_text continues (raw.close || n == 0) reply in
    let r : Refused limit n items entered replies text raw continues = refused raw continues rest done in
    let writes : replies_text items limit all ≡ out =
    ap (λ rs. replies_text items limit rs) (sym (append-nil all)) ∙ t.writes rest [] ∙ ap (λ more. out ++ more) (nothing raw.close (no-replies [] rest n)) ∙ append-nil out in
    let line : next_line items limit all ≡ cond raw.close [] (next_line rest n []) =
    ap (λ rs. next_line items limit rs) (sym (append-nil all)) ∙ t.waits rest [] in
    record {
      rest = r.rest;
      serves = r.serves ∙ sym (append_assoc entered (raw ∷ []) r.rest);
      output_is = append-nil (replies_text items limit all ++ next_line items limit all)
          ∙ ap (λ told. told ++ next_line items limit all) writes ∙ ap (λ l. out ++ l) line;
    }
  where
    nothing : {xs : List ℕ} (b : Bool) → xs ≡ [] → cond b [] xs ≡ []
    nothing true h = refl
    nothing false h = h

-- the flag of the reply
flag : (limit i n : ℕ) (asked last : Bool) → i + suc n ≡ limit → last ≡ (asked || i + 1 == limit) → last ≡ (asked || n == 0)
flag limit i n asked last sum is = is ∙ ap (λ b. asked || b) (last_flag i n limit sum)

-- the reply was lost
pub stops_lost : {limit i n : ℕ} {talk : TalkState} {part : Part} {continues : Bool} {means0 means1 means2 : Means} {input0 input1 : SourceState} {output0 output1 : SinkState} (reply : Reply)
    → Waiting limit i n talk part.raw continues means0 means1 input0 input1 output0 output1 → Took means1 means2 part reply → IsWell part
    → Session (Err fault.NoMemory) limit means0 means2 input0 input1 output0 output1
stops_lost {limit} {i} {n} {talk} {part} {continues} {means0} {means1} {means2} {input0} {input1} {output0} {output1} reply w t well =
    let r : Refused limit n ((w.given ++ request_items part.raw continues) ++ items_from talk) (requests_of w.parts) w.replies w.text part.raw continues = refused part.raw continues (items_from talk) w.done in
    session_of (grown-push w.grown_by t well) w.bytes (inl w.moved) (waiting-items w) (r.rest, front-push _ r.rest w.parts part r.serves)
    (w.text ++ line_for continues, inr (record { before = w.replies; lost = reply; all = refl; text_is = sym (refused-output r None ∙ append-nil (w.text ++ line_for continues)) }), w.wrote) tt

-- the reply wasn't written whole
pub stops_unwritten : {limit i n : ℕ} {talk : TalkState} {part : Part} {continues : Bool} {means0 means1 means2 : Means} {input0 input1 : SourceState} {output0 output1 output2 : SinkState} (last : Bool) (reply : Reply)
    → last ≡ is_last_of limit i part.raw.close → Waiting limit i n talk part.raw continues means0 means1 input0 input1 output0 output1 → Took means1 means2 part reply → IsWell part
    → TakesFront output1 output2 (rendered reply last) → Session (Err fault.WriteFault) limit means0 means2 input0 input1 output0 output2
stops_unwritten {limit} {i} {n} {talk} {part} {continues} {means0} {means1} {means2} {input0} {input1} {output0} {output1} {output2} last reply is w t well front =
    let raw = part.raw in
    let r = replied raw continues (items_from talk) reply w.done in
    let line = cond raw.close [] (next_line (items_from talk) n []) in
    let out = w.text ++ reply_text continues (raw.close || n == 0) reply in
    let whole : TakesFront output0 output2 out =
    subst (λ b. TakesFront output0 output2 (w.text ++ reply_text continues b reply)) (flag limit i n raw.close last w.left_is is)
    (subst (TakesFront output0 output2) (append_assoc w.text (line_for continues) (rendered reply last)) (takes_then_front w.wrote front)) in
    session_of (grown-push w.grown_by t well) w.bytes (inl w.moved) (waiting-items w)
    (r.rest, r.serves ∙ ap (λ raws. raws ++ r.rest) (sym (requests-push w.parts part))) (out ++ line, Replying (sym r.output_is), front_of_more line whole) tt

-- the run was given up for want of memory, and the last words are the reply
pub stops_parked : {limit i n : ℕ} {talk : TalkState} {part : Part} {continues : Bool} {means0 means1 means2 : Means} {input0 input1 : SourceState} {output0 output1 output2 : SinkState} (got : TalkError)
    → Waiting limit i n talk part.raw continues means0 means1 input0 input1 output0 output1 → Took means1 means2 part (park_reply why.NoMemory) → mark_of part ≡ kept.Yes → is_out part.run ≡ true
    → PartsOut got output1 output2 → Session (Err got) limit means0 means2 input0 input1 output0 output2
stops_parked {limit} {i} {n} {talk} {part} {continues} {means0} {means1} {means2} {input0} {input1} {output0} {output1} {output2} got w t marked out parts =
    subst (λ (x : TalkError). Session (Err x) limit means0 means2 input0 input1 output0 output2) (sym parts.0)
    (session_with (work-push w.grown_by.work t) w.bytes (inl w.moved) (waiting-items w) (r.rest, front-push _ r.rest w.parts part r.serves) (writes (ends parts.1)) tt)
  where
    items : List Item
    items = (w.given ++ request_items part.raw continues) ++ items_from talk

    r : Refused limit n items (requests_of w.parts) w.replies w.text part.raw continues
    r = refused part.raw continues (items_from talk) w.done

    text_is : output items limit w.replies (Some fixed.NoMemory) ≡ (w.text ++ line_for continues) ++ last_words fixed.NoMemory
    text_is = refused-output r (Some fixed.NoMemory)

    writes : EndsOut (Err fault.NoMemory) output0 output2 (output items limit w.replies (Some fixed.NoMemory))
        → session.Writes (Err fault.NoMemory) items limit means2.known (w.parts ++ part ∷ []) (w.replies ++ park_reply why.NoMemory ∷ []) output0 output2
    writes ends = Out (record {
      last = part;
      last_is = record { before = w.parts; all = refl; well = w.grown_by.well };
      marked = marked;
      out = out;
      before = w.replies;
      all = refl;
      ends = ends;
    })

    ends : Takes output1 output2 (last_words fixed.NoMemory) ⊎ TakesFront output1 output2 (last_words fixed.NoMemory)
        → EndsOut (Err fault.NoMemory) output0 output2 (output items limit w.replies (Some fixed.NoMemory))
    ends (inl takes) = inl (subst (Takes output0 output2) (sym text_is) (takes_twice w.wrote takes))
    ends (inr front) = inr (subst (TakesFront output0 output2) (sym text_is) (takes_then_front w.wrote front))

-- a session that breaks off at an entry that isn't kept had read some of its bytes, and may have been at any of its requests
breaks_anywhere : (out : Bool) (mark : Kept) (why : TalkError) → BreaksFor out mark why → {input0 input1 : SourceState} {bytes : List ℕ} → Moves input0 input1 bytes → (known : Known) (requests entered : List Raw)
    → session.IsFront entered requests → (halt : Halt) (replies : ℕ)
    → session.Reads (Err why) input0 input1 bytes × (session.has_ended (Err why) ≡ false) × session.Enters (Err why) known requests entered × session.StopsAs (Err why) halt replies
breaks_anywhere out kept.Yes why breaks moved known requests entered front halt replies = absurd breaks
breaks_anywhere true kept.Failed why breaks moved known requests entered front halt replies = rw breaks (inl moved, refl, front, tt)
breaks_anywhere false kept.Failed why breaks moved known requests entered front halt replies = rw breaks (moved, refl, front, tt)
breaks_anywhere true kept.NoMemory why breaks moved known requests entered front halt replies = rw breaks (inl moved, refl, front, tt)
breaks_anywhere false kept.NoMemory why breaks moved known requests entered front halt replies = rw breaks (inl moved, refl, front, tt)

-- an entry isn't kept, and no reply is written
pub stops_unkept : {limit i n : ℕ} {talk : TalkState} {part : Part} {continues : Bool} {means0 means1 means2 : Means} {input0 input1 : SourceState} {output0 output1 : SinkState} (reply : Reply) (why : TalkError)
    → Waiting limit i n talk part.raw continues means0 means1 input0 input1 output0 output1 → Took means1 means2 part reply → BreaksFor (is_out part.run) (mark_of part) why
    → Session (Err why) limit means0 means2 input0 input1 output0 output1
stops_unkept {limit} {i} {n} {talk} {part} {continues} {means0} {means1} {means2} {input0} {input1} {output0} {output1} reply why w t breaks =
    session_with (work-push w.grown_by.work t) w.bytes any.0 (waiting-items w ∙ ap (λ ended. items_of w.bytes ended) (sym any.1)) any.2 (NoMore writes) any.3
  where
    items : List Item
    items = (w.given ++ request_items part.raw continues) ++ items_from talk

    r : Refused limit n items (requests_of w.parts) w.replies w.text part.raw continues
    r = refused part.raw continues (items_from talk) w.done

    any : session.Reads (Err why) input0 input1 w.bytes × (session.has_ended (Err why) ≡ false) × session.Enters (Err why) means2.known (served items limit) (requests_of (w.parts ++ part ∷ []))
        × session.StopsAs (Err why) (halt_of items limit) (length (w.parts ++ part ∷ []))
    any = breaks_anywhere (is_out part.run) (mark_of part) why breaks w.moved means2.known (served items limit) (requests_of (w.parts ++ part ∷ [])) (r.rest, front-push _ r.rest w.parts part r.serves)
        (halt_of items limit) (length (w.parts ++ part ∷ []))

    writes : session.WritesNoMore (Err why) items limit (w.parts ++ part ∷ []) (w.replies ++ reply ∷ []) output0 output1
    writes = record {
      last = part;
      last_is = record { before = w.parts; all = refl; well = w.grown_by.well };
      why = why;
      breaks = breaks;
      result_is = refl;
      before = w.replies;
      unwritten = reply;
      all = refl;
      ends = subst (Takes output0 output1) (sym (refused-output r None ∙ append-nil (w.text ++ line_for continues))) w.wrote;
    }

-- where nothing was entered, a request waits as before
waits-still : {limit i n : ℕ} {talk : TalkState} {raw : Raw} {continues : Bool} {means0 means1 means2 : Means} {input0 input1 : SourceState} {output0 output1 : SinkState}
    → Waiting limit i n talk raw continues means0 means1 input0 input1 output0 output1 → Idles means1 means2 → Waiting limit i n talk raw continues means0 means2 input0 input1 output0 output1
waits-still w idles = record {
  bytes = w.bytes;
  given = w.given;
  parts = w.parts;
  replies = w.replies;
  text = w.text;
  moved = w.moved;
  led = w.led;
  still = w.still;
  grown_by = grown-saw w.grown_by idles;
  count = w.count;
  left_is = w.left_is;
  done = w.done;
  wrote = w.wrote;
}

-- the session breaks off at a request
pub breaks_off : {limit i n : ℕ} {talk : TalkState} {raw : Raw} {continues : Bool} {means0 means1 means2 : Means} {input0 input1 : SourceState} {output0 output1 output2 : SinkState} (last : Bool) (what : Outcome) (why : TalkError)
    → last ≡ is_last_of limit i raw.close → Waiting limit i n talk raw continues means0 means1 input0 input1 output0 output1 → Answers means1 means2 raw what → Sends what last (Err why) output1 output2
    → Session (Err why) limit means0 means2 input0 input1 output0 output2
breaks_off {limit} {i} {n} {talk} {raw} {continues} {means0} {means1} {means2} {input0} {input1} {output0} {output1} {output2} last what why is w answers sends = at what why answers sends
  where
    -- for the request of a part
    of_part : (part : Part) → part.raw ≡ raw → (why : TalkError)
        → (last ≡ is_last_of limit i part.raw.close → Waiting limit i n talk part.raw continues means0 means1 input0 input1 output0 output1 → Session (Err why) limit means0 means2 input0 input1 output0 output2)
        → Session (Err why) limit means0 means2 input0 input1 output0 output2
    of_part part same why stops =
        stops (subst (λ (r : Raw). last ≡ is_last_of limit i r.close) (sym same) is) (subst (λ (r : Raw). Waiting limit i n talk r continues means0 means1 input0 input1 output0 output1) (sym same) w)

    at : (what : Outcome) (why : TalkError) → Answers means1 means2 raw what → Sends what last (Err why) output1 output2 → Session (Err why) limit means0 means2 input0 input1 output0 output2
    at (outcome.Reply reply) fault.WriteFault e front = of_part e.0 e.1 fault.WriteFault (λ is w. stops_unwritten last reply is w e.2 e.3 front)
    at (outcome.Reply reply) fault.NoMemory e same = of_part e.0 e.1 fault.NoMemory
        (λ is w. subst (λ (o : SinkState). Session (Err fault.NoMemory) limit means0 means2 input0 input1 output0 o) (sym same) (stops_lost reply w e.2 e.3))
    at (outcome.Reply reply) fault.ReadFault e sends = absurd sends
    at (outcome.Reply reply) fault.Cut e sends = absurd sends
    at (outcome.Reply reply) fault.Full e sends = absurd sends
    at (outcome.Reply reply) fault.KeepFault e sends = absurd sends
    at outcome.Parked got e parts = of_part e.0 e.1 got (λ is w. stops_parked got w e.2 e.3 e.4 parts)
    at (outcome.Unkept reason) got e sends = of_part e.0 e.2 got
        (λ is w. subst (λ (o : SinkState). Session (Err got) limit means0 means2 input0 input1 output0 o) (sym sends.1)
        (stops_unkept e.1 got w e.3 (subst (BreaksFor (is_out e.0.run) (mark_of e.0)) (sym sends.0) e.4)))
    at outcome.Full why e parts = stops_full why (waits-still w e.0) e.1 parts
    at outcome.NoMemory why e parts = stops_no_memory why (waits-still w e) parts

-- the request was entered and its reply written
pub record Done (limit i n : ℕ) (talk : TalkState) (raw : Raw) (means0 means1 : Means) (input0 input1 : SourceState) (output0 output1 : SinkState) : Type 0 where
  pub bytes : List ℕ
  pub given : List Item
  pub before : List Raw
  pub parts : List Part
  pub replies : List Reply
  pub text : List ℕ
  pub continues : Bool
  pub moved : Moves input0 input1 bytes
  pub led : Leads (talk_of bytes false) given talk
  pub still : talk.ended ≡ false
  pub grown_by : Grown means0 means1 parts replies
  pub requests : requests_of parts ≡ before ++ raw ∷ []
  pub count : length parts ≡ i + 1
  pub left_is : i + suc n ≡ limit
  pub done : TookText limit given before replies text raw continues n
  pub wrote : Takes output0 output1 text

pub answered : {limit i n : ℕ} {talk : TalkState} {raw : Raw} {continues : Bool} {means0 means1 means2 : Means} {input0 input1 : SourceState} {output0 output1 output2 : SinkState} (last : Bool) (what : Outcome) (nothing : ⊤)
    → last ≡ is_last_of limit i raw.close → Waiting limit i n talk raw continues means0 means1 input0 input1 output0 output1 → Answers means1 means2 raw what → Sends what last (Ok nothing) output1 output2
    → Done limit i n talk raw means0 means2 input0 input1 output0 output2
answered {limit} {i} {n} {talk} {raw} {continues} {means0} {means1} {means2} {input0} {input1} {output0} {output1} {output2} last what nothing is w answers sends = at what answers sends
  where
    at : (what : Outcome) → Answers means1 means2 raw what → Sends what last (Ok nothing) output1 output2 → Done limit i n talk raw means0 means2 input0 input1 output0 output2
    at (outcome.Reply reply) e takes = record {
      bytes = w.bytes;
      given = w.given ++ request_items raw continues;
      before = requests_of w.parts;
      parts = w.parts ++ e.0 ∷ [];
      replies = w.replies ++ reply ∷ [];
      text = w.text ++ reply_text continues (raw.close || n == 0) reply;
      continues = continues;
      moved = w.moved;
      led = w.led;
      still = w.still;
      grown_by = grown-push w.grown_by e.2 e.3;
      requests = requests-push w.parts e.0 ∙ ap (λ (r : Raw). requests_of w.parts ++ r ∷ []) e.1;
      count = length_push w.parts e.0 ∙ ap (λ k. k + 1) w.count;
      left_is = w.left_is;
      done = took raw continues reply w.done;
      wrote = subst (λ b. Takes output0 output2 (w.text ++ reply_text continues b reply)) (flag limit i n raw.close last w.left_is is)
          (subst (Takes output0 output2) (append_assoc w.text (line_for continues) (rendered reply last)) (takes_twice w.wrote takes));
    }
    at outcome.Parked e sends = absurd sends
    at (outcome.Unkept why) e sends = absurd sends
    at outcome.Full e sends = absurd sends
    at outcome.NoMemory e sends = absurd sends

pub serves_on : {limit i n : ℕ} {talk : TalkState} {raw : Raw} {means0 means1 : Means} {input0 input1 : SourceState} {output0 output1 : SinkState}
    → Done limit i n talk raw means0 means1 input0 input1 output0 output1 → raw.close ≡ false → Serving limit (i + 1) talk means0 means1 input0 input1 output0 output1
serves_on {limit} {i} {n} {talk} {raw} d stays = record {
  bytes = d.bytes;
  given = d.given;
  parts = d.parts;
  replies = d.replies;
  text = d.text;
  left = n;
  moved = d.moved;
  led = d.led;
  still = d.still;
  grown_by = d.grown_by;
  count = d.count;
  left_is = (let sum = d.left_is in omega arith);
  done = subst (λ raws. Serves limit d.given raws d.replies d.text n) (sym d.requests) (goes_further d.done stays);
  wrote = d.wrote;
}

pub stops_asked : {limit i n : ℕ} {talk : TalkState} {raw : Raw} {means0 means1 : Means} {input0 input1 : SourceState} {output0 output1 : SinkState} (closed : Closed)
    → closed ≡ record { replies = i + 1; stop = stop.Asked } → Done limit i n talk raw means0 means1 input0 input1 output0 output1 → raw.close ≡ true
    → Session (Ok closed) limit means0 means1 input0 input1 output0 output1
stops_asked {limit} {i} {n} {talk} {raw} {means0} {means1} {input0} {input1} {output0} {output1} closed is d closes =
    let rest = items_from talk in
    let last = goes_no_further d.done closes rest in
    let items = d.given ++ rest in
    let out : output items limit d.replies None ≡ d.text =
    append-nil (replies_text items limit d.replies ++ next_line items limit d.replies)
    ∙ ap (λ told. told ++ next_line items limit d.replies) last.2 ∙ ap (λ l. d.text ++ l) last.3 ∙ append-nil d.text in
    subst (λ (c : Closed). Session (Ok c) limit means0 means1 input0 input1 output0 output1) (sym is)
    (session_of d.grown_by d.bytes d.moved (sym (items_lead (talk_of d.bytes false) talk d.given d.led)) (d.requests ∙ sym last.0) (subst (Takes output0 output1) (sym out) d.wrote) (last.1, sym d.count))

-- ---- what a step comes to

-- the session ended, or goes on with one reply more
abbrev pub Follows : ℕ → ℕ → TalkState → Option (Result Closed TalkError) → Means → Means → SourceState → SourceState → SinkState → SinkState → Type 0
Follows limit i talk (Some result) means0 means1 input0 input1 output0 output1 = Session result limit means0 means1 input0 input1 output0 output1
Follows limit i talk None means0 means1 input0 input1 output0 output1 = Serving limit (i + 1) talk means0 means1 input0 input1 output0 output1

follows_asked : {limit i n : ℕ} {talk : TalkState} {raw : Raw} {means0 means1 : Means} {input0 input1 : SourceState} {output0 output1 : SinkState} (asked : Bool) → raw.close ≡ asked
    → Done limit i n talk raw means0 means1 input0 input1 output0 output1 → Follows limit i talk (closes_if asked (i + 1)) means0 means1 input0 input1 output0 output1
follows_asked {i = i} true closes done = stops_asked (closed_as (i + 1) stop.Asked) refl done closes
follows_asked false stays done = serves_on done stays

pub follows : {limit i : ℕ} {talk new : TalkState} {means0 means1 : Means} {input0 input1 input2 : SourceState} {output0 output1 : SinkState} (means2 : Means) (output2 : SinkState) (what : Fetched) (end : Option (Result Closed TalkError)) → i < limit
    → Serving limit i talk means0 means1 input0 input1 output0 output1 → Fetches talk new what input1 input2 → Steps limit i what end means1 means2 output1 output2
    → Follows limit i new end means0 means2 input0 input2 output0 output2
follows {limit} {i} {talk} {new} {means0} {means1} {input0} {input1} {input2} {output0} {output1} means2 output2 what end below s fetches steps = at what fetches steps
  where
    ends : (result : Result Closed TalkError) → end ≡ Some result → means2 ≡ means1 → Session result limit means0 means1 input0 input2 output0 output2
        → Follows limit i new end means0 means2 input0 input2 output0 output2
    ends result is same done =
        subst (λ (e : Option (Result Closed TalkError)). Follows limit i new e means0 means2 input0 input2 output0 output2) (sym is)
        (subst (λ (m : Means). Session result limit means0 m input0 input2 output0 output2) (sym same) done)

    ends_as : (result : Result Closed TalkError) → stepping.EndsAs result end means1 means2 output1 output2 → Session result limit means0 means1 input0 input2 output0 output1
        → Follows limit i new end means0 means2 input0 input2 output0 output2
    ends_as result as_is done = ends result as_is.end_is as_is.means (subst (λ (o : SinkState). Session result limit means0 means1 input0 input2 output0 o) (sym as_is.output) done)

    sent : (raw : Raw) (continues : Bool) → Fetches talk new (fetched.Request raw continues) input1 input2 → (r : stepping.Serves limit i raw continues end means1 means2 output1 output2)
        → (got : Result ⊤ TalkError) → r.sent ≡ got → Sends r.what (is_last_of limit i raw.close) got r.middle output2
        → Follows limit i new (stepping.after_sending got (closes_if raw.close (i + 1))) means0 means2 input0 input2 output0 output2
    sent raw continues fetches r (Ok done) is sends =
        let waiting = waits raw continues below s fetches r.announced in
        follows_asked raw.close refl (answered (is_last_of limit i raw.close) r.what done refl waiting.1 r.answers sends)
    sent raw continues fetches r (Err why) is sends =
        let waiting = waits raw continues below s fetches r.announced in
        breaks_off (is_last_of limit i raw.close) r.what why refl waiting.1 r.answers sends

    at : (what : Fetched) → Fetches talk new what input1 input2 → Steps limit i what end means1 means2 output1 output2 → Follows limit i new end means0 means2 input0 input2 output0 output2
    at (fetched.Request raw continues) fetches (inl r) =
        subst (λ (e : Option (Result Closed TalkError)). Follows limit i new e means0 means2 input0 input2 output0 output2) (sym r.end_is) (sent raw continues fetches r r.sent refl r.sends)
    at (fetched.Request raw continues) fetches (inr r) = ends (Err fault.WriteFault) r.end_is r.means (line_fails raw continues below s fetches r.front)
    at (fetched.Close status) fetches r = ends r.result r.end_is r.means (stops_close status r.result below s fetches r.closes)
    at fetched.End fetches r = ends_as (Ok (closed_as i stop.End)) r (stops_end (closed_as i stop.End) refl below s fetches)
    at fetched.Cut fetches r = ends_as (Err fault.Cut) r (stops_cut below s fetches)
    at fetched.ReadFault fetches r = ends_as (Err fault.ReadFault) r (stops_read_fault below s fetches)
    at fetched.NoMemory fetches r = ends (Err r.why) r.end_is r.means (stops_out r.why s fetches r.parts)

-- the same of a connection, whose sink a read leaves, and whose source a write leaves
pub follows_on : {limit i : ℕ} {talk new : TalkState} {means0 means1 : Means} {input0 input1 input2 : SourceState} {output0 output1 : SinkState} (means2 : Means) (middle output2 : SinkState) (input3 : SourceState) (what : Fetched)
    (end : Option (Result Closed TalkError)) → i < limit → Serving limit i talk means0 means1 input0 input1 output0 output1 → Fetches talk new what input1 input2 → Steps limit i what end means1 means2 middle output2
    → middle ≡ output1 → input3 ≡ input2 → Follows limit i new end means0 means2 input0 input3 output0 output2
follows_on {limit} {i} {talk} {new} {means0} {means1} {input0} {input1} {input2} {output0} {output1} means2 middle output2 input3 what end below s fetches steps read wrote =
    subst (λ (x : SourceState). Follows limit i new end means0 means2 input0 x output0 output2) (sym wrote)
    (follows means2 output2 what end below s fetches (subst (λ (o : SinkState). Steps limit i what end means1 means2 o output2) read steps))

-- a session is closed with no other status than a closing one
pub closes_known : {old new : TalkState} {input0 input1 : SourceState} (what : Fetched) → Fetches old new what input0 input1 → ClosesKnown what
closes_known (fetched.Request raw continues) fetches = tt
closes_known (fetched.Close status) fetches = closing_status _ _ status fetches.item
closes_known fetched.End fetches = tt
closes_known fetched.Cut fetches = tt
closes_known fetched.ReadFault fetches = tt
closes_known fetched.NoMemory fetches = tt

-- ---- a session that did nothing

pub none_served : {output0 output1 : SinkState} (why : TalkError) (limit : ℕ) (means : Means) (input : SourceState) → IsLegal means.known.setup (entries_in means.known.front) → Parts fixed.NoMemory fault.NoMemory why output0 output1
    → Session (Err why) limit means means input input output0 output1
none_served {output0} {output1} why limit means input legal parts =
    let nothing : Fetches (talk_of [] false) (talk_of [] false) fetched.NoMemory input input = record { bytes = []; read = inl (moves_nothing input); item = tt } in
    stops_out why (begins limit means input output0 legal) nothing parts
