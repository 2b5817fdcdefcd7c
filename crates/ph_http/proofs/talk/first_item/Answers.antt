use Rattle.std.proofs.Common.{take, drop, ap, sym, ◌∙◌, arith}
use Rattle.std.proofs.lemmas.List.{length-drop, take_rest}
use Rattle.ph_head.specs.Parts.{parts_at}
use Rattle.ph_http.specs.Cut.{head_len}
use Rattle.ph_http.specs.Requests.{raw_with}
use Rattle.ph_http.specs.TalkState.{TalkState}
use Rattle.ph_http.proofs.TalkLemmas.{window, same_without, same_part, gives_no_head, gives_close, gives_part, gives_continue, gives_request}
use Rattle.ph_http.proofs.talk.first_item.Goals as goal

pub returns-in_default-clause-gives : goal.returns-in_default-clause-gives
returns-in_default-clause-gives c =
    let bytes = c.args.bytes.now in
    let talk : TalkState = record { unread = bytes; ended = c.args.ended; continued = c.args.continued } in
    let found = c.in_default.ensures.value ∙ ap (λ n. head_len (take n bytes)) c.min-window.ensures ∙ ap head_len (window bytes) in
    rw (c.kept.ensures, c.without_head.ensures, same_without bytes c.args.ended c.args.continued) (gives_no_head talk (sym found))

pub returns-then-rest-n-clause-gives : goal.returns-then-rest-n-clause-gives
returns-then-rest-n-clause-gives c =
    let bytes = c.args.bytes.now in
    let talk : TalkState = record { unread = bytes; ended = c.args.ended; continued = c.args.continued } in
    let head = parts_at (take c.in-Some.end bytes) c.judge_head.new.room c.in-Accepts.spans in
    let found = c.in-Some.ensures.value ∙ ap (λ n. head_len (take n bytes)) c.min-window.ensures ∙ ap head_len (window bytes) in
    rw (c.kept-then-rest-n.ensures, c.part_of_body.ensures, same_part talk)
    (gives_part talk c.in-Some.end c.in-Accepts.n head (sym found) (sym c.in-Accepts.ensures.judged) (omega (arith, length-drop c.in-Some.end bytes)))

pub returns-then-is_continue_due-clause-gives : goal.returns-then-is_continue_due-clause-gives
returns-then-is_continue_due-clause-gives c =
    let bytes = c.args.bytes.now in
    let talk : TalkState = record { unread = bytes; ended = c.args.ended; continued = c.args.continued } in
    let head = parts_at (take c.in-Some.end bytes) c.judge_head.new.room c.in-Accepts.spans in
    let found = c.in-Some.ensures.value ∙ ap (λ n. head_len (take n bytes)) c.min-window.ensures ∙ ap head_len (window bytes) in
    rw c.kept-then-is_continue_due.ensures
    (gives_continue talk c.in-Some.end c.in-Accepts.n head (sym found) (sym c.in-Accepts.ensures.judged) (omega (arith, length-drop c.in-Some.end bytes))
    (sym c.is_continue_due.ensures ∙ c.if-is_continue_due.true))

pub returns-in-Closes-clause-gives : goal.returns-in-Closes-clause-gives
returns-in-Closes-clause-gives c =
    let bytes = c.args.bytes.now in
    let talk : TalkState = record { unread = bytes; ended = c.args.ended; continued = c.args.continued } in
    let found = c.in-Some.ensures.value ∙ ap (λ n. head_len (take n bytes)) c.min-window.ensures ∙ ap head_len (window bytes) in
    rw c.kept-in-Closes.ensures (gives_close talk c.in-Some.end c.in-Closes.status (sym found) (sym c.in-Closes.ensures.judged))

pub returns-in_ok-raw-in-Accepts-clause-gives : goal.returns-in_ok-raw-in-Accepts-clause-gives
returns-in_ok-raw-in-Accepts-clause-gives c =
    let bytes = c.args.bytes.now in
    let talk : TalkState = record { unread = bytes; ended = c.args.ended; continued = c.args.continued } in
    let rest = drop c.in-Some.end bytes in
    let spans = c.in-Accepts.spans in
    let n = c.in-Accepts.n in
    let head = parts_at (take c.in-Some.end bytes) c.judge_head.new.room spans in
    let found = c.in-Some.ensures.value ∙ ap (λ n. head_len (take n bytes)) c.min-window.ensures ∙ ap head_len (window bytes) in
    let raw = c.in_ok-raw-in-Accepts.ensures
    ∙ ap (λ b. raw_with c.of.result.now c.of-in-Accepts.result.now spans.version head.headers (take n b)) (take_rest bytes c.in-Some.end)
    ∙ ap (λ m. raw_with m c.of-in-Accepts.result.now spans.version head.headers (take n rest)) c.of.ensures
    ∙ ap (λ t. raw_with head.method t spans.version head.headers (take n rest)) c.of-in-Accepts.ensures in
    gives_request talk c.in-Some.end n head c.in_ok-raw-in-Accepts.raw (sym found) (sym c.in-Accepts.ensures.judged)
    (omega (arith, length-drop c.in-Some.end bytes)) (sym c.is_continue_due.ensures ∙ c.if-is_continue_due.false) raw
