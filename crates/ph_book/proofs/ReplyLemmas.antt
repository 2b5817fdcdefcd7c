-- What is said to entries: replies with their statuses.
use Rattle.std.proofs.Common.{◌≡◌, ◌≢◌, ℕ, ◌+◌, ◌<◌, ◌^◌, ◌∷◌, Bool, true, false, not, ◌==◌, ◌&&◌, ◌||◌, List, [], length, Option, Some, None, refl, sym, ap, ◌∙◌, subst, codes, IsTrue}
use Rattle.std.specs.List.{list_all}
use Rattle.std.specs.Option.{option_or}
use Rattle.std.proofs.lemmas.Bool.{cond-true, eq-eqb, eqb-true, false≢true}
use Rattle.ph_base.specs.declared.acquirer.Decline.{Decline}
use Rattle.ph_base.specs.declared.acquirer.Ruling.{Ruling}
use Rattle.ph_base.specs.declared.acquirer.Ruling.TheVariants as ruling
use Rattle.ph_base.specs.declared.acquirer.Why.TheVariants as why
use Rattle.ph_base.specs.declared.acquirer.Why.{Why}
use Rattle.ph_attempts.specs.declared.flights.Flight.{Flight}
use Rattle.ph_errors.specs.Table.{CardDeclined, KeyDiffers, KeyInUse, NoSuchObject, error_of}
use Rattle.ph_http.specs.Replies.{is_status}
use Rattle.ph_http.specs.declared.message.Raw.{Raw}
use Rattle.ph_http.specs.declared.message.Reply.{Reply}
use Rattle.ph_items.specs.declared.intents.CaptureMethod.{CaptureMethod}
use Rattle.ph_items.specs.declared.orders.Order.{Order}
use Rattle.ph_rows.specs.Batches.{BatchState, version_with}
use Rattle.ph_rows.specs.Rows.{latest_of}
use Rattle.ph_rows.specs.Views.{ViewState}
use Rattle.ph_rows.specs.declared.rows.Row.{Row}
use Rattle.ph_facts.specs.Keeps.{IsDone, IsReady, batch_after, most_rows}
use Rattle.ph_facts.specs.Outcomes.{Outcome, Refuses, Adds}
use Rattle.ph_facts.specs.Shown.{shown_in, shows}
use Rattle.ph_facts.specs.Statuses.{status_ruled}
use Rattle.ph_facts.specs.Touches.{Settles, order_asked}
use Rattle.ph_doings.specs.Doings as doing
use Rattle.ph_doings.specs.Statuses.{status_of}
use Rattle.ph_doings.proofs.RowLemmas.{rows_say_past}
use Rattle.ph_book.specs.Answers.{HasStatus, IsNoPark, Says, is_ruled}
use Rattle.ph_book.specs.declared.judged.Judged.{Judged}
use Rattle.ph_book.specs.declared.judged.Judged.TheVariants.{Refused, Accepted}
use Rattle.ph_book.specs.Calls.{Keys, Upshot, Rejects, Replays, Makes, Shows, Sets, by_found, called_at, carried, is_fresh, key_asked, opens, request_upshot, resumed_by, resumed_from}
use Rattle.ph_book.specs.Called.{ServesFound}
use Rattle.ph_book.specs.Keys.{asked_in, request_of}
use Rattle.ph_calls.specs.declared.call.Call.{Call}
use Rattle.ph_doings.specs.Records.{Found}
use Rattle.ph_doings.specs.Records as found
use Rattle.ph_idem.specs.declared.asked.Asked.{Asked}
use Rattle.ph_idem.specs.declared.key_record.KeyRecord.{KeyRecord}
use Rattle.ph_idem.specs.declared.key_record.Saved.{Saved}
use Rattle.ph_idem.specs.Kept.{records_after}
use Rattle.ph_idem.specs.Records.{found_in, saved_in}
use Rattle.ph_items.specs.declared.attempts.Attempt.{Attempt}
use Rattle.ph_items.specs.Items.{attempt_in}
use Rattle.ph_book.specs.Entries.{call_entry, finish_entry}
use Rattle.ph_book.specs.History.{call_effect, doings_after, doings_of, effect_to, finish_effect, keys_after, outcome_said, past_of, reply_at, rows_after, ruled_outcome, said_to, saids_after, shown_or_waits, time_after, turns_after}
use Rattle.ph_book.specs.Legal.{IsLegal}
use Rattle.ph_book.specs.State.{BookState, IsBook, is_reply_well, is_saved_well, records_of}
use Rattle.ph_book.specs.Tickets.{Holds}
use Rattle.ph_attempts.specs.declared.flights.Attempt as flights
use Rattle.ph_book.specs.declared.acts.Entry.{Entry}
use Rattle.ph_book.specs.declared.setup.Setup.{Setup}
use Rattle.ph_book.proofs.EffectLemmas.{own_may_end, ruled_done}
use Rattle.ph_book.proofs.ServeLemmas.{records_serve}
use Rattle.ph_book.proofs.StandLemmas.{legal_stands, view_after}
use Rattle.ph_book.specs.Replies.{Said, Replies, Waits, Silence, declined_reply, park_reply, ruling_reply, settled_reply, version_reply}
use Rattle.ph_book.specs.declared.acts.Answer.{Answer}
use Rattle.ph_book.specs.declared.acts.Answer.TheVariants as answer
use Rattle.ph_book.proofs.CallLemmas.{KeepsCall, KeepsJudged, carried_keeps, judged_keeps}
use Rattle.ph_book.proofs.ErrorLemmas.{answered, is_served, refusal_answered}
use Rattle.ph_book.proofs.OwnLemmas.{IsOwn, carried_own}

abbrev pub IsServed : Reply → Type 0
IsServed reply = is_served reply.status ≡ true

-- ---- calls

-- what is said to a call: a served reply, or that it waits
abbrev pub IsServedOrWaits : Said → Type 0
IsServedOrWaits (Replies reply) = IsServed reply
IsServedOrWaits (Waits order) = Unit {0}
IsServedOrWaits Silence = ⊥

version_served : (now : ℕ) (rows : List Row) (version : Option Row) → IsServed (version_reply now rows version)
version_served now rows None = answered (NoSuchObject (codes "id"))
version_served now rows (Some row) = refl

-- a reply that is given once more was served
abbrev pub AnswersSaved : Upshot → Type 0
AnswersSaved (Rejects error) = Unit {0}
AnswersSaved (Replays reply) = is_served reply.status ≡ true
AnswersSaved (Makes outcome) = Unit {0}
AnswersSaved (Shows doc) = Unit {0}
AnswersSaved (Sets moment) = Unit {0}

-- what a call comes to by itself gives no saved reply
own_saved : (upshot : Upshot) → IsOwn upshot → AnswersSaved upshot
own_saved (Rejects error) own = tt
own_saved (Replays reply) own = absurd own
own_saved (Makes outcome) own = tt
own_saved (Shows doc) own = tt
own_saved (Sets moment) own = tt

carried_saved : (rows : List Row) (account now : ℕ) (c : Call) (batch : BatchState) → AnswersSaved (carried rows account now c batch)
carried_saved rows account now c batch = own_saved (carried rows account now c batch) (carried_own rows account now c batch)

shown_served : (now : ℕ) (rows : List Row) (object : ℕ) (batch : BatchState) (order : Option Order)
    → IsServedOrWaits (shown_or_waits now rows object batch order)
shown_served now rows object batch None = version_served now rows (version_with rows batch object)
shown_served now rows object batch (Some order) = tt

call_served : (state : ViewState) (key : Option (List ℕ)) (opens_ : Bool) (place caller : ℕ) (upshot : Upshot) → KeepsCall state upshot → AnswersSaved upshot
    → IsServedOrWaits (call_effect key opens_ state.rows state.time place caller upshot).said
call_served state key opens_ place caller (Rejects error) keeps saved = keeps
call_served state key opens_ place caller (Replays reply) keeps saved = saved
call_served state key opens_ place caller (Makes (Refuses error)) keeps saved = refusal_answered error keeps
call_served state key opens_ place caller (Makes (Adds touch object batch)) keeps saved = shown_served state.time state.rows object batch (order_asked touch)
call_served state key opens_ place caller (Shows doc) keeps saved = refl
call_served state key opens_ place caller (Sets moment) keeps saved = refl

-- what is said where an attempt is taken up again; where there is none, nothing is shown
resumed_by_served : (now : ℕ) (rows : List Row) (row : Row) (batch : BatchState) (attempt : Option Attempt) → IsServedOrWaits (outcome_said now rows (resumed_by row batch attempt))
resumed_by_served now rows row batch None = shown_served now rows 0 batch None
resumed_by_served now rows row batch (Some attempt) = tt

resumed_from_served : (now : ℕ) (rows : List Row) (batch : BatchState) (version : Option Row) → IsServedOrWaits (outcome_said now rows (resumed_from batch version))
resumed_from_served now rows batch None = shown_served now rows 0 batch None
resumed_from_served now rows batch (Some row) = resumed_by_served now rows row batch (attempt_in row.item)

-- the replies that are saved under keys are served
abbrev pub AreServed : Keys → Type 0
AreServed keys = (asked : Asked) (place : ℕ) → keys.found asked ≡ found.Saved place → is_served (keys.reply place).status ≡ true

found_served : (state : ViewState) (keys : Keys) (place caller : ℕ) (own : Upshot) (asked : Asked) (batch : BatchState) → KeepsCall state own → AnswersSaved own
    → AreServed keys → (what : Found) → keys.found asked ≡ what
    → IsServedOrWaits (call_effect (Some asked.key) (is_fresh what) state.rows state.time place caller (by_found keys state.rows batch own what)).said
found_served state keys place caller own asked batch keeps saved served found.Fresh is = call_served state (Some asked.key) true place caller own keeps saved
found_served state keys place caller own asked batch keeps saved served found.Differs is = answered KeyDiffers
found_served state keys place caller own asked batch keeps saved served found.Live is = answered KeyInUse
found_served state keys place caller own asked batch keeps saved served (found.Parked reference) is = resumed_from_served state.time state.rows batch (latest_of reference state.rows)
found_served state keys place caller own asked batch keeps saved served (found.Saved at) is = served asked at is

request_served : (state : ViewState) (keys : Keys) (place caller : ℕ) (judged : Judged) → IsReady state → KeepsJudged judged → AreServed keys
    → IsServedOrWaits (call_effect (key_asked (asked_in judged)) (opens keys (asked_in judged)) state.rows state.time place caller
    (request_upshot keys state.rows state.time (batch_after state place) judged)).said
request_served state keys place caller (Refused error) ready keeps served = keeps
request_served state keys place caller (Accepted account c None) ready keeps served =
    call_served state None false place caller (carried state.rows account state.time c (batch_after state place)) (carried_keeps state place account c ready keeps)
    (carried_saved state.rows account state.time c (batch_after state place))
request_served state keys place caller (Accepted account c (Some asked)) ready keeps served =
    found_served state keys place caller (carried state.rows account state.time c (batch_after state place)) asked (batch_after state place)
    (carried_keeps state place account c ready keeps) (carried_saved state.rows account state.time c (batch_after state place)) served (keys.found asked) refl

-- ---- rulings

-- rows that show a settled attempt have its payment intent
has_intent : (rows : List Row) (intent : ℕ) (order : Order) (capture : CaptureMethod) (how : Ruling)
    → shown_in rows ≡ shows (Settles intent order capture how) → latest_of intent rows ≡ None → ⊥
has_intent rows intent order capture how shown none =
    let flight : Flight = record { caller = 0; run = 0; order = order } in
    let past = doing.Settles intent flight capture how ∷ [] in
    let nothing : status_of past intent ≡ None = ((rows_say_past past rows shown).none intent none).0 in
    let some : status_of past intent ≡ Some (status_ruled capture how) =
    cond-true (intent == intent) (Some (status_ruled capture how)) None (eq-eqb intent intent refl) in
    let clash : None ≡ Some (status_ruled capture how) = sym nothing ∙ some in
    cc

declined_ruled : (decline : Decline) → is_ruled (error_of (CardDeclined decline)).status ≡ true
unfolding error_of
declined_ruled decline = refl

settled_ruled : (now : ℕ) (rows : List Row) (how : Ruling) (object : ℕ) (batch : BatchState) (row : Row) → version_with rows batch object ≡ Some row
    → is_ruled (settled_reply now rows how object batch).status ≡ true
settled_ruled now rows ruling.Approved object batch row e = ap (λ (v : Option Row). is_ruled (version_reply now rows v).status) e
settled_ruled now rows (ruling.Declined decline) object batch row e =
    ap (λ (v : Option Row). is_ruled (declined_reply now rows decline v).status) e ∙ declined_ruled decline
settled_ruled now rows ruling.Challenge object batch row e = ap (λ (v : Option Row). is_ruled (version_reply now rows v).status) e

-- so a ruling is answered by the payment intent, or by the decline
pub ruling_ruled : (state : ViewState) (most intent : ℕ) (order : Order) (capture : CaptureMethod) (how : Ruling) (outcome : Outcome)
    → IsDone state most (Settles intent order capture how) intent outcome → is_ruled (ruling_reply state.time state.rows how outcome).status ≡ true
ruling_ruled state most intent order capture how (Refuses error) done = absurd done
ruling_ruled state most intent order capture how (Adds touch object batch) done = at (latest_of object batch.rows) refl
  where
    at : (found : Option Row) → latest_of object batch.rows ≡ found → is_ruled (settled_reply state.time state.rows how object batch).status ≡ true
    at None none =
        absurd (has_intent batch.rows intent order capture how done.2.shown (subst (λ n. latest_of n batch.rows ≡ None) done.1 none))
    at (Some row) some = settled_ruled state.time state.rows how object batch row (ap (λ o. option_or o (latest_of object state.rows)) some)

-- ---- answers

-- the status of a served reply is one that replies are written with, and no park's
served_status : (status : ℕ) → is_served status ≡ true → IsTrue (is_status status)
served_status status served = left (is_status status) (not (status == 500)) served
  where
    left : (a b : Bool) → (a && b) ≡ true → a ≡ true
    left true b e = refl
    left false b e = e

served_no_park : (status : ℕ) → is_served status ≡ true → status ≢ 500
served_no_park status served is =
    let five : is_served 500 ≡ true = subst (λ n. is_served n ≡ true) is served in
    false≢true five

-- the answer that says it
pub says_served : (place caller : ℕ) (said : Said) (given : Answer) → IsServedOrWaits said → Says place caller said given → HasStatus given × IsNoPark given
says_served place caller (Replies reply) (answer.Reply given) served says =
    let is : is_served given.status ≡ true = subst (λ (r : Reply). is_served r.status ≡ true) (sym says) served in
    (served_status given.status is, served_no_park given.status is)
says_served place caller (Replies reply) (answer.Wait ticket) served says = absurd says
says_served place caller (Replies reply) answer.Done served says = absurd says
says_served place caller (Waits order) (answer.Reply given) served says = absurd says
says_served place caller (Waits order) (answer.Wait ticket) served says = (tt, tt)
says_served place caller (Waits order) answer.Done served says = absurd says
says_served place caller Silence given served says = absurd served

-- a ruled status is served
pub ruled_status : (status : ℕ) → is_ruled status ≡ true → IsTrue (is_status status)
ruled_status status is = at (status == 200) (status == 402) refl refl is
  where
    at : (one other : Bool) → (status == 200) ≡ one → (status == 402) ≡ other → (one || other) ≡ true → IsTrue (is_status status)
    at true other e f h = subst (λ n. IsTrue (is_status n)) (sym (eqb-true status 200 e)) refl
    at false true e f h = subst (λ n. IsTrue (is_status n)) (sym (eqb-true status 402 f)) refl
    at false false e f h = absurd (false≢true h)

pub says_reply : (place caller : ℕ) (said : Said) (reply : Reply) → said ≡ Replies reply → Says place caller said (answer.Reply reply)
says_reply place caller said reply is = subst (λ (s : Said). Says place caller s (answer.Reply reply)) (sym is) refl

pub says_wait : (place caller : ℕ) (said : Said) (order : Order) (ticket : Flight) → said ≡ Waits order
    → ticket ≡ record { caller = caller; run = place; order = order } → Says place caller said (answer.Wait ticket)
says_wait place caller said order ticket is ticket_is = subst (λ (s : Said). Says place caller s (answer.Wait ticket)) (sym is) ticket_is

-- nothing is said where Done answers
pub says_silence : (place caller : ℕ) (said : Said) → said ≡ Silence → Says place caller said answer.Done
says_silence place caller said is = subst (λ (s : Said). Says place caller s answer.Done) (sym is) tt

-- the reply to a park has a status that replies are written with
pub park_status : (why : Why) → IsTrue (is_status (park_reply why).status)
unfolding error_of
park_status why.Pending = refl
park_status why.Failed = refl
park_status why.NoMemory = refl

-- ---- after a legal history

-- a record that is found has a reply of a served status
saved_well : (records : List KeyRecord) (entry : ℕ) (reply : Saved) → list_all is_saved_well records ≡ true → saved_in entry records ≡ Some reply
    → is_served reply.status ≡ true
saved_well [] entry reply well is = absurd (cc)
saved_well (kept ∷ records) entry reply well is = at (kept.entry == entry) refl (both (is_saved_well kept) (list_all is_saved_well records) well)
    (saved_well records entry reply)
  where
    both : (a b : Bool) → (a && b) ≡ true → (a ≡ true) × (b ≡ true)
    both true true e = (refl, refl)
    both true false e = absurd (cc)
    both false b e = absurd (cc)

    at : (here : Bool) → (kept.entry == entry) ≡ here → (is_saved_well kept ≡ true) × (list_all is_saved_well records ≡ true)
        → (list_all is_saved_well records ≡ true → saved_in entry records ≡ Some reply → is_served reply.status ≡ true) → is_served reply.status ≡ true
    at true e wells more =
        let same : kept.result ≡ Some reply = rw e at is in
        sym (ap is_reply_well same) ∙ wells.0
    at false e wells more = more wells.1 (rw e at is)

-- what is said to a call
pub said_to_call : (setup : Setup) (history : List Entry) (records : List KeyRecord) (caller : ℕ) (raw : Raw) → setup.entries < 2 ^ 32 → IsLegal setup history
    → records ≡ records_of setup history → list_all is_saved_well records ≡ true → IsServedOrWaits (said_to setup history (call_entry caller raw))
unfolding effect_to called_at records_of
said_to_call setup history records caller raw few legal kept well =
    let stood = legal_stands setup history few legal in
    let past = past_of setup history in
    let keys = keys_after setup past in
    let serve = records_serve setup past stood in
    request_served (view_after setup past) keys (length past + 1) caller (request_of setup.key (rows_after setup past) raw) stood.stands.ready (judged_keeps setup.key (rows_after setup past) raw)
    (λ asked place is.
    let there = subst (λ (what : Found). ServesFound keys (rows_after setup past) (records_after (reply_at (saids_after past)) setup.opened (turns_after setup past)) what
    (found_in asked.account asked.key asked.shape (time_after setup past) (records_after (reply_at (saids_after past)) setup.opened (turns_after setup past)))) is (serve asked) in
    saved_well (records_after (reply_at (saids_after past)) setup.opened (turns_after setup past)) there.entry (keys.reply place)
    (ap (list_all is_saved_well) (sym kept) ∙ well) there.reply_is)

-- what is said to a ruling on a live run
pub said_to_finish : (setup : Setup) (history : List Entry) (caller : ℕ) (ticket : Flight) (how : Ruling) (reply : Reply) → setup.entries < 2 ^ 32
    → IsLegal setup history → Holds setup history caller ticket → said_to setup history (finish_entry caller ticket how) ≡ Replies reply
    → is_ruled reply.status ≡ true
unfolding effect_to Holds doings_of
said_to_finish setup history caller ticket how reply few legal holds said =
    let stood = legal_stands setup history few legal in
    let past = past_of setup history in
    let may = own_may_end (view_after setup past) (doings_after past) caller ticket.run ticket stood.stands holds in
    let ruled = ruling_ruled (view_after setup past) most_rows may.intent ticket.order may.processing.intent.capture_method how
    (ruled_outcome (rows_after setup past) (time_after setup past) (length past + 1) ticket.order.reference how)
    (ruled_done (view_after setup past) (doings_after past) (length past + 1) ticket how stood.stands may) in
    let here = ap (λ found. (finish_effect (keys_after setup past) (rows_after setup past) (time_after setup past) (length past + 1) how found).said) (sym holds) ∙ said in
    let same : ruling_reply (time_after setup past) (rows_after setup past) how (ruled_outcome (rows_after setup past) (time_after setup past) (length past + 1) ticket.order.reference how) ≡ reply = cc in
    subst (λ (r : Reply). is_ruled r.status ≡ true) same ruled

-- ---- over what a book keeps

pub finish_ruled : (old : BookState) (setup : Setup) (history : List Entry) (rows : List Row) (time weight : ℕ) (attempts : List flights.Attempt) (records : List KeyRecord) (live caller : ℕ) (ticket : Flight) (how : Ruling) (reply : Reply)
    → record { setup = setup; history = history } ≡ old → IsBook setup history rows time weight attempts records live → Holds old.setup old.history caller ticket
    → said_to old.setup old.history (finish_entry caller ticket how) ≡ Replies reply → is_ruled reply.status ≡ true
finish_ruled old setup history rows time weight attempts records live caller ticket how reply is b holds said =
    said_to_finish setup history caller ticket how reply b.few b.legal (subst (λ (x : BookState). Holds x.setup x.history caller ticket) (sym is) holds)
    (subst (λ (x : BookState). said_to x.setup x.history (finish_entry caller ticket how) ≡ Replies reply) (sym is) said)

pub call_answered : (old : BookState) (setup : Setup) (history : List Entry) (rows : List Row) (time weight : ℕ) (attempts : List flights.Attempt) (records : List KeyRecord) (live place caller : ℕ) (raw : Raw) (given : Answer)
    → record { setup = setup; history = history } ≡ old → IsBook setup history rows time weight attempts records live
    → Says place caller (said_to old.setup old.history (call_entry caller raw)) given → HasStatus given × IsNoPark given
call_answered old setup history rows time weight attempts records live place caller raw given is b says =
    says_served place caller (said_to setup history (call_entry caller raw)) given (said_to_call setup history records caller raw b.few b.legal b.records_are b.statuses)
    (subst (λ (x : BookState). Says place caller (said_to x.setup x.history (call_entry caller raw)) given) (sym is) says)
