-- The records of keys after each kind of entry, and what an entry saves.
use Rattle.std.proofs.Common.{◌≡◌, ℕ, suc, ◌+◌, ◌^◌, ◌<◌, ◌==◌, ◌&&◌, ◌++◌, ◌∷◌, Bool, true, false, if◌then◌else◌, List, [], length, map, Option, Some, None, is_some, refl, sym, ap, ◌∙◌, arith}
use Rattle.std.specs.List.{find, list_all}
use Rattle.std.proofs.lemmas.Bool.Decides.{nat_tests}
use Rattle.std.proofs.lemmas.List.Sums.{fold-append}
use Rattle.ph_attempts.specs.Attempts.{Step}
use Rattle.ph_attempts.specs.Attempts as step
use Rattle.ph_attempts.specs.declared.flights.Flight.{Flight}
use Rattle.ph_base.specs.declared.acquirer.Ruling.{Ruling}
use Rattle.ph_calls.specs.declared.call.Call.{Call}
use Rattle.ph_doings.specs.Doings.{Doing, Leaves, Puts, Edits, Begins, Resumes, Parks, Settles}
use Rattle.ph_doings.specs.Kept.{step_of}
use Rattle.ph_doings.specs.Records.{Found, Turn, is_over, last_opened, time_of}
use Rattle.ph_doings.specs.Records as found
use Rattle.ph_http.specs.declared.message.Raw.{Raw}
use Rattle.ph_http.specs.declared.message.Reply.{Reply}
use Rattle.ph_idem.specs.declared.asked.Asked.{Asked}
use Rattle.ph_idem.specs.declared.key_record.KeyRecord.{KeyRecord}
use Rattle.ph_idem.specs.declared.key_record.Saved.{Saved}
use Rattle.ph_idem.specs.Kept.{Opening, has_key, is_like, kept_of, opening_of, openings}
use Rattle.ph_idem.specs.Laws.{saved_under, with_opened, with_settled}
use Rattle.ph_idem.specs.Records.{is_attached, is_entry, is_newest, opened_record, update_first, with_result}
use Rattle.ph_idem.proofs.OpenLemmas.{AreOpened, are_opened}
use Rattle.ph_items.specs.declared.intents.CaptureMethod.{CaptureMethod}
use Rattle.ph_items.specs.declared.orders.Order.{Order}
use Rattle.ph_rows.specs.declared.rows.Row.{Row}
use Rattle.ph_rows.specs.Batches.{BatchState, empty_batch}
use Rattle.ph_book.specs.declared.setup.Setup.{Setup}
use Rattle.ph_book.specs.declared.acts.Deed.{Deed}
use Rattle.ph_book.specs.declared.acts.Deed.TheVariants as deed
use Rattle.ph_book.specs.declared.acts.Entry.{Entry}
use Rattle.ph_book.specs.declared.endings.Saving.{Saving as SavedFor}
use Rattle.ph_book.specs.declared.judged.Judged.{Judged}
use Rattle.ph_book.specs.declared.judged.Judged.TheVariants.{Refused, Accepted}
use Rattle.ph_book.specs.Called.{asked_if, begun_records, kept_records, opening_weight, record_key, saved_records, saving_of, saving_weight}
use Rattle.ph_book.specs.Called as called
use Rattle.ph_book.specs.Calls.{Keys, Upshot, Rejects, Replays, Makes, Shows, Sets, by_found, called_at, carried, is_fresh, key_asked, opens, request_upshot}
use Rattle.ph_book.specs.Entries.{call_entry}
use Rattle.ph_book.specs.History.{Effect, Happening, and_then, call_effect, asks_after, asks_to, effect_after, effect_to, happening_of, keys_after, past_of, reply_at, said_briefly, saids_after, saved_said, time_after, turn_of, turns_after}
use Rattle.ph_book.specs.History as happened
use Rattle.ph_book.specs.Keys.{asked_in, request_of}
use Rattle.ph_book.specs.Legal.{IsAllowed, IsLegal, saved_weight}
use Rattle.ph_book.specs.Replies.{Said, Replies, Waits}
use Rattle.ph_book.specs.State.{is_saved_well, is_status_well, records_of}
use Rattle.ph_book.proofs.HistoryLemmas.{length_past}
use Rattle.ph_book.proofs.KeyLawLemmas.{legal_turned, said_count, turn_count, turn_time}
use Rattle.ph_book.proofs.RecordLemmas.{records_more}
use Rattle.ph_book.proofs.OwnLemmas.{IsOwn, carried_own}
use Rattle.ph_book.proofs.WaitLemmas.{fresh_over, key_found, over_fresh}

-- ---- doings that settle nothing

-- the step settles no attempt
abbrev pub SettlesNone : Option Step → Type 0
SettlesNone None = Unit {0}
SettlesNone (Some (step.Begins flight)) = Unit {0}
SettlesNone (Some (step.Resumes flight)) = Unit {0}
SettlesNone (Some (step.Parks flight)) = Unit {0}
SettlesNone (Some (step.Settles flight)) = ⊥

unsettled : (reply : Saved) (does : Doing) (records : List KeyRecord) → SettlesNone (step_of does) → with_settled reply does records ≡ records
unsettled reply Leaves records none = refl
unsettled reply (Puts intent status) records none = refl
unsettled reply (Edits intent status) records none = refl
unsettled reply (Begins cause intent flight) records none = refl
unsettled reply (Resumes intent flight) records none = refl
unsettled reply (Parks intent flight) records none = refl
unsettled reply (Settles intent flight capture ruling) records none = absurd none

-- ---- who opens a record

-- nothing is found exactly where the last record of the key is over
fresh_is : (past : List (Turn Asked)) (asked : Asked) (opened : ℕ)
    → is_fresh (found.record_of (has_key asked) (is_like asked) opened past) ≡ is_over (last_opened (has_key asked) (is_like asked) opened past) (time_of opened past)
fresh_is past asked opened = at (is_over (last_opened (has_key asked) (is_like asked) opened past) (time_of opened past)) refl
  where
    fresh_only : (what : Found) → is_fresh what ≡ true → what ≡ found.Fresh
    fresh_only found.Fresh is = refl
    fresh_only found.Differs is = absurd (let clash : false ≡ true = is in cc)
    fresh_only found.Live is = absurd (let clash : false ≡ true = is in cc)
    fresh_only (found.Parked reference) is = absurd (let clash : false ≡ true = is in cc)
    fresh_only (found.Saved place) is = absurd (let clash : false ≡ true = is in cc)

    tested : (fresh : Bool) → is_fresh (found.record_of (has_key asked) (is_like asked) opened past) ≡ fresh
        → is_over (last_opened (has_key asked) (is_like asked) opened past) (time_of opened past) ≡ false → fresh ≡ false
    tested true e over =
        let wrong : false ≡ true = sym over ∙ fresh_over past (time_of opened past) (last_opened (has_key asked) (is_like asked) opened past) (fresh_only _ e) in absurd (cc)
    tested false e over = refl

    at : (over : Bool) → is_over (last_opened (has_key asked) (is_like asked) opened past) (time_of opened past) ≡ over
        → is_fresh (found.record_of (has_key asked) (is_like asked) opened past) ≡ is_over (last_opened (has_key asked) (is_like asked) opened past) (time_of opened past)
    at true e = ap is_fresh (over_fresh past (time_of opened past) (last_opened (has_key asked) (is_like asked) opened past) e) ∙ sym e
    at false e = tested (is_fresh (found.record_of (has_key asked) (is_like asked) opened past)) refl e ∙ sym e

-- the record that a call opens which asks this, where it opens one
abbrev pub opened_if : Bool → Option Asked → ℕ → ℕ → List Opening
opened_if open_ None place moment = []
opened_if open_ (Some asked) place moment = if open_ then (record { asked = asked; place = place; moment = moment }) ∷ [] else []

opening_is : (setup : Setup) (past : List Happening) (asked : Option Asked)
    → opening_of setup.opened (turns_after setup past) asked
    ≡ opened_if (opens (keys_after setup past) asked) asked (suc (length (turns_after setup past))) (time_of setup.opened (turns_after setup past))
opening_is setup past None = refl
opening_is setup past (Some asked) =
    ap (λ fresh. opened_if fresh (Some asked) (suc (length (turns_after setup past))) (time_of setup.opened (turns_after setup past)))
    (sym (fresh_is (turns_after setup past) asked setup.opened))

-- a call saves its reply exactly where it opens a record
own_saves : (key : Option (List ℕ)) (opens_ : Bool) (rows : List Row) (now place caller : ℕ) (upshot : Upshot) → IsOwn upshot
    → (call_effect key opens_ rows now place caller upshot).saves ≡ opens_
own_saves key opens_ rows now place caller (Rejects error) own = absurd own
own_saves key opens_ rows now place caller (Replays saved) own = absurd own
own_saves key opens_ rows now place caller (Makes outcome) own = refl
own_saves key opens_ rows now place caller (Shows doc) own = refl
own_saves key opens_ rows now place caller (Sets moment) own = refl

none_saves : (rows : List Row) (now place caller : ℕ) (upshot : Upshot) → (call_effect None false rows now place caller upshot).saves ≡ false
none_saves rows now place caller (Rejects error) = refl
none_saves rows now place caller (Replays saved) = refl
none_saves rows now place caller (Makes outcome) = refl
none_saves rows now place caller (Shows doc) = refl
none_saves rows now place caller (Sets moment) = refl

found_saves : (rows : List Row) (now : ℕ) (keys : Keys) (place caller : ℕ) (own : Upshot) (asked : Asked) (batch : BatchState) → IsOwn own → (what : Found)
    → (call_effect (Some asked.key) (is_fresh what) rows now place caller (by_found keys rows batch own what)).saves ≡ is_fresh what
found_saves rows now keys place caller own asked batch by_itself found.Fresh = own_saves (Some asked.key) true rows now place caller own by_itself
found_saves rows now keys place caller own asked batch by_itself found.Differs = refl
found_saves rows now keys place caller own asked batch by_itself found.Live = refl
found_saves rows now keys place caller own asked batch by_itself (found.Parked reference) = refl
found_saves rows now keys place caller own asked batch by_itself (found.Saved at) = refl

request_saves : (rows : List Row) (now : ℕ) (keys : Keys) (place caller : ℕ) (judged : Judged)
    → (call_effect (key_asked (asked_in judged)) (opens keys (asked_in judged)) rows now place caller
    (request_upshot keys rows now (empty_batch (length rows) now place) judged)).saves ≡ opens keys (asked_in judged)
request_saves rows now keys place caller (Refused error) = refl
request_saves rows now keys place caller (Accepted account c None) = none_saves rows now place caller (carried rows account now c (empty_batch (length rows) now place))
request_saves rows now keys place caller (Accepted account c (Some asked)) =
    found_saves rows now keys place caller (carried rows account now c (empty_batch (length rows) now place)) asked (empty_batch (length rows) now place)
    (carried_own rows account now c (empty_batch (length rows) now place)) (keys.found asked)

call_saves : (setup : Setup) (past : List Happening) (caller : ℕ) (raw : Raw)
    → (effect_after setup past (call_entry caller raw)).saves ≡ opens (keys_after setup past) (asks_after setup past (deed.Call raw))
unfolding called_at
call_saves setup past caller raw =
    request_saves (happened.rows_after setup past) (time_after setup past) (keys_after setup past) (length past + 1) caller (request_of setup.key (happened.rows_after setup past) raw)

pub saves_opens : (setup : Setup) (history : List Entry) (caller : ℕ) (raw : Raw)
    → (effect_to setup history (call_entry caller raw)).saves ≡ opens (keys_after setup (past_of setup history)) (asks_to setup history (deed.Call raw))
unfolding effect_to
saves_opens setup history caller raw = call_saves setup (past_of setup history) caller raw

-- ---- the records after a call

-- what an entry replied is its reply
reply_now : (setup : Setup) (past : List Happening) (entry : Entry)
    → reply_at (saids_after (and_then setup past entry)) (suc (length (turns_after setup past))) ≡ saved_said (effect_after setup past entry).said
reply_now setup past entry =
    let h : Happening = happening_of setup past entry in
    let all : saids_after (and_then setup past entry) ≡ h.said ∷ saids_after past = fold-append (λ (all : List Said) (x : Happening). x.said ∷ all) [] past (h ∷ []) in
    let turns = turn_count setup past in
    let saids = said_count past in
    let here : (suc (length (turns_after setup past)) == suc (length (saids_after past))) ≡ true = grind (arith, nat_tests, turns, saids) in
    ap (λ (s : List Said). reply_at s (suc (length (turns_after setup past)))) all ∙ rw here refl

-- a record is opened with the reply to its call
replied_records : (reply : ℕ → Saved) (open_ : Bool) (asked : Option Asked) (place moment : ℕ) (given : Reply) (records : List KeyRecord)
    → reply place ≡ record { status = given.status; body = given.body }
    → with_opened reply found.Replies (opened_if open_ asked place moment) records ≡ kept_records (called.saved_opening_of (asked_if open_ asked) given) place moment records
replied_records reply true None place moment given records is = refl
replied_records reply false None place moment given records is = refl
replied_records reply true (Some asked) place moment given records is =
    ap (λ (saved : Saved). with_result saved (opened_record asked place moment) ∷ records) is
replied_records reply false (Some asked) place moment given records is = refl

-- or with the attempt that it waits for
waiting_records : (reply : ℕ → Saved) (open_ : Bool) (asked : Option Asked) (place moment reference : ℕ) (records : List KeyRecord)
    → with_opened reply (found.Waits reference) (opened_if open_ asked place moment) records ≡ begun_records (asked_if open_ asked) place moment reference records
waiting_records reply true None place moment reference records = refl
waiting_records reply false None place moment reference records = refl
waiting_records reply true (Some asked) place moment reference records = refl
waiting_records reply false (Some asked) place moment reference records = refl

-- the records after a call that settles nothing
call_opened : (setup : Setup) (history : List Entry) (caller : ℕ) (raw : Raw) → setup.entries < 2 ^ 32 → IsLegal setup history
    → IsAllowed setup (past_of setup history) (call_entry caller raw) → SettlesNone (step_of (effect_to setup history (call_entry caller raw)).doing)
    → records_of setup (history ++ call_entry caller raw ∷ [])
    ≡ with_opened (reply_at (saids_after (and_then setup (past_of setup history) (call_entry caller raw)))) (said_briefly (effect_to setup history (call_entry caller raw)).said)
    (opened_if (effect_to setup history (call_entry caller raw)).saves (asks_to setup history (deed.Call raw)) (length history + 1) (happened.time_of setup history))
    (records_of setup history)
unfolding effect_to happened.time_of
call_opened setup history caller raw small legal allowed none =
    let past : List Happening = past_of setup history in
    let entry : Entry = call_entry caller raw in
    let said : found.Said = said_briefly (effect_after setup past entry).said in
    let reply : ℕ → Saved = reply_at (saids_after (and_then setup past entry)) in
    let place : suc (length (turns_after setup past)) ≡ length history + 1 =
    (let turns = turn_count setup past in let count = length_past setup history in omega (arith, turns, count)) in
    records_more setup history entry small legal allowed
    ∙ ap (λ (records : List KeyRecord). with_opened reply said (opening_of setup.opened (turns_after setup past) (asks_to setup history (deed.Call raw))) records)
    (unsettled (reply (suc (length (turns_after setup past)))) (effect_after setup past entry).doing (records_of setup history) none)
    ∙ ap (λ (all : List Opening). with_opened reply said all (records_of setup history)) (opening_is setup past (asks_to setup history (deed.Call raw)))
    ∙ ap (λ open_. with_opened reply said (opened_if open_ (asks_to setup history (deed.Call raw)) (suc (length (turns_after setup past))) (time_of setup.opened (turns_after setup past))) (records_of setup history))
    (sym (call_saves setup past caller raw))
    ∙ ap (λ (p : ℕ × ℕ). with_opened reply said (opened_if (effect_after setup past entry).saves (asks_to setup history (deed.Call raw)) p.0 p.1) (records_of setup history))
    (λ i. (place i, turn_time setup past i))

pub replied_kept : (setup : Setup) (history : List Entry) (caller : ℕ) (raw : Raw) (reply : Reply) → setup.entries < 2 ^ 32 → IsLegal setup history
    → IsAllowed setup (past_of setup history) (call_entry caller raw) → SettlesNone (step_of (effect_to setup history (call_entry caller raw)).doing)
    → (effect_to setup history (call_entry caller raw)).said ≡ Replies reply
    → records_of setup (history ++ call_entry caller raw ∷ [])
    ≡ kept_records (called.saved_opening_of (asked_if (effect_to setup history (call_entry caller raw)).saves (asks_to setup history (deed.Call raw))) reply)
    (length history + 1) (happened.time_of setup history) (records_of setup history)
unfolding effect_to happened.time_of
replied_kept setup history caller raw reply small legal allowed none said =
    let past : List Happening = past_of setup history in
    let entry : Entry = call_entry caller raw in
    let replies : ℕ → Saved = reply_at (saids_after (and_then setup past entry)) in
    let place : suc (length (turns_after setup past)) ≡ length history + 1 =
    (let turns = turn_count setup past in let count = length_past setup history in omega (arith, turns, count)) in
    let here : replies (length history + 1) ≡ record { status = reply.status; body = reply.body } =
    ap replies (sym place) ∙ reply_now setup past entry ∙ ap saved_said said in
    call_opened setup history caller raw small legal allowed none
    ∙ ap (λ (s : Said). with_opened replies (said_briefly s) (opened_if (effect_after setup past entry).saves (asks_to setup history (deed.Call raw)) (length history + 1) (time_after setup past)) (records_of setup history)) said
    ∙ replied_records replies (effect_after setup past entry).saves (asks_to setup history (deed.Call raw)) (length history + 1) (time_after setup past) reply (records_of setup history) here

pub waiting_kept : (setup : Setup) (history : List Entry) (caller : ℕ) (raw : Raw) (order : Order) → setup.entries < 2 ^ 32 → IsLegal setup history
    → IsAllowed setup (past_of setup history) (call_entry caller raw) → SettlesNone (step_of (effect_to setup history (call_entry caller raw)).doing)
    → (effect_to setup history (call_entry caller raw)).said ≡ Waits order
    → records_of setup (history ++ call_entry caller raw ∷ [])
    ≡ begun_records (asked_if (effect_to setup history (call_entry caller raw)).saves (asks_to setup history (deed.Call raw)))
    (length history + 1) (happened.time_of setup history) order.reference (records_of setup history)
unfolding effect_to happened.time_of
waiting_kept setup history caller raw order small legal allowed none said =
    let past : List Happening = past_of setup history in
    let entry : Entry = call_entry caller raw in
    let replies : ℕ → Saved = reply_at (saids_after (and_then setup past entry)) in
    call_opened setup history caller raw small legal allowed none
    ∙ ap (λ (s : Said). with_opened replies (said_briefly s) (opened_if (effect_after setup past entry).saves (asks_to setup history (deed.Call raw)) (length history + 1) (time_after setup past)) (records_of setup history)) said
    ∙ waiting_records replies (effect_after setup past entry).saves (asks_to setup history (deed.Call raw)) (length history + 1) (time_after setup past) order.reference (records_of setup history)

-- ---- the records after an entry that asks nothing

-- an entry that asks nothing and settles nothing leaves them
pub quiet_kept : (setup : Setup) (history : List Entry) (entry : Entry) → setup.entries < 2 ^ 32 → IsLegal setup history
    → IsAllowed setup (past_of setup history) entry → asks_to setup history entry.deed ≡ None → SettlesNone (step_of (effect_to setup history entry).doing)
    → records_of setup (history ++ entry ∷ []) ≡ records_of setup history
unfolding effect_to
quiet_kept setup history entry small legal allowed asks none =
    let past : List Happening = past_of setup history in
    let said : found.Said = said_briefly (effect_after setup past entry).said in
    let reply : ℕ → Saved = reply_at (saids_after (and_then setup past entry)) in
    records_more setup history entry small legal allowed
    ∙ ap (λ (asked : Option Asked). with_opened reply said (opening_of setup.opened (turns_after setup past) asked)
    (with_settled (reply (suc (length (turns_after setup past)))) (effect_after setup past entry).doing (records_of setup history))) asks
    ∙ unsettled (reply (suc (length (turns_after setup past)))) (effect_after setup past entry).doing (records_of setup history) none

-- a call that takes an attempt up opens none
pub resumed_kept : (setup : Setup) (history : List Entry) (entry : Entry) → setup.entries < 2 ^ 32 → IsLegal setup history
    → IsAllowed setup (past_of setup history) entry → (effect_to setup history entry).saves ≡ false
    → SettlesNone (step_of (effect_to setup history entry).doing) → records_of setup (history ++ entry ∷ []) ≡ records_of setup history
unfolding effect_to
resumed_kept setup history entry small legal allowed saves none = at entry.deed refl
  where
    past : List Happening
    past = past_of setup history

    at : (d : Deed) → entry.deed ≡ d → records_of setup (history ++ entry ∷ []) ≡ records_of setup history
    at (deed.Call raw) is =
        let said : found.Said = said_briefly (effect_after setup past entry).said in
        let reply : ℕ → Saved = reply_at (saids_after (and_then setup past entry)) in
        let opens_none : opens (keys_after setup past) (asks_to setup history entry.deed) ≡ false =
        ap (λ d. opens (keys_after setup past) (asks_to setup history d)) is ∙ sym (call_saves setup past entry.caller raw)
        ∙ ap (λ d. (effect_after setup past (record { caller = entry.caller; deed = d })).saves) (sym is) ∙ saves in
        records_more setup history entry small legal allowed
        ∙ ap (λ (all : List Opening). with_opened reply said all
        (with_settled (reply (suc (length (turns_after setup past)))) (effect_after setup past entry).doing (records_of setup history)))
        (opening_is setup past (asks_to setup history entry.deed)
        ∙ ap (λ open_. opened_if open_ (asks_to setup history entry.deed) (suc (length (turns_after setup past))) (time_of setup.opened (turns_after setup past))) opens_none
        ∙ opened_none (asks_to setup history entry.deed) (suc (length (turns_after setup past))) (time_of setup.opened (turns_after setup past)))
        ∙ unsettled (reply (suc (length (turns_after setup past)))) (effect_after setup past entry).doing (records_of setup history) none
      where
        opened_none : (asked : Option Asked) (place moment : ℕ) → opened_if false asked place moment ≡ []
        opened_none None place moment = refl
        opened_none (Some asked) place moment = refl
    at (deed.Finish run ruling) is = quiet_kept setup history entry small legal allowed (ap (asks_to setup history) is) none
    at (deed.Park run why) is = quiet_kept setup history entry small legal allowed (ap (asks_to setup history) is) none
    at deed.Resume is = quiet_kept setup history entry small legal allowed (ap (asks_to setup history) is) none
    at (deed.Tick moment) is = quiet_kept setup history entry small legal allowed (ap (asks_to setup history) is) none

-- after a ruling its reply is saved for the call that waits for it
settled_records : (found_ : Option KeyRecord) (reply : Reply) (records : List KeyRecord)
    → saved_under (record { status = reply.status; body = reply.body }) found_ records ≡ saved_records reply.status (saving_of found_ reply) records
settled_records None reply records = refl
settled_records (Some kept) reply records = refl

pub settled_kept : (setup : Setup) (history : List Entry) (entry : Entry) (intent : ℕ) (flight : Flight) (capture : CaptureMethod) (ruling : Ruling) (reply : Reply)
    → setup.entries < 2 ^ 32 → IsLegal setup history → IsAllowed setup (past_of setup history) entry → asks_to setup history entry.deed ≡ None
    → (effect_to setup history entry).doing ≡ Settles intent flight capture ruling → (effect_to setup history entry).said ≡ Replies reply
    → records_of setup (history ++ entry ∷ [])
    ≡ saved_records reply.status (saving_of (find (is_attached flight.order.reference) (records_of setup history)) reply) (records_of setup history)
unfolding effect_to
settled_kept setup history entry intent flight capture ruling reply small legal allowed asks does said =
    let past : List Happening = past_of setup history in
    let brief : found.Said = said_briefly (effect_after setup past entry).said in
    let replies : ℕ → Saved = reply_at (saids_after (and_then setup past entry)) in
    let records : List KeyRecord = records_of setup history in
    records_more setup history entry small legal allowed
    ∙ ap (λ (asked : Option Asked). with_opened replies brief (opening_of setup.opened (turns_after setup past) asked)
    (with_settled (replies (suc (length (turns_after setup past)))) (effect_after setup past entry).doing records)) asks
    ∙ ap (λ (d : Doing). with_settled (replies (suc (length (turns_after setup past)))) d records) does
    ∙ ap (λ (saved : Saved). saved_under saved (find (is_attached flight.order.reference) records) records) (reply_now setup past entry ∙ ap saved_said said)
    ∙ settled_records (find (is_attached flight.order.reference) records) reply records

-- ---- the key of a record that waits

-- the key of the call that began an attempt is that of the record that waits for it
pub key_kept : (setup : Setup) (history : List Entry) (reference : ℕ) → setup.entries < 2 ^ 32 → IsLegal setup history
    → (keys_after setup (past_of setup history)).key reference ≡ record_key (find (is_attached reference) (records_of setup history))
unfolding records_of
key_kept setup history reference small legal =
    let past : List Happening = past_of setup history in
    let turned = legal_turned setup history small legal in
    key_found (reply_at (saids_after past)) setup.opened (turns_after setup past) reference turned.lawful turned.told turned.waited

-- no entry that is still to come has a record
pub none_newest : (setup : Setup) (history : List Entry) (place : ℕ) → setup.entries < 2 ^ 32 → IsLegal setup history → place ≡ length history + 1
    → is_newest place (records_of setup history) ≡ false
unfolding records_of
none_newest setup history place small legal is =
    let past : List Happening = past_of setup history in
    let turned = legal_turned setup history small legal in
    let turns = turn_count setup past in
    let count = length_past setup history in
    at (openings setup.opened (turns_after setup past)) (are_opened setup.opened (turns_after setup past) turned.told) (omega (arith, turns, count, is))
  where
    at : (all : List Opening) → AreOpened (turns_after setup (past_of setup history)) (suc (length (turns_after setup (past_of setup history)))) all
        → place ≡ suc (length (turns_after setup (past_of setup history)))
        → is_newest place (map (kept_of (reply_at (saids_after (past_of setup history))) (turns_after setup (past_of setup history))) all) ≡ false
    at [] are next = refl
    at (opening ∷ all) are next = let below = are.0.below in grind (arith, nat_tests, below, next)

-- ---- what is saved weighs

-- what a call opens weighs what it saves
pub opening_weighs : (open_ : Bool) (asks : Option Asked) (reply : Reply) → (asks ≡ None → open_ ≡ false)
    → saved_weight open_ (Replies reply) ≡ opening_weight (called.saved_opening_of (asked_if open_ asks) reply)
opening_weighs true None reply only = let wrong : true ≡ false = only refl in absurd (cc)
opening_weighs false None reply only = refl
opening_weighs true (Some asked) reply only = omega arith
opening_weighs false (Some asked) reply only = refl

-- a call that asks nothing saves nothing
pub call_opens_none : (setup : Setup) (history : List Entry) (caller : ℕ) (raw : Raw) → asks_to setup history (deed.Call raw) ≡ None
    → (effect_to setup history (call_entry caller raw)).saves ≡ false
unfolding effect_to
call_opens_none setup history caller raw asks =
    call_saves setup (past_of setup history) caller raw ∙ ap (opens (keys_after setup (past_of setup history))) asks

-- a call that waits saves nothing yet
pub waiting_weighs : (open_ : Bool) (order : Order) → saved_weight open_ (Waits order) ≡ 0
waiting_weighs true order = refl
waiting_weighs false order = refl

-- what a ruling saves
pub saving_weighs : (found_ : Option KeyRecord) (reply : Reply)
    → saved_weight (is_some (record_key found_)) (Replies reply) ≡ saving_weight (saving_of found_ reply)
saving_weighs None reply = refl
saving_weighs (Some kept) reply = omega arith

-- ---- the statuses that are saved

pub opened_well : (asked : Option Asked) (reply : Reply) (place moment : ℕ) (records : List KeyRecord) → is_status_well reply.status ≡ true
    → list_all is_saved_well records ≡ true → list_all is_saved_well (kept_records (called.saved_opening_of asked reply) place moment records) ≡ true
opened_well None reply place moment records well all = all
opened_well (Some asked) reply place moment records well all = rw well all

pub begun_well : (asked : Option Asked) (place moment reference : ℕ) (records : List KeyRecord) → list_all is_saved_well records ≡ true
    → list_all is_saved_well (begun_records asked place moment reference records) ≡ true
begun_well None place moment reference records all = all
begun_well (Some asked) place moment reference records all = all

updated_well : (test : KeyRecord → Bool) (saved : Saved) (records : List KeyRecord) → is_status_well saved.status ≡ true → list_all is_saved_well records ≡ true
    → list_all is_saved_well (update_first test (with_result saved) records) ≡ true
updated_well test saved [] well all = refl
updated_well test saved (kept ∷ records) well all = at (test kept) refl (both (is_saved_well kept) (list_all is_saved_well records) all) (updated_well test saved records well)
  where
    both : (a b : Bool) → (a && b) ≡ true → (a ≡ true) × (b ≡ true)
    both true true e = (refl, refl)
    both true false e = absurd (let clash : false ≡ true = e in cc)
    both false b e = absurd (let clash : false ≡ true = e in cc)

    at : (changed : Bool) → test kept ≡ changed → (is_saved_well kept ≡ true) × (list_all is_saved_well records ≡ true)
        → (list_all is_saved_well records ≡ true → list_all is_saved_well (update_first test (with_result saved) records) ≡ true)
        → list_all is_saved_well (update_first test (with_result saved) (kept ∷ records)) ≡ true
    at true e wells more = rw e (rw well wells.1)
    at false e wells more = rw (e, wells.0) (more wells.1)

pub saved_well : (status : ℕ) (saving : Option SavedFor) (records : List KeyRecord) → is_status_well status ≡ true → list_all is_saved_well records ≡ true
    → list_all is_saved_well (saved_records status saving records) ≡ true
saved_well status None records well all = all
saved_well status (Some saving) records well all =
    updated_well (is_entry saving.entry) (record { status = status; body = saving.body }) records well all
