-- What requests come to keeps the rows sound, by the law of each call.
use Rattle.std.proofs.Common.{◌≡◌, ℕ, ◌+◌, ◌≤◌, Bool, true, false, cond, not, nat_lt, List, [], length, Option, None, Some, Result, Ok, Err, refl, arith, codes, IfOk}
use Rattle.std.specs.List.{list_all}
use Rattle.std.specs.Option.{option_or}
use Rattle.std.specs.Str.{is_utf8}
use Rattle.std.proofs.lemmas.Bool.Decides.{nat_tests}
use Rattle.ph_base.specs.declared.ids.Kind.{Kind}
use Rattle.ph_errors.specs.declared.api_error.ApiError.{ApiError}
use Rattle.ph_errors.specs.Table.{ClockBackwards, InvalidApiKey, KeyNotText, KeyTooLong, NoSuchAccount, error_of}
use Rattle.ph_items.specs.Clocks.{clock_limit}
use Rattle.ph_items.specs.Weights.{with_text}
use Rattle.ph_rows.specs.declared.rows.Row.{Row}
use Rattle.ph_rows.specs.Names.{owned_named}
use Rattle.ph_rows.specs.Views.{ViewState}
use Rattle.ph_facts.specs.Keeps.{IsReady, KeepsRows, batch_after, is_refusal, most_rows}
use Rattle.ph_facts.specs.Outcomes.{Outcome, Refuses, Adds}
use Rattle.ph_facts.specs.Sound.{IsSound}
use Rattle.ph_facts.proofs.DoneLemmas.{kept_few, no_object, nothing_added}
use Rattle.ph_form.specs.declared.fault.FormFault.{FormFault}
use Rattle.ph_form.specs.declared.leaf.Leaf.{Leaf}
use Rattle.ph_http.specs.declared.message.Raw.{Raw}
use Rattle.ph_kinds.specs.declared.authentication.Authentication.{Authentication}
use Rattle.ph_kinds.specs.declared.authentication.Authentication.TheVariants.{Succeeded, Failed}
use Rattle.ph_calls.specs.declared.call.Authenticate.{Authenticate}
use Rattle.ph_calls.specs.declared.call.Call.{Call}
use Rattle.ph_calls.specs.declared.call.Call.TheVariants as call
use Rattle.ph_calls.specs.Reading.{form_of, reading_of}
use Rattle.ph_calls.specs.Fit as calls
use Rattle.ph_calls.proofs.FitLemmas.{reading_fit}
use Rattle.ph_disputes.specs.Answers.{evidence_outcome}
use Rattle.ph_disputes.specs.Closing.{close_outcome}
use Rattle.ph_intents.specs.Cancel.{cancel_outcome}
use Rattle.ph_intents.specs.Capture.{capture_outcome}
use Rattle.ph_intents.specs.Confirm.{confirm_outcome}
use Rattle.ph_intents.specs.Update.{update_outcome}
use Rattle.ph_refunds.specs.Refunds.{refund_outcome}
use Rattle.ph_intents.specs.Create.{create_confirmed_outcome, create_outcome}
use Rattle.ph_intents.proofs.CaptureLemmas.{capture_keeps}
use Rattle.ph_intents.proofs.KeepsLemmas.{create_keeps, create_confirmed_keeps, update_keeps, confirm_keeps, authenticate_keeps, fail_authentication_keeps, cancel_keeps}
use Rattle.ph_refunds.proofs.LawLemmas.{refund_keeps}
use Rattle.ph_transfers.specs.Create.{transfer_outcome}
use Rattle.ph_transfers.specs.RefundFee.{refund_fee_outcome}
use Rattle.ph_transfers.specs.Reverse.{reverse_outcome}
use Rattle.ph_transfers.proofs.LawLemmas.{refund_fee_keeps, reverse_keeps, transfer_keeps}
use Rattle.ph_disputes.proofs.AnswerLemmas.{close_keeps, evidence_keeps}
use Rattle.ph_disputes.proofs.OpeningLemmas.{open_due_keeps}
use Rattle.ph_accounts.specs.Create as accounts
use Rattle.ph_accounts.specs.Naming.{account_of}
use Rattle.ph_accounts.proofs.EntryLemmas as new_accounts
use Rattle.ph_book.specs.declared.judged.Judged.{Judged}
use Rattle.ph_book.specs.declared.judged.Judged.TheVariants.{Refused, Accepted}
use Rattle.ph_book.specs.Calls.{key_asked, Upshot, Rejects, Replays, Makes, Shows, Sets, and_opened, authenticated, carried, clock_set, found_outcome, payment_named, retrieved}
use Rattle.ph_book.specs.Keys.{account_request, asked_in, asked_by, formed_request, is_key, key_of, keyed_request, read_request, request_of}
use Rattle.ph_book.proofs.ErrorLemmas.{IfRefused, IsAnswered, answered, chosen, reading_answered}

-- the error of a request that is no call can be answered; what a call comes to keeps the rows sound; or the clock is set to a moment
-- that it may show
abbrev pub KeepsCall : ViewState → Upshot → Type 0
KeepsCall state (Rejects error) = IsAnswered error
KeepsCall state (Replays saved) = Unit {0}
KeepsCall state (Makes outcome) = KeepsRows state most_rows outcome
KeepsCall state (Shows doc) = Unit {0}
KeepsCall state (Sets moment) = (state.time ≤ moment) × (moment ≤ clock_limit)

-- a retrieve
retrieved_keeps : (state : ViewState) (entry account : ℕ) (wanted : Kind) (id : List ℕ) → IsSound state
    → KeepsRows state most_rows (retrieved state.rows account wanted id (batch_after state entry))
retrieved_keeps state entry account wanted id sound = kept_few state 0 most_rows (retrieved state.rows account wanted id (batch_after state entry)) (at (option_or (owned_named state.rows account wanted id) (payment_named state.rows account wanted id))) (omega arith)
  where
    at : (found : Option Row) → KeepsRows state 0 (found_outcome found (batch_after state entry))
    at None = no_object (codes "id")
    at (Some row) = (nothing_added state entry sound, tt)

-- an outcome with the dispute that is due
opened_keeps : (state : ViewState) (most : ℕ) (outcome : Outcome) → IsReady state → most + 4 ≤ most_rows → KeepsRows state most outcome
    → KeepsRows state most_rows (and_opened state.rows outcome)
opened_keeps state most (Refuses error) ready less keeps = keeps
opened_keeps state most (Adds touch object batch) ready less keeps =
    let few = (keeps.0).few in
    let room = ready.room in
    kept_few state (most + 4) most_rows (and_opened state.rows (Adds touch object batch))
    (open_due_keeps state most touch batch object ready.sound keeps.0 (omega arith), keeps.1) less

authenticated_keeps : (state : ViewState) (entry account : ℕ) (c : Authenticate) (outcome : Authentication) → IsReady state
    → KeepsRows state 2 (authenticated state.rows account c (batch_after state entry) outcome)
authenticated_keeps state entry account c Succeeded ready = authenticate_keeps state entry account c ready refl
authenticated_keeps state entry account c Failed ready = fail_authentication_keeps state entry account c ready refl

backwards : is_refusal (error_of ClockBackwards) ≡ true
unfolding error_of
backwards = refl

clock_keeps : (state : ViewState) (moment : ℕ) → moment ≤ clock_limit → KeepsCall state (clock_set state.time moment)
clock_keeps state moment shown = at (nat_lt moment state.time) refl
  where
    at : (test : Bool) → nat_lt moment state.time ≡ test → KeepsCall state (cond test (Makes (Refuses (error_of ClockBackwards))) (Sets moment))
    at true e = backwards
    at false e = (grind (arith, nat_tests), shown)

-- a call that is carried out: one line for each row of the table of calls
pub carried_keeps : (state : ViewState) (entry account : ℕ) (c : Call) → IsReady state → calls.IsFit c → KeepsCall state (carried state.rows account state.time c (batch_after state entry))
carried_keeps state entry account (call.CreateIntent c) ready fit =
    chosen (KeepsRows state most_rows) c.confirm (create_confirmed_outcome state.rows account c (batch_after state entry))
    (create_outcome state.rows account c (batch_after state entry))
    (kept_few state 3 most_rows (create_confirmed_outcome state.rows account c (batch_after state entry)) (create_confirmed_keeps state entry account c ready fit.texts) (omega arith))
    (kept_few state 2 most_rows (create_outcome state.rows account c (batch_after state entry)) (create_keeps state entry account c ready fit.texts) (omega arith))
carried_keeps state entry account (call.UpdateIntent c) ready fit = kept_few state 1 most_rows (update_outcome state.rows account c (batch_after state entry)) (update_keeps state entry account c ready fit.texts) (omega arith)
carried_keeps state entry account (call.ConfirmIntent c) ready fit = kept_few state 2 most_rows (confirm_outcome state.rows account c (batch_after state entry)) (confirm_keeps state entry account c ready fit.texts) (omega arith)
carried_keeps state entry account (call.CaptureIntent c) ready fit =
    opened_keeps state 13 (capture_outcome state.rows account c (batch_after state entry)) ready (omega arith) (capture_keeps state entry account c ready refl)
carried_keeps state entry account (call.CancelIntent c) ready fit = kept_few state 2 most_rows (cancel_outcome state.rows account c (batch_after state entry)) (cancel_keeps state entry account c ready refl) (omega arith)
carried_keeps state entry account (call.CreateRefund c) ready fit = kept_few state 14 most_rows (refund_outcome state.rows account c (batch_after state entry)) (refund_keeps state entry account c ready fit.texts) (omega arith)
carried_keeps state entry account (call.CreateTransfer c) ready fit =
    kept_few state 6 most_rows (transfer_outcome state.time state.rows account c (batch_after state entry))
    (transfer_keeps state.time state entry account c ready fit.texts) (omega arith)
carried_keeps state entry account (call.ReverseTransfer c) ready fit = kept_few state 5 most_rows (reverse_outcome state.rows account c (batch_after state entry)) (reverse_keeps state entry account c ready fit.texts) (omega arith)
carried_keeps state entry account (call.RefundFee c) ready fit = kept_few state 5 most_rows (refund_fee_outcome state.rows account c (batch_after state entry)) (refund_fee_keeps state entry account c ready fit.texts) (omega arith)
carried_keeps state entry account (call.SendEvidence c) ready fit = kept_few state 3 most_rows (evidence_outcome state.rows account c (batch_after state entry)) (evidence_keeps state entry account c ready fit.texts) (omega arith)
carried_keeps state entry account (call.CloseDispute c) ready fit = kept_few state 2 most_rows (close_outcome state.rows account c (batch_after state entry)) (close_keeps state entry account c ready refl) (omega arith)
carried_keeps state entry account (call.CreateAccount c) ready fit = kept_few state 1 most_rows (accounts.create_outcome state.rows account c (batch_after state entry)) (new_accounts.create_keeps state entry account c ready fit.texts) (omega arith)
carried_keeps state entry account (call.Retrieve c) ready fit = retrieved_keeps state entry account c.kind c.id ready.sound
carried_keeps state entry account (call.GetBalance c) ready fit = tt
carried_keeps state entry account (call.SetClock c) ready fit = clock_keeps state c.now fit.shown
carried_keeps state entry account (call.Authenticate c) ready fit = kept_few state 2 most_rows (authenticated state.rows account c (batch_after state entry) c.outcome) (authenticated_keeps state entry account c c.outcome ready) (omega arith)

-- the error of a request that is refused can be answered, and a call that is accepted is fit to be carried out
abbrev pub KeepsJudged : Judged → Type 0
KeepsJudged (Refused error) = IsAnswered error
KeepsJudged (Accepted account c asked) = calls.IsFit c

keyed_keeps : (account : ℕ) (raw : Raw) (c : Call) (tree : List Leaf) (key : Option (List ℕ)) → calls.IsFit c → KeepsJudged (keyed_request account raw c tree key)
keyed_keeps account raw c tree None fit = fit
keyed_keeps account raw c tree (Some key) fit =
    chosen KeepsJudged (nat_lt 255 (length key)) (Refused (error_of KeyTooLong))
    (cond (not (is_utf8 key)) (Refused (error_of KeyNotText)) (Accepted account c (Some (asked_by account raw tree key)))) (answered KeyTooLong)
    (chosen KeepsJudged (not (is_utf8 key)) (Refused (error_of KeyNotText)) (Accepted account c (Some (asked_by account raw tree key))) (answered KeyNotText) fit)

formed_keeps : (account : ℕ) (raw : Raw) (c : Call) (form : Result (List Leaf) FormFault) → calls.IsFit c → KeepsJudged (formed_request account raw c form)
formed_keeps account raw c (Err fault) fit = fit
formed_keeps account raw c (Ok tree) fit = keyed_keeps account raw c tree (key_of raw) fit

read_keeps : (account : ℕ) (raw : Raw) (reading : Result Call ApiError) → IfRefused reading → IfOk reading calls.IsFit → KeepsJudged (read_request account raw reading)
read_keeps account raw (Err error) refused fit = refused
read_keeps account raw (Ok c) refused fit = formed_keeps account raw c (form_of raw) fit

-- a request of the account that it names
account_keeps : (raw : Raw) (found : Option ℕ) → KeepsJudged (account_request raw found)
account_keeps raw None = answered NoSuchAccount
account_keeps raw (Some account) =
    read_keeps account raw (reading_of account raw) (reading_answered account raw) (reading_fit account raw)

-- what the steps of a request before its own make of it
pub judged_keeps : (key : List ℕ) (rows : List Row) (raw : Raw) → KeepsJudged (request_of key rows raw)
unfolding request_of
judged_keeps key rows raw =
    chosen KeepsJudged (not (is_key key raw.auth)) (Refused (error_of InvalidApiKey))
    (account_request raw (account_of rows raw.account)) (answered InvalidApiKey) (account_keeps raw (account_of rows raw.account))

-- a key under which something is asked is text
abbrev pub IsText : Option (List ℕ) → Type 0
IsText key = list_all is_utf8 (with_text key []) ≡ true

keyed_text : (account : ℕ) (raw : Raw) (c : Call) (tree : List Leaf) (key : Option (List ℕ)) → IsText (key_asked (asked_in (keyed_request account raw c tree key)))
keyed_text account raw c tree None = refl
keyed_text account raw c tree (Some key) = at (nat_lt 255 (length key)) (is_utf8 key) refl
  where
    at : (long text : Bool) → is_utf8 key ≡ text
        → IsText (key_asked (asked_in (cond long (Refused (error_of KeyTooLong)) (cond (not text) (Refused (error_of KeyNotText)) (Accepted account c (Some (asked_by account raw tree key)))))))
    at true text e = refl
    at false false e = refl
    at false true e = rw e refl

formed_text : (account : ℕ) (raw : Raw) (c : Call) (form : Result (List Leaf) FormFault) → IsText (key_asked (asked_in (formed_request account raw c form)))
formed_text account raw c (Err fault) = refl
formed_text account raw c (Ok tree) = keyed_text account raw c tree (key_of raw)

read_text : (account : ℕ) (raw : Raw) (reading : Result Call ApiError) → IsText (key_asked (asked_in (read_request account raw reading)))
read_text account raw (Err error) = refl
read_text account raw (Ok c) = formed_text account raw c (form_of raw)

account_text : (raw : Raw) (found : Option ℕ) → IsText (key_asked (asked_in (account_request raw found)))
account_text raw None = refl
account_text raw (Some account) = read_text account raw (reading_of account raw)

pub judged_text : (key : List ℕ) (rows : List Row) (raw : Raw) → IsText (key_asked (asked_in (request_of key rows raw)))
unfolding request_of
judged_text key rows raw =
    chosen (λ (j : Judged). IsText (key_asked (asked_in j))) (not (is_key key raw.auth)) (Refused (error_of InvalidApiKey))
    (account_request raw (account_of rows raw.account)) refl (account_text raw (account_of rows raw.account))
