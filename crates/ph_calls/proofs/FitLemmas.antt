-- The texts of each call that is read are UTF-8, and a clock is set to a time that a clock shows.
use Rattle.std.proofs.Common.{◌≡◌, ℕ, ◌≤◌, ◌==◌, ◌&&◌, Bool, true, false, cond, List, [], ◌∷◌, length, map, find, Option, Some, None, option_map, Result, Ok, Err, IfOk, IfSome, nat_le, nat_lt, unwrap_or, codes, bytes_eq, refl, arith}
use Rattle.std.proofs.lemmas.Bool.Decides.{nat_tests}
use Rattle.std.specs.List.{list_all}
use Rattle.std.specs.Str.{chars, is_utf8}
use Rattle.ph_base.specs.declared.acquirer.Method.{Method}
use Rattle.ph_errors.specs.declared.api_error.ApiError.{ApiError}
use Rattle.ph_errors.specs.Table.{ParameterInvalidInteger, error_of}
use Rattle.ph_form.specs.declared.fault.FormFault.{FormFault}
use Rattle.ph_form.specs.declared.leaf.Leaf.{Leaf}
use Rattle.ph_form.specs.Names.{is_below}
use Rattle.ph_form.specs.Order.{is_leaf_utf8, put, put_all}
use Rattle.ph_form.specs.Readers.{below, entries_at, entry_of, has_below, is_child, text_at}
use Rattle.ph_form.proofs.MapLemmas.{all_put, first_of_all, rest_of_all}
use Rattle.ph_form.proofs.Utf8Lemmas.{entry_utf8}
use Rattle.ph_http.specs.declared.message.Raw.{Raw}
use Rattle.ph_kinds.specs.declared.flaw.Flaw.{Flaw}
use Rattle.ph_kinds.specs.declared.flaw.Flaw.TheVariants.{InvalidValue}
use Rattle.ph_kinds.specs.declared.metadata.Meta.{Meta}
use Rattle.ph_kinds.specs.declared.metadata.Meta.TheVariants.{Clear, Set}
use Rattle.ph_kinds.specs.Events.{events_in}
use Rattle.ph_kinds.specs.Kept.{named_texts, pair_texts}
use Rattle.ph_kinds.specs.Kind.{Kind}
use Rattle.ph_kinds.specs.Kind as kind
use Rattle.ph_kinds.specs.Kinds.{Value, map_value, text_value}
use Rattle.ph_kinds.specs.Metadata.{is_metadata, metadata_in, pair_of}
use Rattle.ph_kinds.specs.Methods.{method_in, named_by}
use Rattle.ph_kinds.specs.Values.{there, value_at, value_by}
use Rattle.ph_items.specs.declared.payment_methods.PaymentMethod.{PaymentMethod}
use Rattle.ph_items.specs.Clocks.{clock_limit}
use Rattle.ph_items.specs.Weights.{AreUtf8, with_text, method_text}
use Rattle.ph_calls.specs.declared.call.Call.{Call}
use Rattle.ph_calls.specs.declared.call.Call.TheVariants as call
use Rattle.ph_calls.specs.declared.call.SetClock.{SetClock}
use Rattle.ph_calls.specs.declared.row.Name.{Name}
use Rattle.ph_calls.specs.declared.row.Name.TheVariants as name
use Rattle.ph_calls.specs.Accounts.{create_account}
use Rattle.ph_calls.specs.Check.{unless_error}
use Rattle.ph_calls.specs.Clock.{set_clock, set_clock_error}
use Rattle.ph_calls.specs.Disputes.{send_evidence}
use Rattle.ph_calls.specs.Fees.{refund_fee, refund_fee_error}
use Rattle.ph_calls.specs.Fit.{IsFit}
use Rattle.ph_calls.specs.Intents.{authenticate_intent, cancel_intent, capture_intent, confirm_intent, create_intent, create_intent_error, update_intent}
use Rattle.ph_calls.specs.Parameters.{Parameter, Must, May, Ignored, Takes, given, may, must, unless_flawed, unless_missing, with_value}
use Rattle.ph_calls.specs.Reading.{as_call, call_of, checked, form_of, reading_at, reading_by, reading_of}
use Rattle.ph_calls.specs.Refunds.{create_refund, create_refund_error}
use Rattle.ph_calls.specs.Routes.{Route, Nowhere, To, route_in}
use Rattle.ph_calls.specs.Table.{params_of, table}
use Rattle.ph_calls.specs.Transfers.{create_transfer, create_transfer_error, reverse_transfer, reverse_transfer_error}
use Rattle.ph_calls.proofs.LeafLemmas.{AreLeavesUtf8, leaves_utf8}

and : {a b : Bool} → a ≡ true → b ≡ true → (a && b) ≡ true
and p q = rw (p, q) refl

-- a text is UTF-8, where there is one
abbrev IsUtf8IfAny : Option (List ℕ) → Type 0
IsUtf8IfAny text = IfSome text (λ t. is_utf8 t ≡ true)

-- the text of the first leaf that passes a test
first_utf8 : (test : Leaf → Bool) (leaves : List Leaf) → AreLeavesUtf8 leaves → IsUtf8IfAny (option_map (λ leaf. leaf.text) (find test leaves))
first_utf8 test [] w = tt
first_utf8 test (leaf ∷ leaves) w = at (test leaf) (first_utf8 test leaves (rest_of_all (is_leaf_utf8 leaf) (list_all is_leaf_utf8 leaves) w))
  where
    at : (t : Bool) → IsUtf8IfAny (option_map (λ leaf. leaf.text) (find test leaves))
        → IsUtf8IfAny (option_map (λ leaf. leaf.text) (cond t (Some leaf) (find test leaves)))
    at true more = rest_of_all (is_utf8 leaf.name) (is_utf8 leaf.text) (first_of_all (is_leaf_utf8 leaf) (list_all is_leaf_utf8 leaves) w)
    at false more = more

text_utf8 : (name : List ℕ) (leaves : List Leaf) → AreLeavesUtf8 leaves → IsUtf8IfAny (text_at name leaves)
text_utf8 name leaves w = first_utf8 (λ leaf. bytes_eq leaf.name name) leaves w

-- the texts with one in front of them
with_utf8 : (text : Option (List ℕ)) (texts : List (List ℕ)) → IsUtf8IfAny text → AreUtf8 texts → AreUtf8 (with_text text texts)
with_utf8 None texts h w = w
with_utf8 (Some text) texts h w = and h w

-- the entries of a map
put_all_utf8 : (so_far leaves : List Leaf) → AreLeavesUtf8 so_far → AreLeavesUtf8 leaves → AreLeavesUtf8 (put_all so_far leaves)
put_all_utf8 so_far [] s w = s
put_all_utf8 so_far (leaf ∷ leaves) s w =
    put_all_utf8 (put leaf so_far) leaves
    (all_put is_leaf_utf8 leaf so_far (first_of_all (is_leaf_utf8 leaf) (list_all is_leaf_utf8 leaves) w) s)
    (rest_of_all (is_leaf_utf8 leaf) (list_all is_leaf_utf8 leaves) w)

below_utf8 : (name : List ℕ) (leaves : List Leaf) → AreLeavesUtf8 leaves → AreLeavesUtf8 (map (entry_of name) (below name leaves))
below_utf8 name [] w = refl
below_utf8 name (leaf ∷ leaves) w =
    at (is_below name leaf.name) refl (below_utf8 name leaves (rest_of_all (is_leaf_utf8 leaf) (list_all is_leaf_utf8 leaves) w))
  where
    at : (t : Bool) → is_below name leaf.name ≡ t → AreLeavesUtf8 (map (entry_of name) (below name leaves))
        → AreLeavesUtf8 (map (entry_of name) (cond t (leaf ∷ below name leaves) (below name leaves)))
    at true e more = and (entry_utf8 name leaf e (first_of_all (is_leaf_utf8 leaf) (list_all is_leaf_utf8 leaves) w)) more
    at false e more = more

entries_utf8 : (name : List ℕ) (leaves : List Leaf) → AreLeavesUtf8 leaves → IfSome (entries_at name leaves) AreLeavesUtf8
entries_utf8 name leaves w = at (list_all (λ leaf. is_child name leaf.name) (below name leaves))
  where
    at : (t : Bool) → IfSome (cond t (Some (put_all [] (map (entry_of name) (below name leaves)))) None) AreLeavesUtf8
    at true = put_all_utf8 [] (map (entry_of name) (below name leaves)) refl (below_utf8 name leaves w)
    at false = tt

-- the texts of metadata
pair_texts_utf8 : (entries : List Leaf) → AreLeavesUtf8 entries → AreUtf8 (pair_texts (map pair_of entries))
pair_texts_utf8 [] w = refl
pair_texts_utf8 (entry ∷ entries) w =
    let this = first_of_all (is_leaf_utf8 entry) (list_all is_leaf_utf8 entries) w in
    and (first_of_all (is_utf8 entry.name) (is_utf8 entry.text) this)
    (and (rest_of_all (is_utf8 entry.name) (is_utf8 entry.text) this)
    (pair_texts_utf8 entries (rest_of_all (is_leaf_utf8 entry) (list_all is_leaf_utf8 entries) w)))

-- the texts of a value are UTF-8
abbrev AreTextsUtf8 : (k : Kind) → Value k → Type 0
AreTextsUtf8 (kind.Text most) text = is_utf8 text ≡ true
AreTextsUtf8 kind.Method method = is_utf8 method.text ≡ true
AreTextsUtf8 kind.Metadata meta = AreUtf8 (named_texts (Some meta))
AreTextsUtf8 k value = Unit {0}

always : {X E : Type 0} (read : Result X E) → IfOk read (λ x. Unit {0})
always (Ok x) = tt
always (Err e) = tt

-- the value of a text
text_value_utf8 : (k : Kind) (text : List ℕ) → is_utf8 text ≡ true → IfOk (text_value k text) (AreTextsUtf8 k)
text_value_utf8 kind.Amount text u = always (text_value kind.Amount text)
text_value_utf8 kind.Number text u = always (text_value kind.Number text)
text_value_utf8 kind.Currency text u = always (text_value kind.Currency text)
text_value_utf8 kind.Truth text u = always (text_value kind.Truth text)
text_value_utf8 (kind.Text most) text u = at (nat_le (length (chars text)) most)
  where
    at : (t : Bool) → IfOk (cond t (Ok text) (Err InvalidValue)) (AreTextsUtf8 (kind.Text most))
    at true = u
    at false = tt
text_value_utf8 kind.Id text u = tt
text_value_utf8 kind.Method text u = at (method_in text)
  where
    at : (read : Result Method Flaw) → IfOk (named_by text read) (AreTextsUtf8 kind.Method)
    at (Err flaw) = tt
    at (Ok method) = u
text_value_utf8 kind.Metadata text u = at (length text == 0)
  where
    at : (t : Bool) → IfOk (cond t (Ok Clear) (Err InvalidValue)) (AreTextsUtf8 kind.Metadata)
    at true = refl
    at false = tt
text_value_utf8 kind.Events text u = tt
text_value_utf8 kind.Address text u = always (text_value kind.Address text)
text_value_utf8 kind.AccountType text u = always (text_value kind.AccountType text)
text_value_utf8 kind.CaptureMethod text u = always (text_value kind.CaptureMethod text)
text_value_utf8 kind.CancellationReason text u = always (text_value kind.CancellationReason text)
text_value_utf8 kind.RefundReason text u = always (text_value kind.RefundReason text)
text_value_utf8 kind.Authentication text u = always (text_value kind.Authentication text)

-- the value of a map
metadata_in_utf8 : (entries : Option (List Leaf)) → IfSome entries AreLeavesUtf8 → IfOk (metadata_in entries) (AreTextsUtf8 kind.Metadata)
metadata_in_utf8 None w = tt
metadata_in_utf8 (Some entries) w = at (is_metadata entries)
  where
    at : (t : Bool) → IfOk (cond t (Ok (Set (map pair_of entries))) (Err InvalidValue)) (AreTextsUtf8 kind.Metadata)
    at true = pair_texts_utf8 entries w
    at false = tt

map_value_utf8 : (k : Kind) (entries : Option (List Leaf)) → IfSome entries AreLeavesUtf8 → IfOk (map_value k entries) (AreTextsUtf8 k)
map_value_utf8 kind.Metadata entries w = metadata_in_utf8 entries w
map_value_utf8 kind.Events entries w = always (events_in entries)
map_value_utf8 k entries w = tt

-- the value under a name, where there is one
abbrev AreTextsUtf8IfAny : (k : Kind) → Option (Value k) → Type 0
AreTextsUtf8IfAny k value = IfSome value (AreTextsUtf8 k)

there_utf8 : (k : Kind) (read : Result (Value k) Flaw) → IfOk read (AreTextsUtf8 k) → IfOk (there read) (AreTextsUtf8IfAny k)
there_utf8 k (Ok value) h = h
there_utf8 k (Err flaw) h = tt

value_utf8 : (k : Kind) (text : Option (List ℕ)) (below : Bool) (entries : Option (List Leaf)) → IsUtf8IfAny text → IfSome entries AreLeavesUtf8
    → IfOk (value_by k text below entries) (AreTextsUtf8IfAny k)
value_utf8 k (Some text) below entries u w = there_utf8 k (text_value k text) (text_value_utf8 k text u)
value_utf8 k None true entries u w = there_utf8 k (map_value k entries) (map_value_utf8 k entries w)
value_utf8 k None false entries u w = tt

unless_flawed_holds : {X : Type 0} (name : List ℕ) (read : Result X Flaw) (P : X → Type 0) → IfOk read P → IfOk (unless_flawed name read) P
unless_flawed_holds name (Ok value) P h = h
unless_flawed_holds name (Err flaw) P h = tt

may_utf8 : (k : Kind) (name : List ℕ) (leaves : List Leaf) → AreLeavesUtf8 leaves → IfOk (may k name leaves) (AreTextsUtf8IfAny k)
unfolding may
may_utf8 k name leaves w =
    unless_flawed_holds name (value_at k name leaves) (AreTextsUtf8IfAny k)
    (value_utf8 k (text_at name leaves) (has_below name leaves) (entries_at name leaves) (text_utf8 name leaves w) (entries_utf8 name leaves w))

must_utf8 : (k : Kind) (name : List ℕ) (leaves : List Leaf) → AreLeavesUtf8 leaves → IfOk (must k name leaves) (AreTextsUtf8 k)
must_utf8 k name leaves w = at (may k name leaves) (may_utf8 k name leaves w)
  where
    at : (read : Result (Option (Value k)) ApiError) → IfOk read (AreTextsUtf8IfAny k) → IfOk (unless_missing name read) (AreTextsUtf8 k)
    at (Ok (Some value)) h = h
    at (Ok None) h = tt
    at (Err error) h = tt

-- whatever values of UTF-8 texts these parameters have, this holds of what is made of them
abbrev Makes : {X : Type 0} (params : List Parameter) → Takes params X → (X → Type 0) → Type 0
Makes [] made P = P made
Makes (Must name k ∷ params) make P = (value : Value k) → AreTextsUtf8 k value → Makes params (make value) P
Makes (May name k ∷ params) make P = (value : Option (Value k)) → AreTextsUtf8IfAny k value → Makes params (make value) P
Makes (Ignored name ∷ params) make P = Makes params make P

with_value_holds : {X Y : Type 0} (read : Result X ApiError) (make : X → Result Y ApiError) (Q : X → Type 0) (P : Y → Type 0)
    → IfOk read Q → ((x : X) → Q x → IfOk (make x) P) → IfOk (with_value read make) P
with_value_holds (Ok x) make Q P q h = h x q
with_value_holds (Err error) make Q P q h = tt

given_holds : {X : Type 0} (params : List Parameter) (make : Takes params X) (P : X → Type 0) (leaves : List Leaf) → AreLeavesUtf8 leaves
    → Makes params make P → IfOk (given params make leaves) P
unfolding given
given_holds [] made P leaves w h = h
given_holds (Must name k ∷ params) make P leaves w h =
    with_value_holds (must k name leaves) (λ value. given params (make value) leaves) (AreTextsUtf8 k) P (must_utf8 k name leaves w)
    (λ value u. given_holds params (make value) P leaves w (h value u))
given_holds (May name k ∷ params) make P leaves w h =
    with_value_holds (may k name leaves) (λ value. given params (make value) leaves) (AreTextsUtf8IfAny k) P (may_utf8 k name leaves w)
    (λ value u. given_holds params (make value) P leaves w (h value u))
given_holds (Ignored name ∷ params) make P leaves w h = given_holds params make P leaves w h

-- the texts that a call keeps of such values
method_text_utf8 : (method : Option PaymentMethod) → AreTextsUtf8IfAny kind.Method method → IsUtf8IfAny (method_text method)
method_text_utf8 None h = tt
method_text_utf8 (Some method) h = h

metadata_texts_utf8 : (meta : Option Meta) → AreTextsUtf8IfAny kind.Metadata meta → AreUtf8 (named_texts meta)
metadata_texts_utf8 None h = refl
metadata_texts_utf8 (Some meta) h = h

intent_texts_utf8 : (method : Option PaymentMethod) (description : Option (List ℕ)) (meta : Option Meta) (group : Option (List ℕ))
    → AreTextsUtf8IfAny kind.Method method → IsUtf8IfAny description → AreTextsUtf8IfAny kind.Metadata meta → IsUtf8IfAny group
    → AreUtf8 (with_text (method_text method) (with_text description (with_text group (named_texts meta))))
intent_texts_utf8 method description meta group m d t g =
    with_utf8 (method_text method) _ (method_text_utf8 method m) (with_utf8 description _ d (with_utf8 group _ g (metadata_texts_utf8 meta t)))

-- a call without further checks, and one with some
as_call_fit : {X : Type 0} (call : X → Call) (read : Result X ApiError) → IfOk read (λ c. IsFit (call c)) → IfOk (as_call call read) IsFit
as_call_fit call (Ok c) fit = fit
as_call_fit call (Err error) fit = tt

unless_fit : (error : Option ApiError) (c : Call) → IsFit c → IfOk (unless_error error (Ok c)) IsFit
unless_fit None c fit = fit
unless_fit (Some error) c fit = tt

checked_fit : {X : Type 0} (error : X → Option ApiError) (call : X → Call) (read : Result X ApiError) → IfOk read (λ c. IsFit (call c))
    → IfOk (with_value read (checked error call)) IsFit
checked_fit error call (Ok c) fit = unless_fit (error c) (call c) fit
checked_fit error call (Err e) fit = tt

clock_fit : (c : SetClock) → IfOk (checked set_clock_error call.SetClock c) IsFit
clock_fit c = at (nat_lt clock_limit c.now) refl
  where
    within : (m n : ℕ) → nat_lt m n ≡ false → n ≤ m
    within m n e = grind (arith, nat_tests)

    at : (t : Bool) → nat_lt clock_limit c.now ≡ t
        → IfOk (unless_error (cond t (Some (error_of (ParameterInvalidInteger (codes "now")))) None) (Ok (call.SetClock c))) IsFit
    at true e = tt
    at false e = record { texts = refl; shown = within clock_limit c.now e }

call_fit : (account : ℕ) (n : Name) (id : List ℕ) (leaves : List Leaf) → AreLeavesUtf8 leaves → IfOk (call_of account n id leaves) IsFit
call_fit account name.CreateIntent id leaves w =
    checked_fit (create_intent_error account) call.CreateIntent (given (params_of name.CreateIntent) create_intent leaves)
    (given_holds (params_of name.CreateIntent) create_intent (λ c. IsFit (call.CreateIntent c)) leaves w
    (λ amount _ currency _ method m confirm _ capture _ description d meta t fee _ destination _ group g.
    record { texts = intent_texts_utf8 method description meta group m d t g; shown = tt }))
call_fit account name.UpdateIntent id leaves w =
    as_call_fit call.UpdateIntent (given (params_of name.UpdateIntent) (update_intent id) leaves)
    (given_holds (params_of name.UpdateIntent) (update_intent id) (λ c. IsFit (call.UpdateIntent c)) leaves w
    (λ amount _ currency _ method m description d meta t fee _ group g.
    record { texts = intent_texts_utf8 method description meta group m d t g; shown = tt }))
call_fit account name.ConfirmIntent id leaves w =
    as_call_fit call.ConfirmIntent (given (params_of name.ConfirmIntent) (confirm_intent id) leaves)
    (given_holds (params_of name.ConfirmIntent) (confirm_intent id) (λ c. IsFit (call.ConfirmIntent c)) leaves w
    (λ method m. record { texts = with_utf8 (method_text method) [] (method_text_utf8 method m) refl; shown = tt }))
call_fit account name.CaptureIntent id leaves w =
    as_call_fit call.CaptureIntent (given (params_of name.CaptureIntent) (capture_intent id) leaves)
    (given_holds (params_of name.CaptureIntent) (capture_intent id) (λ c. IsFit (call.CaptureIntent c)) leaves w
    (λ amount _ fee _. record { texts = refl; shown = tt }))
call_fit account name.CancelIntent id leaves w =
    as_call_fit call.CancelIntent (given (params_of name.CancelIntent) (cancel_intent id) leaves)
    (given_holds (params_of name.CancelIntent) (cancel_intent id) (λ c. IsFit (call.CancelIntent c)) leaves w
    (λ reason _. record { texts = refl; shown = tt }))
call_fit account name.CreateRefund id leaves w =
    checked_fit create_refund_error call.CreateRefund (given (params_of name.CreateRefund) create_refund leaves)
    (given_holds (params_of name.CreateRefund) create_refund (λ c. IsFit (call.CreateRefund c)) leaves w
    (λ charge _ intent _ amount _ reason _ meta t reverse _ give_back _. record { texts = metadata_texts_utf8 meta t; shown = tt }))
call_fit account name.SendEvidence id leaves w =
    as_call_fit call.SendEvidence (given (params_of name.SendEvidence) (send_evidence id) leaves)
    (given_holds (params_of name.SendEvidence) (send_evidence id) (λ c. IsFit (call.SendEvidence c)) leaves w
    (λ text u. record { texts = and u refl; shown = tt }))
call_fit account name.CloseDispute id leaves w = record { texts = refl; shown = tt }
call_fit account name.CreateAccount id leaves w =
    as_call_fit call.CreateAccount (given (params_of name.CreateAccount) create_account leaves)
    (given_holds (params_of name.CreateAccount) create_account (λ c. IsFit (call.CreateAccount c)) leaves w
    (λ type _ email e meta t. record { texts = with_utf8 email (named_texts meta) e (metadata_texts_utf8 meta t); shown = tt }))
call_fit account name.CreateTransfer id leaves w =
    checked_fit create_transfer_error call.CreateTransfer (given (params_of name.CreateTransfer) create_transfer leaves)
    (given_holds (params_of name.CreateTransfer) create_transfer (λ c. IsFit (call.CreateTransfer c)) leaves w
    (λ amount _ currency _ destination _ source _ description d meta t group g.
    record { texts = with_utf8 description _ d (with_utf8 group _ g (metadata_texts_utf8 meta t)); shown = tt }))
call_fit account name.ReverseTransfer id leaves w =
    checked_fit reverse_transfer_error call.ReverseTransfer (given (params_of name.ReverseTransfer) (reverse_transfer id) leaves)
    (given_holds (params_of name.ReverseTransfer) (reverse_transfer id) (λ c. IsFit (call.ReverseTransfer c)) leaves w
    (λ amount _ meta t. record { texts = metadata_texts_utf8 meta t; shown = tt }))
call_fit account name.RefundFee id leaves w =
    checked_fit refund_fee_error call.RefundFee (given (params_of name.RefundFee) (refund_fee id) leaves)
    (given_holds (params_of name.RefundFee) (refund_fee id) (λ c. IsFit (call.RefundFee c)) leaves w
    (λ amount _ meta t. record { texts = metadata_texts_utf8 meta t; shown = tt }))
call_fit account (name.Retrieve kind) id leaves w = record { texts = refl; shown = tt }
call_fit account name.GetBalance id leaves w = record { texts = refl; shown = tt }
call_fit account name.SetClock id leaves w =
    with_value_holds (given (params_of name.SetClock) set_clock leaves) (checked set_clock_error call.SetClock) (λ c. Unit {0}) IsFit
    (always (given (params_of name.SetClock) set_clock leaves)) (λ c u. clock_fit c)
call_fit account name.Authenticate id leaves w =
    as_call_fit call.Authenticate (given (params_of name.Authenticate) (authenticate_intent id) leaves)
    (given_holds (params_of name.Authenticate) (authenticate_intent id) (λ c. IsFit (call.Authenticate c)) leaves w
    (λ outcome _. record { texts = refl; shown = tt }))

unless_refused : (error : Option ApiError) (made : Result Call ApiError) → IfOk made IsFit → IfOk (unless_error error made) IsFit
unless_refused None made fit = fit
unless_refused (Some error) made fit = tt

by_fit : (account : ℕ) (n : Name) (id : List ℕ) (form : Result (List Leaf) FormFault) → IfOk form AreLeavesUtf8 → IfOk (reading_by account n id form) IsFit
by_fit account n id (Err fault) w = tt
by_fit account n id (Ok leaves) w = unless_refused _ (call_of account n id leaves) (call_fit account n id leaves w)

at_fit : (account : ℕ) (route : Route) (form : Result (List Leaf) FormFault) → IfOk form AreLeavesUtf8 → IfOk (reading_at account route form) IsFit
at_fit account Nowhere form w = tt
at_fit account (To line id) form w = by_fit account line.call id form w

-- whatever a request says, the call that it is read as
pub reading_fit : (account : ℕ) (raw : Raw) → IfOk (reading_of account raw) IsFit
reading_fit account raw = at_fit account (route_in table raw.method raw.path) (form_of raw) (leaves_utf8 (unwrap_or raw.query []) raw.body)
