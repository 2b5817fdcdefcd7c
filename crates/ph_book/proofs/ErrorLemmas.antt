-- The errors of requests have statuses that replies are written with, and none that is a park's.
use Rattle.std.proofs.Common.{◌≡◌, ℕ, Bool, true, false, cond, not, ◌==◌, ◌&&◌, ◌||◌, Result, Ok, Err, IfErr, inl, inr, refl, sym, subst}
use Rattle.std.proofs.lemmas.Bool.{eqb-true, false≢true}
use Rattle.ph_facts.specs.Keeps.{is_refusal}
use Rattle.ph_errors.specs.declared.api_error.ApiError.{ApiError}
use Rattle.ph_errors.specs.Table.{Problem, InvalidApiKey, NoSuchAccount, UnrecognizedUrl, BadName, Clash, TooDeep, ParameterUnknown, ParameterMissing, ParameterInvalidInteger, AmountTooSmall, AmountTooLarge, InvalidValue, NoSuchPaymentMethod, KeyTooLong, KeyNotText, KeyDiffers, KeyInUse, NoSuchObject, UnexpectedState, ChargeNotCaptured, DisputeClosed, ChargeAlreadyRefunded, ChargeDisputed, PlatformOnly, BalanceInsufficient, ClockBackwards, CardDeclined, NotAuthenticated, AcquirerPending, AcquirerFailed, NoMemory, HistoryFull, Malformed, BodyTooLarge, HeadTooLarge, NotImplemented, VersionNotSupported, error_of}
use Rattle.ph_http.specs.declared.message.Raw.{Raw}
use Rattle.ph_http.specs.Replies.{is_status}
use Rattle.ph_calls.specs.declared.call.Call.{Call}
use Rattle.ph_calls.specs.Check.{IsNoCall}
use Rattle.ph_calls.specs.Reading.{reading_of}
use Rattle.ph_calls.proofs.ErrorLemmas.{reading_refused}

-- a status that replies are written with, and not 500
abbrev pub is_served : ℕ → Bool
is_served status = is_status status && not (status == 500)

-- the error has such a status
abbrev pub IsAnswered : ApiError → Type 0
IsAnswered error = is_served error.status ≡ true

abbrev pub IfRefused : {X : Type 0} → Result X ApiError → Type 0
IfRefused (Ok made) = Unit {0}
IfRefused (Err error) = IsAnswered error

-- every error of the table but those of a park that the acquirer didn't answer
abbrev pub AnsweredAt : Problem → Type 0
AnsweredAt AcquirerPending = Unit {0}
AnsweredAt AcquirerFailed = Unit {0}
AnsweredAt problem = IsAnswered (error_of problem)

pub answered : (problem : Problem) → AnsweredAt problem
unfolding error_of
answered InvalidApiKey = refl
answered NoSuchAccount = refl
answered UnrecognizedUrl = refl
answered (BadName place) = refl
answered (Clash place) = refl
answered (TooDeep place) = refl
answered (ParameterUnknown path) = refl
answered (ParameterMissing param) = refl
answered (ParameterInvalidInteger param) = refl
answered AmountTooSmall = refl
answered (AmountTooLarge param) = refl
answered (InvalidValue param) = refl
answered (NoSuchPaymentMethod param) = refl
answered KeyTooLong = refl
answered KeyNotText = refl
answered KeyDiffers = refl
answered KeyInUse = refl
answered (NoSuchObject param) = refl
answered UnexpectedState = refl
answered ChargeNotCaptured = refl
answered DisputeClosed = refl
answered ChargeAlreadyRefunded = refl
answered ChargeDisputed = refl
answered PlatformOnly = refl
answered BalanceInsufficient = refl
answered ClockBackwards = refl
answered (CardDeclined decline) = refl
answered NotAuthenticated = refl
answered AcquirerPending = tt
answered AcquirerFailed = tt
answered NoMemory = refl
answered HistoryFull = refl
answered Malformed = refl
answered BodyTooLarge = refl
answered HeadTooLarge = refl
answered NotImplemented = refl
answered VersionNotSupported = refl

-- what holds of both holds of the one that is chosen
pub chosen : {X : Type 0} (P : X → Type 0) (b : Bool) (x y : X) → P x → P y → P (cond b x y)
chosen P true x y p q = p
chosen P false x y p q = q

-- a request that is refused as it is read
no_call_answered : (error : ApiError) → IsNoCall error → IsAnswered error
no_call_answered error (inl e) = rw e refl
no_call_answered error (inr (inl e)) = rw e refl
no_call_answered error (inr (inr e)) = rw e refl

pub reading_answered : (account : ℕ) (raw : Raw) → IfRefused (reading_of account raw)
reading_answered account raw = at (reading_of account raw) (reading_refused account raw)
  where
    at : (read : Result Call ApiError) → IfErr read IsNoCall → IfRefused read
    at (Ok call) h = tt
    at (Err error) h = no_call_answered error h

-- so has an operation's refusal
pub refusal_answered : (error : ApiError) → is_refusal error ≡ true → IsAnswered error
refusal_answered error is = at (error.status == 400) (error.status == 404) refl refl is
  where
    at : (one other : Bool) → (error.status == 400) ≡ one → (error.status == 404) ≡ other → (one || other) ≡ true → IsAnswered error
    at true other e f h = subst (λ status. is_served status ≡ true) (sym (eqb-true error.status 400 e)) refl
    at false true e f h = subst (λ status. is_served status ≡ true) (sym (eqb-true error.status 404 f)) refl
    at false false e f h = absurd (false≢true h)
