-- Key records, read off what happened, newest first. What a keyed call asks, with its account, key and parameters, is of any
-- type; tests on it say which calls have the same key and which the same parameters.
use Rattle.std.specs.Prelude.{◌≡◌, ℕ, suc, ◌+◌, ◌≤◌, ◌==◌, ◌&&◌, nat_le, Bool, true, if◌then◌else◌, List, [], ◌∷◌, length, Option, Some, None}
use Rattle.ph_attempts.specs.declared.flights.Flight.{Flight}
use Rattle.ph_doings.specs.Doings.{Doing, Leaves, Puts, Edits, Begins, Resumes, Parks, Settles}
use Rattle.ph_doings.specs.Lawful.{MayDo}
use Rattle.ph_doings.specs.Standings.{Standing, NotBegun, Stands, standing_of}
use Rattle.ph_doings.specs.Standings as attempt

-- what is said to an entry: a reply, that it waits for the ruling on an attempt, or nothing
pub data Said : Type 0 where
  Replies Silence : Said
  Waits : (reference : ℕ) → Said

-- one thing that happened: what the entry asked under a key, where it is a keyed call whose parameters are in order; what it
-- did; what was said to it; and the time after it, in seconds
pub record Turn (A : Type 0) : Type 0 where
  pub asked : Option A
  pub doing : Doing
  pub said : Said
  pub time : ℕ

-- what was done
abbrev pub doings_of : {A : Type 0} → List (Turn A) → List Doing
doings_of [] = []
doings_of (turn ∷ past) = turn.doing ∷ doings_of past

-- the time after the past, which opens at this moment
abbrev pub time_of : {A : Type 0} → ℕ → List (Turn A) → ℕ
time_of opened [] = opened
time_of opened (turn ∷ past) = turn.time

-- how long a record is found, in seconds: a day
abbrev pub a_day : ℕ
a_day = 86400

-- the last record of a key: none, or that which the entry of a place opened at a moment, with the parameters that were asked for or with others
pub data Opened : Type 0 where
  Never : Opened
  Opens : (place : ℕ) → (same : Bool) → (moment : ℕ) → Opened

-- a record isn't found any more
abbrev pub is_over : Opened → ℕ → Bool
is_over Never now = true
is_over (Opens place same moment) now = nat_le (moment + a_day) now

-- the last record of a key after the entry of a place, at a time: a keyed call opens one where it finds none
abbrev pub opened_by : {A : Type 0} → (A → Bool) → (A → Bool) → Option A → ℕ → ℕ → Opened → Opened
opened_by of like None place now old = old
opened_by of like (Some asked) place now old = if of asked && is_over old now then Opens place (like asked) now else old

-- the last record of a key
abbrev pub last_opened : {A : Type 0} → (A → Bool) → (A → Bool) → ℕ → List (Turn A) → Opened
last_opened of like opened [] = Never
last_opened of like opened (turn ∷ past) =
    opened_by of like turn.asked (suc (length past)) (time_of opened past) (last_opened of like opened past)

-- what was said to the entry of a place
abbrev pub said_at : {A : Type 0} → List (Turn A) → ℕ → Said
said_at [] place = Silence
said_at (turn ∷ past) place = if place == suc (length past) then turn.said else said_at past place

-- the place of the doing that settled an attempt after the doing of a place
abbrev pub settled_by : Doing → ℕ → ℕ → ℕ → ℕ
settled_by Leaves place reference old = old
settled_by (Puts intent status) place reference old = old
settled_by (Edits intent status) place reference old = old
settled_by (Begins cause intent flight) place reference old = old
settled_by (Resumes intent flight) place reference old = old
settled_by (Parks intent flight) place reference old = old
settled_by (Settles intent flight capture ruling) place reference old = if reference == flight.order.reference then place else old

-- the place of the doing that settled an attempt, or 0
abbrev pub settled_at : List Doing → ℕ → ℕ
settled_at [] reference = 0
settled_at (doing ∷ past) reference = settled_by doing (suc (length past)) reference (settled_at past reference)

-- what a keyed call finds: no record; one with other parameters; one whose attempt is live, or is parked; or one with a
-- result, which was said to the entry of a place
pub data Found : Type 0 where
  Fresh Differs Live : Found
  Parked : (reference : ℕ) → Found
  Saved : (place : ℕ) → Found

-- the result of a call that waits for the ruling on an attempt
abbrev pub result_of_attempt : List Doing → ℕ → Standing → Found
result_of_attempt past reference NotBegun = Live
result_of_attempt past reference (Stands intent order attempt.Live) = Live
result_of_attempt past reference (Stands intent order attempt.Parked) = Parked reference
result_of_attempt past reference (Stands intent order (attempt.Settled ruling)) = Saved (settled_at past reference)

-- the result of what was said to the entry of a place
abbrev pub result_said : List Doing → ℕ → Said → Found
result_said past place Replies = Saved place
result_said past place Silence = Live
result_said past place (Waits reference) = result_of_attempt past reference (standing_of past reference)

-- the result of the call of a place: its reply, or that of the entry that settled the attempt for whose ruling it waits
abbrev pub result_of : {A : Type 0} → List (Turn A) → ℕ → Found
result_of past place = result_said (doings_of past) place (said_at past place)

-- what a keyed call finds of the last record of its key
abbrev pub found_in : {A : Type 0} → List (Turn A) → ℕ → Opened → Found
found_in past now Never = Fresh
found_in past now (Opens place same moment) =
    if nat_le (moment + a_day) now then Fresh else (if same then result_of past place else Differs)

-- what a keyed call finds, where these tests say which calls have its key and which its parameters
abbrev pub record_of : {A : Type 0} → (A → Bool) → (A → Bool) → ℕ → List (Turn A) → Found
record_of of like opened past = found_in past (time_of opened past) (last_opened of like opened past)

-- it takes the attempt of a reference up again
pub record ResumesIt (doing : Doing) (reference : ℕ) : Type 0 where
  pub intent : ℕ
  pub flight : Flight
  pub doing_is : doing ≡ Resumes intent flight
  pub reference_is : flight.order.reference ≡ reference

-- what a keyed call does by what it finds: its own where it finds no record; where its attempt is parked, it takes it up
-- again; else nothing
abbrev pub DoesByFound : Found → Doing → Type 0
DoesByFound Fresh doing = Unit {0}
DoesByFound Differs doing = doing ≡ Leaves
DoesByFound Live doing = doing ≡ Leaves
DoesByFound (Parked reference) doing = ResumesIt doing reference
DoesByFound (Saved place) doing = doing ≡ Leaves

-- a turn may come after the past: what it does may be done, and is by what it finds where it is keyed; the time isn't set back
pub record MayTurn {A : Type 0} (same like : A → A → Bool) (opened : ℕ) (past : List (Turn A)) (turn : Turn A) : Type 0 where
  pub doing : MayDo (doings_of past) turn.doing
  pub time : time_of opened past ≤ turn.time
  pub keyed : (asked : A) → turn.asked ≡ Some asked → DoesByFound (record_of (same asked) (like asked) opened past) turn.doing

-- each of these turns might come after those before it
abbrev pub AreLawful : {A : Type 0} → (A → A → Bool) → (A → A → Bool) → ℕ → List (Turn A) → Type 0
AreLawful same like opened [] = Unit {0}
AreLawful same like opened (turn ∷ past) = MayTurn same like opened past turn × AreLawful same like opened past
