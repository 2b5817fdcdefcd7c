-- The parked attempts stand in the order of their last parks, each under the order with which it began.
use Rattle.std.proofs.Common.{◌≡◌, ℕ, ◌<◌, ◌≤◌, ◌==◌, ◌||◌, Bool, true, false, List, [], ◌∷◌, ◌++◌, length, Option, Some, None, refl, ap, ◌∙◌, arith}
use Rattle.std.specs.List.{list_any}
use Rattle.std.proofs.lemmas.Bool.Decides.{nat_tests}
use Rattle.ph_base.specs.declared.acquirer.Ruling.{Ruling}
use Rattle.ph_items.specs.declared.intents.CaptureMethod.{CaptureMethod}
use Rattle.ph_items.specs.declared.orders.Order.{Order}
use Rattle.ph_attempts.specs.declared.flights.Flight.{Flight}
use Rattle.ph_facts.specs.Touches.{Cause}
use Rattle.ph_doings.specs.Doings.{Doing, Leaves, Puts, Edits, Begins, Resumes, Parks, Settles}
use Rattle.ph_doings.specs.Lawful.{IsLawful, MayDo}
use Rattle.ph_doings.specs.Laws.{FirstOf, FirstParkedIsEarliest, IsFirstParked}
use Rattle.ph_doings.specs.Parks.{first_in, parked_at, parked_attempts}
use Rattle.ph_doings.specs.Standings.{Live, Parked, Settled, Standing, NotBegun, Stands, is_parked, standing_of}
use Rattle.ph_doings.proofs.KeptLists.{begins_parked, parked_at-le, parked_last, quiet_parked, resumed_parked, settles_parked, without_order}

-- the order of an attempt that is parked
abbrev pub parked_order : Standing → Option Order
parked_order NotBegun = None
parked_order (Stands intent order Live) = None
parked_order (Stands intent order Parked) = Some order
parked_order (Stands intent order (Settled ruling)) = None

-- each of the orders is that of a parked attempt, and their last parks rise from this place on
abbrev pub AreQueued : List Doing → ℕ → List Order → Type 0
AreQueued past low [] = Unit {0}
AreQueued past low (order ∷ orders) = (parked_order (standing_of past order.reference) ≡ Some order)
    × (low < parked_at past order.reference) × AreQueued past (parked_at past order.reference) orders

-- the order of an attempt is among them
abbrev pub has_order : ℕ → List Order → Bool
has_order reference orders = list_any (λ order. reference == order.reference) orders

-- all parked attempts are queued
pub record IsQueue (past : List Doing) (orders : List Order) : Type 0 where
  pub queued : AreQueued past 0 orders
  pub all : (reference : ℕ) → is_parked (standing_of past reference) ≡ true → has_order reference orders ≡ true

-- ---- lists of orders

queued_above : (past : List Doing) (low lower : ℕ) (orders : List Order) → lower ≤ low → AreQueued past low orders → AreQueued past lower orders
queued_above past low lower [] le queued = tt
queued_above past low lower (order ∷ orders) le queued = (queued.0, omega (arith, queued.1), queued.2)

-- where those that are parked stay so, since the same places
queued_stay : (past now : List Doing) (low : ℕ) (orders : List Order)
    → ((order : Order) → parked_order (standing_of past order.reference) ≡ Some order
    → (parked_order (standing_of now order.reference) ≡ Some order) × (parked_at now order.reference ≡ parked_at past order.reference))
    → AreQueued past low orders → AreQueued now low orders
queued_stay past now low [] stays queued = tt
queued_stay past now low (order ∷ orders) stays queued =
    let is = stays order queued.0 in
    let others : AreQueued now (parked_at past order.reference) orders = queued_stay past now (parked_at past order.reference) orders stays queued.2 in
    (is.0, rw is.1 queued.1, rw is.1 others)

-- one that is parked after all the others comes behind them
queued_last : (past now : List Doing) (low high : ℕ) (orders : List Order) (last : Order)
    → ((order : Order) → parked_order (standing_of past order.reference) ≡ Some order
    → (parked_order (standing_of now order.reference) ≡ Some order) × (parked_at now order.reference ≡ parked_at past order.reference))
    → ((reference : ℕ) → parked_at past reference ≤ high) → low ≤ high → parked_order (standing_of now last.reference) ≡ Some last
    → high < parked_at now last.reference → AreQueued past low orders → AreQueued now low (orders ++ last ∷ [])
queued_last past now low high [] last stays below le is later queued = (is, omega (arith, le, later), tt)
queued_last past now low high (order ∷ orders) last stays below le is later queued =
    let same = stays order queued.0 in
    let others : AreQueued now (parked_at past order.reference) (orders ++ last ∷ []) =
    queued_last past now (parked_at past order.reference) high orders last stays below (below order.reference) is later queued.2 in
    (same.0, rw same.1 queued.1, rw same.1 others)

-- one taken out, while the others stay as they are
queued_without : (past now : List Doing) (reference low lower : ℕ) (orders : List Order) → lower ≤ low
    → ((order : Order) → (reference == order.reference) ≡ false → parked_order (standing_of past order.reference) ≡ Some order
    → (parked_order (standing_of now order.reference) ≡ Some order) × (parked_at now order.reference ≡ parked_at past order.reference))
    → AreQueued past low orders → AreQueued now lower (without_order reference orders)
queued_without past now reference low lower [] le stays queued = tt
queued_without past now reference low lower (order ∷ orders) le stays queued =
    at (λ low' le'. queued_without past now reference (parked_at past order.reference) low' orders le' stays queued.2) (reference == order.reference) refl
  where
    at : ((low' : ℕ) → low' ≤ parked_at past order.reference → AreQueued now low' (without_order reference orders)) → (test : Bool)
        → (reference == order.reference) ≡ test → AreQueued now lower (without_order reference (order ∷ orders))
    at more true e = rw e (more lower (omega (arith, le, queued.1)))
    at more false e =
        let is = stays order e queued.0 in
        rw e (is.0, rw is.1 (omega (arith, le, queued.1)), rw is.1 (more (parked_at past order.reference) (omega arith)))

has_order-append : (reference : ℕ) (first more : List Order) → has_order reference (first ++ more) ≡ (has_order reference first || has_order reference more)
has_order-append reference [] more = refl
has_order-append reference (order ∷ first) more = at (reference == order.reference) (has_order-append reference first more)
  where
    at : (test : Bool) → has_order reference (first ++ more) ≡ (has_order reference first || has_order reference more)
        → (test || has_order reference (first ++ more)) ≡ ((test || has_order reference first) || has_order reference more)
    at true e = refl
    at false e = e

has_order-without : (reference other : ℕ) (orders : List Order) → (reference == other) ≡ false → has_order other orders ≡ true
    → has_order other (without_order reference orders) ≡ true
has_order-without reference other [] apart has = has
has_order-without reference other (order ∷ orders) apart has =
    at (has_order-without reference other orders apart) (reference == order.reference) refl (other == order.reference) refl
  where
    at : (has_order other orders ≡ true → has_order other (without_order reference orders) ≡ true) → (taken : Bool) → (reference == order.reference) ≡ taken → (here : Bool) → (other == order.reference) ≡ here
        → has_order other (without_order reference (order ∷ orders)) ≡ true
    at more true e true f = absurd (grind (arith, nat_tests))
    at more true e false f = rw e (more (rw f at has))
    at more false e true f = rw (e, f) refl
    at more false e false f = rw (e, f) (more (rw f at has))

-- ---- each doing

queue_stays : (past : List Doing) (doing : Doing) (orders : List Order)
    → ((order : Order) → parked_order (standing_of past order.reference) ≡ Some order
    → (parked_order (standing_of (doing ∷ past) order.reference) ≡ Some order) × (parked_at (doing ∷ past) order.reference ≡ parked_at past order.reference))
    → ((reference : ℕ) → is_parked (standing_of (doing ∷ past) reference) ≡ true → is_parked (standing_of past reference) ≡ true)
    → IsQueue past orders → IsQueue (doing ∷ past) orders
queue_stays past doing orders stays was old = record {
  queued = queued_stay past (doing ∷ past) 0 orders stays old.queued;
  all = λ reference is. old.all reference (was reference is);
}

queue_begins : (past : List Doing) (cause : Cause) (intent : ℕ) (flight : Flight) (orders : List Order)
    → standing_of past flight.order.reference ≡ NotBegun → IsQueue past orders → IsQueue (Begins cause intent flight ∷ past) orders
queue_begins past cause intent flight orders new old = queue_stays past (Begins cause intent flight) orders
    (λ order is. (grind (arith, nat_tests, new), refl)) (λ reference is. grind (arith, nat_tests, new)) old

queue_settles : (past : List Doing) (intent : ℕ) (flight : Flight) (capture : CaptureMethod) (ruling : Ruling) (orders : List Order)
    → standing_of past flight.order.reference ≡ Stands intent flight.order Live → IsQueue past orders
    → IsQueue (Settles intent flight capture ruling ∷ past) orders
queue_settles past intent flight capture ruling orders is old = queue_stays past (Settles intent flight capture ruling) orders
    (λ order p. (grind (arith, nat_tests, is), refl)) (λ reference p. grind (arith, nat_tests, is)) old

queue_parks : (past : List Doing) (intent : ℕ) (flight : Flight) (orders : List Order)
    → standing_of past flight.order.reference ≡ Stands intent flight.order Live → IsQueue past orders
    → IsQueue (Parks intent flight ∷ past) (orders ++ flight.order ∷ [])
queue_parks past intent flight orders is old = record {
  queued = queued_last past (Parks intent flight ∷ past) 0 (length past) orders flight.order
      (λ order p. (grind (arith, nat_tests, is), grind (arith, nat_tests, is))) (parked_at-le past) (omega arith)
      (grind (arith, nat_tests)) (grind (arith, nat_tests)) old.queued;
  all = λ reference p. has_order-append reference orders (flight.order ∷ [])
      ∙ at reference (reference == flight.order.reference) refl (has_order reference orders) (old.all reference) p;
}
  where
    at : (reference : ℕ) → (here : Bool) → (reference == flight.order.reference) ≡ here → (there : Bool)
        → (is_parked (standing_of past reference) ≡ true → there ≡ true) → is_parked (standing_of (Parks intent flight ∷ past) reference) ≡ true
        → (there || ((reference == flight.order.reference) || false)) ≡ true
    at reference true e true f p = refl
    at reference true e false f p = rw e refl
    at reference false e true f p = refl
    at reference false e false f p = absurd (let no_place : false ≡ true = f (rw e at p) in cc)

queue_resumes : (past : List Doing) (intent : ℕ) (flight : Flight) (orders : List Order) → IsQueue past orders
    → IsQueue (Resumes intent flight ∷ past) (without_order flight.order.reference orders)
queue_resumes past intent flight orders old = record {
  queued = queued_without past (Resumes intent flight ∷ past) flight.order.reference 0 0 orders (omega arith)
      (λ order apart is. (grind (arith, nat_tests), refl)) old.queued;
  all = λ reference p. has_order-without flight.order.reference reference orders (grind (arith, nat_tests)) (old.all reference (grind (arith, nat_tests)));
}

queue_step : (past : List Doing) (doing : Doing) → MayDo past doing → IsQueue past (parked_attempts past)
    → IsQueue (doing ∷ past) (parked_attempts (doing ∷ past))
queue_step past Leaves may old = rw (quiet_parked past Leaves (λ flight place le. refl) refl)
    (queue_stays past Leaves (parked_attempts past) (λ order is. (is, refl)) (λ reference is. is) old)
queue_step past (Puts intent put) may old = rw (quiet_parked past (Puts intent put) (λ flight place le. refl) refl)
    (queue_stays past (Puts intent put) (parked_attempts past) (λ order is. (is, refl)) (λ reference is. is) old)
queue_step past (Edits intent put) may old = rw (quiet_parked past (Edits intent put) (λ flight place le. refl) refl)
    (queue_stays past (Edits intent put) (parked_attempts past) (λ order is. (is, refl)) (λ reference is. is) old)
queue_step past (Begins cause intent flight) may old =
    rw (begins_parked past cause intent flight may.1) (queue_begins past cause intent flight (parked_attempts past) may.1 old)
queue_step past (Resumes intent flight) may old =
    rw (resumed_parked past intent flight) (queue_resumes past intent flight (parked_attempts past) old)
queue_step past (Parks intent flight) may old =
    rw (parked_last past intent flight may.1) (queue_parks past intent flight (parked_attempts past) may.1 old)
queue_step past (Settles intent flight capture ruling) may old = rw (settles_parked past intent flight capture ruling may.1)
    (queue_settles past intent flight capture ruling (parked_attempts past) may.1 old)

pub queue : (past : List Doing) → IsLawful past → IsQueue past (parked_attempts past)
queue [] lawful = record { queued = tt; all = λ reference is. absurd (cc) }
queue (doing ∷ past) lawful = queue_step past doing lawful.0 (queue past lawful.1)

-- ---- the first

queued_later : (past : List Doing) (low : ℕ) (orders : List Order) (reference : ℕ) → AreQueued past low orders
    → has_order reference orders ≡ true → low < parked_at past reference
queued_later past low [] reference queued has = absurd (cc)
queued_later past low (order ∷ orders) reference queued has =
    at (queued_later past (parked_at past order.reference) orders reference queued.2) (reference == order.reference) refl
  where
    at : (has_order reference orders ≡ true → parked_at past order.reference < parked_at past reference) → (here : Bool)
        → (reference == order.reference) ≡ here → low < parked_at past reference
    at more true e = let same : reference ≡ order.reference = grind (arith, nat_tests) in rw same queued.1
    at more false e = let later = more (rw e at has) in omega (arith, queued.1, later)

first_stands : (past : List Doing) (order : Order) (orders : List Order) → IsQueue past (order ∷ orders) → (standing : Standing)
    → standing_of past order.reference ≡ standing → parked_order standing ≡ Some order → IsFirstParked past order
first_stands past order orders queue NotBegun is parked = absurd (cc)
first_stands past order orders queue (Stands intent own Live) is parked = absurd (cc)
first_stands past order orders queue (Stands intent own Parked) is parked = record {
  intent = intent;
  standing = let same : own ≡ order = cc in is ∙ ap (λ o. Stands intent o Parked) same;
  earliest = λ reference p apart.
      let not_it : (reference == order.reference) ≡ false = grind (arith, nat_tests) in
      queued_later past (parked_at past order.reference) orders reference queue.queued.2 (rw not_it at (queue.all reference p));
}
first_stands past order orders queue (Stands intent own (Settled ruling)) is parked = absurd (cc)

not_parked : (test : Bool) → (test ≡ true → ⊥) → test ≡ false
not_parked true never = absurd (never refl)
not_parked false never = refl

first_of : (past : List Doing) (orders : List Order) → IsQueue past orders → FirstOf past (first_in orders)
first_of past [] queue = λ reference. not_parked (is_parked (standing_of past reference)) (λ is. let no_place : false ≡ true = queue.all reference is in cc)
first_of past (order ∷ orders) queue = first_stands past order orders queue (standing_of past order.reference) refl queue.queued.0

pub first_parked_is_earliest : FirstParkedIsEarliest
first_parked_is_earliest past lawful = first_of past (parked_attempts past) (queue past lawful)
