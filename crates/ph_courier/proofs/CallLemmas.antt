-- Why a request is unreached.
use Rattle.std.proofs.Common.{◌≡◌, ℕ, ◌+◌, ◌<◌, ◌⊎◌, inl, inr, Bool, true, false, if◌then◌else◌, List, [], refl, sym, subst, ◌∙◌, arith}
use Rattle.std.proofs.lemmas.Bool.Decides.{nat_tests}
use Rattle.ph_base.specs.Counts.{Rose}
use Rattle.ph_io.specs.Told.{SourceState, SinkState}
use Rattle.ph_io.specs.Writes.{Takes, TakesFront}
use Rattle.ph_dial.specs.Dialers.{DialerState, Dialed, HangsUp, is_broken, Tells}
use Rattle.ph_delivery.specs.declared.outcome.Outcome.{Outcome}
use Rattle.ph_delivery.specs.declared.outcome.Outcome.TheVariants as outcome
use Rattle.ph_courier.specs.Answers.{Hears, Says, is_success, outcome_of}
use Rattle.ph_courier.specs.Calls.{Delivers, Ends}
use Rattle.ph_courier.specs.Listens.{Listens}

-- the request couldn't be written whole
pub stalled :
    {source0 source1 : SourceState} {sink0 sink1 : SinkState} {request : List ℕ} →
    TakesFront sink0 sink1 request → source1 ≡ source0 →
    Ends source0 source1 sink0 sink1 request outcome.Unreached
stalled front unread = inl (record { front = front; unread = unread; outcome = refl })

-- it was written whole, and then the answer was listened to
pub exchanged :
    {source0 source1 source2 : SourceState} {sink0 sink1 sink2 : SinkState} {request : List ℕ}
    {said : Outcome} →
    Takes sink0 sink1 request → source1 ≡ source0 → Listens source1 source2 said →
    sink2 ≡ sink1 → Ends source0 source2 sink0 sink2 request said
exchanged {source0} {source1} {source2} {sink0} {sink1} {sink2} {request} {said} whole unread listened kept =
    at (subst (λ sink. Takes sink0 sink request) (sym kept) whole)
    (subst (λ source. Listens source source2 said) unread listened) where
      at : Takes sink0 sink2 request → Listens source0 source2 said →
          Ends source0 source2 sink0 sink2 request said
      at written (inl heard) =
          inr (inr (record { whole = written; bytes = heard.bytes; heard = heard.heard }))
      at written (inr cut) = inr (inl (record {
        whole = written;
        bytes = cut.bytes;
        broke = cut.broke;
        outcome = cut.outcome;
      }))

-- what a status says is never that nobody was reached, nor that it was dropped
said_by_status : (status : ℕ) (said : Outcome) → said ≡ outcome_of status → (¬ (said ≡ outcome.Unreached)) × (¬ (said ≡ outcome.Dropped))
said_by_status status said same = at (is_success status) same where
  at : (b : Bool) → said ≡ (if b then outcome.Accepted else outcome.Refused status) → (¬ (said ≡ outcome.Unreached)) × (¬ (said ≡ outcome.Dropped))
  at true e = (λ h. let never : outcome.Accepted ≡ outcome.Unreached = sym e ∙ h in cc, λ h. let never : outcome.Accepted ≡ outcome.Dropped = sym e ∙ h in cc)
  at false e = (λ h. let never : outcome.Refused status ≡ outcome.Unreached = sym e ∙ h in cc, λ h. let never : outcome.Refused status ≡ outcome.Dropped = sym e ∙ h in cc)

-- what bytes say is neither of these
says_neither :
    (bytes : List ℕ) (said : Outcome) → Says bytes said →
    (¬ (said ≡ outcome.Unreached)) × (¬ (said ≡ outcome.Dropped))
says_neither bytes said (inl (status, has, same)) = said_by_status status said same
says_neither bytes said (inr (none, same)) = (
  λ h. let never : outcome.Refused 0 ≡ outcome.Unreached = sym same ∙ h in cc,
  λ h. let never : outcome.Refused 0 ≡ outcome.Dropped = sym same ∙ h in cc,
)

-- nor is what was heard
hears_neither :
    {old new : SourceState} (bytes : List ℕ) (said : Outcome) → Hears old new bytes said →
    (¬ (said ≡ outcome.Unreached)) × (¬ (said ≡ outcome.Dropped))
hears_neither bytes said (inl (ended, says)) = says_neither _ said says
hears_neither bytes said (inr (moved, says)) = says_neither _ said (says [])

-- a connection of which a call failed is counted when it comes back
counted_as_broken :
    {before after : DialerState} (back : Dialed) → 0 < back.source.faults + back.sink.faults →
    HangsUp before after back → Rose before.broken after.broken
counted_as_broken {before} {after} back some hung_up =
    let broken : is_broken back ≡ true = grind (arith, nat_tests) in
    (subst (λ b. Tells b before.broken after.broken) broken hung_up.broken).0

-- a request that ended so is unreached only where a call of the connection failed, and never dropped
broke :
    {source0 source1 : SourceState} {sink0 sink1 : SinkState} {request : List ℕ} {said : Outcome} →
    Ends source0 source1 sink0 sink1 request said → said ≡ outcome.Unreached →
    0 < source1.faults + sink1.faults
broke (inl stalls) same = let rose = stalls.front.counted in omega arith
broke (inr (inl breaks)) same = let rose = breaks.broke.counted in omega arith
broke {said} (inr (inr answers)) same = absurd ((hears_neither answers.bytes said answers.heard).0 same)

-- a request is unreached only where the dial failed, or the connection came back broken
pub unreached_why :
    {old new : DialerState} {host : List ℕ} {port : ℕ} {request : List ℕ} {said : Outcome} →
    Delivers old new host port request said → said ≡ outcome.Unreached →
    Rose old.faults new.faults ⊎ Rose old.broken new.broken
unreached_why (inl undialed) same = inl undialed.failed.counted
unreached_why {old} {new} (inr call) same =
    inr (subst (λ before. Rose before new.broken) call.dialed.broken
    (counted_as_broken call.back (broke call.ended same) call.hung_up))

-- and it is never dropped
pub never_dropped :
    {old new : DialerState} {host : List ℕ} {port : ℕ} {request : List ℕ} {said : Outcome} →
    Delivers old new host port request said → ¬ (said ≡ outcome.Dropped)
never_dropped (inl undialed) same =
    let never : outcome.Unreached ≡ outcome.Dropped = sym undialed.outcome ∙ same in cc
never_dropped {said} (inr call) same = at call.ended where
  at : {source0 source1 : SourceState} {sink0 sink1 : SinkState} {request : List ℕ} →
      Ends source0 source1 sink0 sink1 request said → ⊥
  at (inl stalls) = let never : outcome.Unreached ≡ outcome.Dropped = sym stalls.outcome ∙ same in cc
  at (inr (inl breaks)) = let never : outcome.Unreached ≡ outcome.Dropped = sym breaks.outcome ∙ same in cc
  at (inr (inr answers)) = (hears_neither answers.bytes said answers.heard).1 same
