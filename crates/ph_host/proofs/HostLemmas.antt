-- What a worker did, from the pass that it was given to the one that was taken back.
use Rattle.std.proofs.Common.{◌≡◌, ◌≢◌, ℕ, List, [], ◌++◌, Option, Some, None, sym, ap, subst, ◌∙◌, append_assoc}
use Rattle.std.specs.Prelude.{IfSome, IsSomeAnd, map}
use Rattle.atomic_table.specs.Seated.{TableId}
use Rattle.ph_io.specs.Gates.{GateState}
use Rattle.ph_bank.specs.Links.{Link}
use Rattle.ph_bank.specs.Patiences.{Granted}
use Rattle.ph_lock.specs.Histories.{StartsWith}
use Rattle.ph_lock.specs.Passes.{Shown}
use Rattle.ph_book.specs.declared.acts.Entry.{Entry}
use Rattle.ph_book.specs.declared.hosted.Kept.TheVariants as kept
use Rattle.ph_book.specs.declared.setup.Setup.{Setup}
use Rattle.ph_book.specs.Callers.{caller_of}
use Rattle.ph_book.specs.History.{doings_of}
use Rattle.ph_book.specs.Hosts.{IsLawful}
use Rattle.ph_conn.specs.Laws.{AuthorisedOnce}
use Rattle.ph_conn.specs.Means.{Means}
use Rattle.ph_conn.proofs.LawLemmas.{authorised_once, laws_hold}
use Rattle.ph_host.specs.Servers.{IsNewPass, ServedBy, WorksBy, connection_limit, known_at_first, known_by_pass}
use Rattle.ph_host.specs.Visits.{EndsAs, Served}
use Rattle.ph_host.specs.declared.workers.WorkerEnd.{WorkerEnd}
use Rattle.ph_host.specs.declared.workers.WorkerEnd.TheVariants as worker

module _ {X : Type 0} where
  -- what follows from a fact of what is there
  pub some_and : {P Q : X → Type 0} (o : Option X) → ((x : X) → P x → Q x) → IsSomeAnd o P → IsSomeAnd o Q
  some_and None gives is = absurd is
  some_and (Some x) gives is = gives x is

  -- what is there has both facts
  pub some_both : {P Q : X → Type 0} (o : Option X) → IsSomeAnd o P → IsSomeAnd o Q → (x : X) × (P x × Q x)
  some_both None is also = absurd is
  some_both (Some x) is also = (x, (is, also))

  pub some_if : {P Q : X → Type 0} (o : Option X) → IsSomeAnd o P → IfSome o Q → (x : X) × (P x × Q x)
  some_if None is also = absurd is
  some_if (Some x) is also = (x, (is, also))

  -- what follows from its fact, where it is there
  pub some_gives : {P : X → Type 0} {Y : Type 0} (o : Option X) → ((x : X) → P x → Y) → IsSomeAnd o P → Y
  some_gives None gives is = absurd is
  some_gives (Some x) gives is = gives x is

-- the history begins with what a front of it begins with
pub begins_twice : {E : Type 0} (whole front seen : List E) → StartsWith whole front → StartsWith front seen → StartsWith whole seen
begins_twice whole front seen first second =
    (second.0 ++ first.0, first.1 ∙ ap (λ l. l ++ first.0) second.1 ∙ append_assoc seen second.0 first.0)

-- whatever a link tells, by a lawful history no confirmation was authorised twice
pub once_by : (setup : Setup) (history : List Entry) (link : Link) → IsLawful setup history → AuthorisedOnce (doings_of setup history) link
once_by setup history link lawful =
    authorised_once (doings_of setup history) link (laws_hold setup history lawful.few lawful.legal).all_but_the_last_were_challenged

-- a worker that has served isn't idle
pub not_idle : {limit : ℕ} {end : WorkerEnd} {means0 means1 : Means} {gate0 gate1 : GateState} → Served limit end means0 means1 gate0 gate1 → end ≢ worker.Idle
not_idle {limit} {end} {means0} {means1} {gate0} {gate1} served idle = subst (λ e. EndsAs e served.visits gate0 gate1) idle served.ended

-- a pass that knows nothing of the history
first_known : (setup : Setup) (before after : Shown Entry Setup) → before.base ≡ setup → after.caller ≡ before.caller → before.front ≡ [] → before.mine ≡ []
    → known_by_pass before ≡ known_at_first setup after.caller
first_known setup before after base caller front mine = λ i. record {
  setup = base i;
  caller = sym caller i;
  front = map (λ entry. record { entry = entry; kept = kept.Yes }) (front i);
  mine = map (λ placed. (placed.0, record { entry = placed.1; kept = kept.Yes })) (mine i);
}

same_served : (limit : ℕ) (end0 end1 : WorkerEnd) (m0 m1 n0 n1 : Means) (g0 g1 h0 h1 : GateState) → end0 ≡ end1 → m0 ≡ n0 → m1 ≡ n1 → g0 ≡ h0 → g1 ≡ h1
    → Served limit end0 m0 m1 g0 g1 → Served limit end1 n0 n1 h0 h1
same_served limit end0 end1 m0 m1 n0 n1 g0 g1 h0 h1 e a b c d served =
    subst (λ g. Served limit end1 n0 n1 h0 g) d
    (subst (λ g. Served limit end1 n0 n1 g g1) c
    (subst (λ m. Served limit end1 n0 m g0 g1) b (subst (λ m. Served limit end1 m m1 g0 g1) a (subst (λ x. Served limit x m0 m1 g0 g1) e served))))

-- what the pass was that it was given, what it did with it, and what it showed last
pub worked :
    (lock : TableId) (setup : Setup) (joined closed : List Entry) (given served last : Option (Shown Entry Setup)) (end0 end1 : WorkerEnd)
    (l0 m0 m1 l1 : Link) (p0 q0 q1 p1 : Granted) (g0 h0 h1 g1 : GateState)
    → IsSomeAnd given (IsNewPass lock setup [])
    → IfSome given (λ before. IsSomeAnd served (λ after. ServedBy caller_of IsLawful (λ base. base) (λ entry. entry) (λ entry. kept.Yes) before after end0 m0 m1 q0 q1 h0 h1))
    → IsSomeAnd served (λ pass. (last ≡ Some pass) × StartsWith joined pass.front)
    → StartsWith closed joined → end0 ≡ end1 → m0 ≡ l0 → m1 ≡ l1 → q0 ≡ p0 → q1 ≡ p1 → h0 ≡ g0 → h1 ≡ g1
    → IsSomeAnd last (λ shown. StartsWith closed shown.front × WorksBy setup shown end1 l0 l1 p0 p1 g0 g1)
worked lock setup joined closed given served last end0 end1 l0 m0 m1 l1 p0 q0 q1 p1 g0 h0 h1 g1 new did took whole ends a b c d e f =
    let before = some_if given new did in
    let after = some_both served before.1.1 took in
    let same = after.1.0.same in
    let known = first_known setup before.0 after.0 before.1.0.base same.caller before.1.0.front before.1.0.mine in
    subst (λ o. IsSomeAnd o (λ shown. StartsWith closed shown.front × WorksBy setup shown end1 l0 l1 p0 p1 g0 g1)) (sym after.1.1.0) (
      begins_twice closed joined after.0.front whole after.1.1.1,
      record {
        base = same.base ∙ before.1.0.base;
        pass = after.1.0.pass;
        served = same_served connection_limit end0 end1 _ _ _ _ h0 h1 g0 g1 ends
            (λ i. record { known = known i; link = a i; counts = c i })
            (λ i. record { known = known_by_pass after.0; link = b i; counts = d i }) e f after.1.0.served;
      },
    )
