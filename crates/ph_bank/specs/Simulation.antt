-- How the simulated acquirer rules, and what it remembers.
use Rattle.std.specs.Prelude.{◌≡◌, ℕ, ◌<◌, ◌==◌, ◌++◌, slice_set, Bool, true, false, List, [], ◌∷◌, length, drop, nat_lt, if◌then◌else◌, None, Result, Ok, Err}
use Rattle.ph_base.specs.declared.acquirer.Method.{Method}
use Rattle.ph_base.specs.declared.acquirer.Method.TheVariants as method
use Rattle.ph_base.specs.declared.acquirer.Decline.TheVariants as decline
use Rattle.ph_base.specs.declared.acquirer.Ruling.TheVariants.{Approved, Declined, Challenge}
use Rattle.ph_items.specs.declared.orders.Order.{Order}
use Rattle.ph_bank.specs.declared.asking.Asked.{Asked}
use Rattle.ph_bank.specs.declared.asking.Asked.TheVariants.{Pending, Ruled}
use Rattle.ph_bank.specs.declared.asking.AskFailed.{AskFailed}
use Rattle.ph_bank.specs.declared.simulated.Remembered.{Remembered}
use Rattle.ph_bank.specs.Patiences.{next_count}
use Rattle.ph_bank.specs.Links.{Link, failed}

-- how often each of the references was asked that were most recently first asked, oldest first, and the faults
pub record Simulated : Type 0 where
  pub memory : List Remembered
  pub faults : ℕ

-- it tells its faults alone
abbrev pub link_of : Simulated → Link
link_of simulated = record { asked = None; decisions = None; faults = simulated.faults }

-- how many asks of a reference it remembers
abbrev pub count_of : List Remembered → ℕ → ℕ
count_of [] reference = 0
count_of (first ∷ memory) reference = if first.reference == reference then first.asks else count_of memory reference

abbrev pub is_remembered : List Remembered → ℕ → Bool
is_remembered [] reference = false
is_remembered (first ∷ memory) reference = if first.reference == reference then true else is_remembered memory reference

-- one ask more of a reference that it remembers
abbrev pub counted : List Remembered → ℕ → List Remembered
counted [] reference = []
counted (first ∷ memory) reference =
    if first.reference == reference then record first { asks = next_count first.asks } ∷ memory else first ∷ counted memory reference

-- a reference is remembered at this place
pub record IsPlace (memory : List Remembered) (reference at : ℕ) : Type 0 where
  pub within : at < length memory
  pub remembered : is_remembered memory reference ≡ true
  pub counts : counted memory reference ≡ slice_set memory at (record { reference = reference; asks = next_count (count_of memory reference) })

-- the first ask of a reference: of 32 the oldest is forgotten
abbrev pub first_asked : List Remembered → ℕ → List Remembered
first_asked memory reference =
    (if nat_lt (length memory) 32 then memory else drop 1 memory) ++ record { reference = reference; asks = 1 } ∷ []

abbrev pub memory_after : List Remembered → ℕ → List Remembered
memory_after memory reference = if is_remembered memory reference then counted memory reference else first_asked memory reference

-- the answer to an ask of this method, by how many asks of its reference are remembered
abbrev pub simulated_answer : Method → ℕ → Result Asked AskFailed
simulated_answer method.Visa asks = Ok (Ruled Approved)
simulated_answer method.Declined asks = Ok (Ruled (Declined decline.Generic))
simulated_answer method.NoFunds asks = Ok (Ruled (Declined decline.NoFunds))
simulated_answer method.Challenge asks = Ok (Ruled Challenge)
simulated_answer method.Authenticated asks = Ok (Ruled Approved)
simulated_answer method.Dispute asks = Ok (Ruled Approved)
simulated_answer method.Bypass asks = Ok (Ruled Approved)
simulated_answer (method.Slow n) asks = if nat_lt asks n then Ok Pending else Ok (Ruled Approved)
simulated_answer method.Lost asks = Err failed

abbrev pub faults_after : Result Asked AskFailed → ℕ → ℕ
faults_after (Ok answer) faults = faults
faults_after (Err e) faults = next_count faults

-- the answer to an ask
abbrev pub answer_to : Simulated → Order → Result Asked AskFailed
answer_to simulated order = simulated_answer order.method (count_of simulated.memory order.reference)

-- what it remembers and counts after an ask, whatever its method
abbrev pub after_ask : Simulated → Order → Simulated
after_ask simulated order = record {
  memory = memory_after simulated.memory order.reference;
  faults = faults_after (answer_to simulated order) simulated.faults;
}
