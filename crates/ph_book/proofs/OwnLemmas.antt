-- What a call comes to by itself: it is not refused before it is carried out, and gives no saved reply.
use Rattle.std.proofs.Common.{ℕ, nat_lt, List}
use Rattle.ph_calls.specs.declared.call.Call.{Call}
use Rattle.ph_calls.specs.declared.call.Call.TheVariants as call
use Rattle.ph_errors.specs.Table.{ClockBackwards, error_of}
use Rattle.ph_facts.specs.Outcomes.{Refuses}
use Rattle.ph_rows.specs.declared.rows.Row.{Row}
use Rattle.ph_rows.specs.Batches.{BatchState}
use Rattle.ph_book.specs.Calls.{Upshot, Rejects, Replays, Makes, Shows, Sets, carried}
use Rattle.ph_book.proofs.ErrorLemmas.{chosen}

-- it has an outcome over the rows, shows a document or sets the clock
abbrev pub IsOwn : Upshot → Type 0
IsOwn (Rejects error) = ⊥
IsOwn (Replays saved) = ⊥
IsOwn (Makes outcome) = Unit {0}
IsOwn (Shows doc) = Unit {0}
IsOwn (Sets moment) = Unit {0}

pub carried_own : (rows : List Row) (account now : ℕ) (c : Call) (batch : BatchState) → IsOwn (carried rows account now c batch)
carried_own rows account now (call.CreateIntent c) batch = tt
carried_own rows account now (call.UpdateIntent c) batch = tt
carried_own rows account now (call.ConfirmIntent c) batch = tt
carried_own rows account now (call.CaptureIntent c) batch = tt
carried_own rows account now (call.CancelIntent c) batch = tt
carried_own rows account now (call.CreateRefund c) batch = tt
carried_own rows account now (call.CreateTransfer c) batch = tt
carried_own rows account now (call.ReverseTransfer c) batch = tt
carried_own rows account now (call.RefundFee c) batch = tt
carried_own rows account now (call.SendEvidence c) batch = tt
carried_own rows account now (call.CloseDispute c) batch = tt
carried_own rows account now (call.GetBalance c) batch = tt
carried_own rows account now (call.CreateAccount c) batch = tt
carried_own rows account now (call.Retrieve c) batch = tt
carried_own rows account now (call.SetClock c) batch = chosen IsOwn (nat_lt c.now now) (Makes (Refuses (error_of ClockBackwards))) (Sets c.now) tt tt
carried_own rows account now (call.Authenticate c) batch = tt
