-- The callers of a history are below the number above them, and those of a legal one below 2 ^ 62.
use Rattle.std.proofs.Common.{◌≡◌, ℕ, ◌+◌, ◌^◌, ◌≤◌, max, List, [], ◌∷◌, sym, subst, arith}
use Rattle.ph_lock.specs.Histories.{AllBelow}
use Rattle.ph_book.specs.declared.setup.Setup.{Setup}
use Rattle.ph_book.specs.declared.acts.Entry.{Entry}
use Rattle.ph_book.specs.Callers.{caller_of, top_from, top_of}
use Rattle.ph_book.specs.History.{Happening, and_then}
use Rattle.ph_book.specs.Legal.{AreAllowed, IsLegal}

below_more : (less more : ℕ) (entries : List Entry) → less ≤ more → AllBelow caller_of less entries → AllBelow caller_of more entries
below_more less more [] le all = tt
below_more less more (entry ∷ entries) le all = (omega (arith, le, all.0), below_more less more entries le all.1)

top_least : (least : ℕ) (entries : List Entry) → least ≤ top_from least entries
top_least least [] = omega arith
top_least least (entry ∷ entries) = let more = top_least (max least (entry.caller + 1)) entries in omega (arith, more)

below_top_from : (least : ℕ) (entries : List Entry) → AllBelow caller_of (top_from least entries) entries
below_top_from least [] = tt
below_top_from least (entry ∷ entries) =
    let more = top_least (max least (entry.caller + 1)) entries in
    (omega (arith, more), below_top_from (max least (entry.caller + 1)) entries)

pub below_top : (top : ℕ) (entries : List Entry) → top ≡ top_of entries → AllBelow caller_of top entries
below_top top entries is = subst (λ n. AllBelow caller_of n entries) (sym is) (below_top_from 0 entries)

allowed_small : (setup : Setup) (past : List Happening) (entries : List Entry) → AreAllowed setup past entries → AllBelow caller_of (2 ^ 62) entries
allowed_small setup past [] allowed = tt
allowed_small setup past (entry ∷ entries) allowed = (allowed.0.caller, allowed_small setup (and_then setup past entry) entries allowed.1)

-- the callers of a legal history
pub legal_small : (setup : Setup) (history : List Entry) → IsLegal setup history → AllBelow caller_of (2 ^ 62) history
legal_small setup history legal = allowed_small setup [] history legal.allowed
