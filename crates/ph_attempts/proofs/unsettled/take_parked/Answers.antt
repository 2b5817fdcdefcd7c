use Rattle.std.proofs.Common.{◌≡◌, ap, length, arith, rules}
use Rattle.std.proofs.lemmas.Fn.{filter_same}
use borrow.Author.Tests.{tests}
use Rattle.ph_attempts.specs.Attempts.{is_parked_under, without_parked}
use Rattle.ph_attempts.proofs.ListLemmas.{length-filter_any}
use Rattle.ph_attempts.proofs.unsettled.take_parked.Goals as goal

pub returns-clause-items : goal.returns-clause-items
returns-clause-items c = filter_same _ _ _ (λ x b f k. search (rules, tests)) _ _ c.retain.ensures.filtered

pub returns-clause-room : goal.returns-clause-room
returns-clause-room c =
    let items : c.retain.new.self.items ≡ without_parked c.args.reference c.args.attempts.now.items =
    filter_same _ _ _ (λ x b f k. search (rules, tests)) _ _ c.retain.ensures.filtered in
    λ parked.
    let less = length-filter_any (is_parked_under c.args.reference) c.args.attempts.now.items parked in
    let same : length c.retain.new.self.items ≡ length (without_parked c.args.reference c.args.attempts.now.items) = ap length items in
    let now = c.retain.new.self.ok in
    let before = c.args.attempts.now.ok in
    let capacity = c.retain.ensures.capacity in
    omega arith
