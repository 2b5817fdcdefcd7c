use Rattle.std.proofs.Common.{◌≡◌, ◌+◌, ◌≤◌, rules, arith, length, sym, ap, ◌∙◌, subst, ◌++◌, ◌∷◌, [], max}
use Rattle.ph_lock.specs.Tallies.{sum_of, top_of, AllSmall}
use Rattle.ph_lock.proofs.TallyLemmas.{sum-append, sum_small, small-append, top-append, length-append_one}
use Rattle.ph_lock.proofs.tally.Tally.add.Goals as goal

pub overflow_add-self : goal.overflow_add-self
overflow_add-self c =
    let inside = c.self.inside in
    let entries : inside.entries.items ≡ c.args.self.now.entries = ap (λ t. t.entries) c.self.view_is in
    let limit : inside.limit ≡ c.args.self.now.limit = ap (λ t. t.limit) c.self.view_is in
    let sums = c.self.invariant.sum_is ∙ ap sum_of entries in
    let small = sum_small c.args.self.now.entries c.requires.lawful.small in
    let limit_small = c.self.invariant.limit_small in
    let room = c.requires.lawful.room in
    let amount = c.requires.small.0 in
    omega arith

pub invariant_of-self-2 : goal.invariant_of-self-2
invariant_of-self-2 c =
    let inside = c.self.inside in
    let items : c.push.new.self.items ≡ inside.entries.items ++ (c.args.caller, c.args.amount) ∷ [] = search rules in
    let top : c.max-self-inside.result ≡ max inside.top (c.args.caller + 1) = search rules in
    record {
      limit_small = c.self.invariant.limit_small;
      sum_is = ap (λ n. n + c.args.amount) c.self.invariant.sum_is ∙ (sym (sum-append inside.entries.items (c.args.caller, c.args.amount)) ∙ ap sum_of (sym items));
      top_is = top ∙ (ap (λ n. max n (c.args.caller + 1)) c.self.invariant.top_is ∙ (sym (top-append inside.entries.items (c.args.caller, c.args.amount)) ∙ ap top_of (sym items)));
    }

pub returns-clause-lawful : goal.returns-clause-lawful
returns-clause-lawful c =
    let inside = c.self.inside in
    let items : c.push.new.self.items ≡ inside.entries.items ++ (c.args.caller, c.args.amount) ∷ [] = search rules in
    let entries : inside.entries.items ≡ c.args.self.now.entries = ap (λ t. t.entries) c.self.view_is in
    let small : AllSmall inside.entries.items = subst AllSmall (sym entries) c.requires.lawful.small in
    record {
      room = subst (λ xs. length xs ≤ inside.limit) (sym items) (let n = length-append_one inside.entries.items (c.args.caller, c.args.amount) in search (rules, n));
      small = subst AllSmall (sym items) (small-append inside.entries.items (c.args.caller, c.args.amount) small c.requires.small.0);
    }

pub returns-clause-ok : goal.returns-clause-ok
returns-clause-ok c =
    let inside = c.self.inside in
    let items : c.push.new.self.items ≡ inside.entries.items ++ (c.args.caller, c.args.amount) ∷ [] = search rules in
    let entries : inside.entries.items ≡ c.args.self.now.entries = ap (λ t. t.entries) c.self.view_is in (
      items ∙ ap (λ xs. xs ++ (c.args.caller, c.args.amount) ∷ []) entries,
      ap (λ n. n + c.args.amount) c.self.invariant.sum_is ∙ (sym (sum-append inside.entries.items (c.args.caller, c.args.amount)) ∙ ap sum_of (sym items)),
    )
