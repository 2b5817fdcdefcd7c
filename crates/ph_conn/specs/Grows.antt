-- A pass grows by every act, and so by several. The lemmas stand here, beside the definition, and call no tactic, since laws of the lock as a desk need them.
use Rattle.std.specs.Prelude.{[], ◌++◌}
use Rattle.std.proofs.Common.{refl, sym, ap, ◌∙◌, append_assoc}
use Rattle.std.proofs.lemmas.List.{append-nil}
use Rattle.ph_lock.specs.Passes.{Shown}
use Rattle.ph_conn.specs.Fronts.{Grown}

-- a pass has grown into itself
pub grown_stays : {E Base : Type 0} (pass : Shown E Base) → Grown pass pass
grown_stays pass = record { same = record { lock = refl; base = refl; caller = refl }; front = ([], sym (append-nil pass.front)) }

pub grown_further : {E Base : Type 0} (old middle new : Shown E Base) → Grown old middle → Grown middle new → Grown old new
grown_further old middle new one two = record {
  same = record { lock = two.same.lock ∙ one.same.lock; base = two.same.base ∙ one.same.base; caller = two.same.caller ∙ one.same.caller };
  front = (one.front.0 ++ two.front.0, two.front.1 ∙ ap (λ xs. xs ++ two.front.0) one.front.1 ∙ append_assoc old.front one.front.0 two.front.0);
}
