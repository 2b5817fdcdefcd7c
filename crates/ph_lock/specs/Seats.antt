-- The seats that passes and notes have between two calls.
use Rattle.std.specs.Prelude.{◌≡◌, ℕ, ◌<◌, List, [], Some, None}
use Rattle.ph_lock.specs.declared.knowledge.Stage.TheVariants.{Idle}
use Rattle.ph_lock.specs.declared.knowledge.Knowledge.{Knowledge}
use Rattle.ph_lock.specs.Histories.{own_entries}

module _ {S E B : Type 0} where
  -- an idle seat without a ticket or a slot, whose caller this is; its front is lawful, and mine is all that its caller has there
  pub record IsSeatOf (by : E → ℕ) (lawful : B → List E → Type 0) (caller : ℕ) (me : Knowledge E B × List (ℕ × S)) : Type 0 where
    pub named : me.0.caller ≡ Some caller
    pub small : caller < 4611686018427387904
    pub idle : me.0.stage ≡ Idle
    pub empty : me.1 ≡ []
    pub legal : lawful me.0.base me.0.front
    pub own : own_entries by caller 1 me.0.front ≡ me.0.mine

  -- the same for a seat without a caller
  pub record IsNameless (lawful : B → List E → Type 0) (me : Knowledge E B × List (ℕ × S)) : Type 0 where
    pub nameless : me.0.caller ≡ None
    pub idle : me.0.stage ≡ Idle
    pub empty : me.1 ≡ []
    pub legal : lawful me.0.base me.0.front
    pub no_mine : me.0.mine ≡ []
