-- Which plans are something that payhost does.
use Rattle.std.proofs.Common.{◌≡◌, ℕ, Bool, true, false, List, Option, Some, None, refl}
use Rattle.std.specs.Option.{is_some}
use Rattle.ph_host.specs.Plans.{host_plan, is_planned, once_if}

pub planned_once : (b : Bool) (patience : ℕ) → is_planned (once_if b patience) ≡ b
planned_once true patience = refl
planned_once false patience = refl

pub planned_host : (words : List (List ℕ)) (port : Option ℕ) → is_planned (host_plan words port) ≡ is_some port
planned_host words None = refl
planned_host words (Some port) = refl
