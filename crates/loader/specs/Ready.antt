-- What writing a load asks.
--     PlanOfLoad    the plan is that of a load
-- Assumes nothing.
use Rattle.std.specs.Prelude.{◌≡◌, true}
use Rattle.laws.specs.Checks.{passes}
use Rattle.decision.specs.declared.Plan.{Plan}
use Rattle.decision.specs.Lent.{Lent}
use Rattle.decision.specs.Decision.{checks, plan_in}

pub record PlanOfLoad (x : Lent) (p : Plan) : Type 0 where
  pub load : passes (checks x) ≡ true
  pub plan : p ≡ plan_in x
