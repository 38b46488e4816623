-- `loader::load` meets its contract: the decision, and the writes of a load or none.
-- Assumes nothing.
use Rattle.std.proofs.Common.{sym, ◌∙◌}
use Rattle.loader.specs.WriteLaws.{decision_loaded, memory_loaded, memory_refused}
use Rattle.loader.proofs.load.Goals as goal

pub write_load-requires : goal.write_load-requires
write_load-requires c = decision_loaded _ _ _ (sym c.decide.ensures.value ∙ c.in_ok-decide.was) c.decide.ensures.plan_after

pub returns-in_err-decide-clause-window_after : goal.returns-in_err-decide-clause-window_after
returns-in_err-decide-clause-window_after c = memory_refused _ _ (sym c.decide.ensures.value ∙ c.in_err-decide.was) _

pub returns-clause-window_after : goal.returns-clause-window_after
returns-clause-window_after c =
    memory_loaded _ (decision_loaded _ _ _ (sym c.decide.ensures.value ∙ c.in_ok-decide.was) c.decide.ensures.plan_after).load _ _ c.write_load.ensures
