-- `viertompu::viertompu_load` meets its contract: the answer and the plan that a load gives make the decision.
-- Assumes nothing.
use Rattle.std.proofs.Common.{ap, ◌∙◌}
use Rattle.decision.proofs.PlanLaws.{decision_made, number_made}
use Rattle.viertompu.specs.Words.{plan_words}
use Rattle.viertompu.proofs.viertompu_load.Goals as goal

pub returns-clause-value : goal.returns-clause-value
returns-clause-value c = c.number.ensures ∙ number_made _ _ _ c.load-answer.ensures.value c.load-answer.ensures.plan_after

pub returns-clause-plan_after : goal.returns-clause-plan_after
returns-clause-plan_after c = c.write_plan.ensures ∙ ap plan_words (decision_made _ _ _ c.load-answer.ensures.value c.load-answer.ensures.plan_after)
