-- The decision on what is lent: its plan, or the refusal.                               rule: PLAN
--     Decision      a plan, or a refusal
--     no_plan       all zeros
--     plan_given    the plan of a decision, all zeros in a refusal
-- Assumes nothing.
use Rattle.std.specs.Prelude.{replicate, Result}
use Rattle.std.specs.Result.{result_unwrap_or}
use Rattle.address.specs.Span.{no_span}
use Rattle.answer.specs.declared.Refusal.{Refusal}
use Rattle.submission.specs.Format.{max_modules}
use Rattle.kernel.specs.Kernel.{no_kernel}
use Rattle.decision.specs.declared.Plan.{Plan}

abbrev pub Decision : Type 0
Decision = Result Plan Refusal

unfoldable pub no_plan : Plan
no_plan = record { kernel = no_kernel; modules = replicate max_modules no_span; block = no_span; eax = 0; ebx = 0 }

abbrev pub plan_given : Decision → Plan
plan_given d = result_unwrap_or d no_plan
