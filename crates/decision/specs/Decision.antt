-- The decision on what is lent: the order of checks, and the plan.             rules: ANSWERS, PLAN
--     lent_checks    the checks on what is lent
--     checks         all checks in their order
--     placed_in      where the modules and the information block go
--     plan_in        the plan of a load
--     decision_of    the plan, or the first refusal
-- Assumes nothing.
use Rattle.std.specs.Prelude.{List, ◌++◌}
use Rattle.laws.specs.Checks.{Check, first_of}
use Rattle.answer.specs.declared.Refusal.{Refusal}
use Rattle.submission.specs.Rules.{submission_checks}
use Rattle.command_line.specs.CommandLine.{operator_checks}
use Rattle.image.specs.Judged.{image_checks}
use Rattle.memory_map.specs.Map.{map_checks}
use Rattle.board.specs.Window.{window_checks}
use Rattle.placement.specs.Order.{Placed}
use Rattle.decision.specs.declared.Plan.{Plan}
use Rattle.decision.specs.Plan.{Decision}
use Rattle.decision.specs.Lent.{Lent}
use Rattle.decision.specs.Read.{layout_in, image_in, kernel_in, board_in, block_length_in}
use Rattle.decision.specs.Decided.{placed_by, memory_checks, memory_plan}

abbrev pub placed_in : Lent → Placed
placed_in x = placed_by (board_in x) (kernel_in x) (layout_in x) (block_length_in x)

-- 1 and 2, 3, 4, 5, then those on the image: 6, 7, 25 and 8, 9 to 13 or 18 to 20, and 14
unfoldable pub lent_checks : Lent → List (Check Refusal)
lent_checks x =
    submission_checks x.submission
    ++ operator_checks x.operator
    ++ window_checks x.first x.size
    ++ map_checks x.map
    ++ image_checks (image_in x)

-- then 15, 16 and 17
unfoldable pub checks : Lent → List (Check Refusal)
checks x = lent_checks x ++ memory_checks (board_in x) (kernel_in x) (layout_in x) (block_length_in x)

abbrev pub plan_in : Lent → Plan
plan_in x = memory_plan (board_in x) (kernel_in x) (layout_in x) (block_length_in x)

unfoldable pub decision_of : Lent → Decision
decision_of x = first_of (checks x) (plan_in x)
