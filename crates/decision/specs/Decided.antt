-- The stages of a decision, and what they leave.          rules: ANSWERS (15 to 17), PLAN, HANDOVER
--     kernel_open, kernel_checks      15: every address of the kernel's extents is open
--     room_checks                     16 and 17: each module and the information block found room
--     boot_magic, plan_of             the plan of a load
--     placed_by, memory_decision      where the items go, and the decision on memory alone
-- Assumes nothing.
use Rattle.std.specs.Prelude.{Bool, not, List, [], ◌∷◌, ◌++◌, ℕ, ◌+◌, ◌-◌, ltb}
use Rattle.laws.specs.Tests.{all_from}
use Rattle.laws.specs.Checks.{Check, first_of, ◌gives◌}
use Rattle.address.specs.Span.{span_no}
use Rattle.answer.specs.declared.Refusal.{Refusal}
use Rattle.answer.specs.declared.Refusal.TheVariants.{KernelNotOpen, NoRoomForModule, NoRoomForBlock}
use Rattle.submission.specs.declared.Layout.{Layout}
use Rattle.kernel.specs.declared.Kernel.{Kernel}
use Rattle.kernel.specs.Kernel.{extent_no}
use Rattle.board.specs.declared.Board.{Board}
use Rattle.board.specs.Open.{is_open}
use Rattle.placement.specs.declared.Spans.{Spans}
use Rattle.placement.specs.Order.{Placed, place_items}
use Rattle.items.specs.LoadItems.{extents_of, items_of, module_spans}
use Rattle.decision.specs.declared.Plan.{Plan}
use Rattle.decision.specs.Plan.{Decision}

-- the kernel's extents lie wholly in open memory
unfoldable pub extent_open : Board → Kernel → ℕ → Bool
extent_open b k i = all_from (is_open b) (extent_no k i).start.0 ((extent_no k i).end.0 - (extent_no k i).start.0)

unfoldable pub kernel_open : Board → Kernel → Bool
kernel_open b k = all_from (extent_open b k) 0 k.count

-- 15: an address of the kernel's extents not open
unfoldable pub kernel_checks : Board → Kernel → List (Check Refusal)
kernel_checks b k = (not (kernel_open b k) gives KernelNotOpen) ∷ []

-- 16 and 17: `done` items found room, of n modules and the information block
unfoldable pub room_checks : ℕ → ℕ → List (Check Refusal)
room_checks done n = (ltb done n gives NoRoomForModule done) ∷ (ltb done (n + 1) gives NoRoomForBlock) ∷ []

-- the number handed over in EAX
abbrev pub boot_magic : ℕ
boot_magic = 0x2BADB002

-- the plan of n modules and the information block, placed behind the kernel's extents
unfoldable pub plan_of : Kernel → Spans → ℕ → Plan
plan_of k t n =
    record {
      kernel = k;
      modules = module_spans t k.count n;
      block = span_no t.list (k.count + n);
      eax = boot_magic;
      ebx = (span_no t.list (k.count + n)).start.0;
    }

-- each module in list order, then the information block of so many bytes, beside the kernel's extents
unfoldable pub placed_by : Board → Kernel → Layout → ℕ → Placed
placed_by b k l size = place_items (is_open b) (extents_of k) (items_of l k.pages size)

-- 15 to 17, and the plan
abbrev pub memory_checks : Board → Kernel → Layout → ℕ → List (Check Refusal)
memory_checks b k l size = kernel_checks b k ++ room_checks (placed_by b k l size).done l.count

abbrev pub memory_plan : Board → Kernel → Layout → ℕ → Plan
memory_plan b k l size = plan_of k (placed_by b k l size).spans l.count

abbrev pub memory_decision : Board → Kernel → Layout → ℕ → Decision
memory_decision b k l size = first_of (memory_checks b k l size) (memory_plan b k l size)
