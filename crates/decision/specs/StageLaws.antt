-- The last two stages of a decision: 15, then 16 and 17.
--     kernel_passed, all_placed                        when no check of a stage applies
--     decided_closed, decided_no_room, decided_load    the decision on memory in each case
-- Assumes nothing.
use Rattle.std.specs.Prelude.{Ok, Err, ◌≡◌, true, false, not, ℕ, ◌+◌, ◌≤◌, ltb}
use Rattle.std.proofs.Math.Path.{refl}
use Rattle.std.proofs.Common.{sym, ◌∙◌}
use mathlib.Core.List.{[]}
use borrow.Author.Tests.{ltb-false, not-false}
use Rattle.laws.specs.Checks.{first_of, passes}
use Rattle.laws.proofs.CheckLaws.{check_passed, passes_on}
use Rattle.answer.specs.declared.Refusal.{Refusal}
use Rattle.answer.specs.declared.Refusal.TheVariants.{KernelNotOpen, NoRoomForModule, NoRoomForBlock}
use Rattle.submission.specs.declared.Layout.{Layout}
use Rattle.kernel.specs.declared.Kernel.{Kernel}
use Rattle.board.specs.declared.Board.{Board}
use Rattle.board.specs.Open.{is_open}
use Rattle.placement.specs.declared.Items.{Items}
use Rattle.placement.specs.declared.Spans.{Spans}
use Rattle.placement.specs.Order.{Placed, place_items}
use Rattle.items.specs.LoadItems.{extents_of, items_of}
use Rattle.decision.specs.Decided.{kernel_open, kernel_checks, room_checks, placed_by, memory_checks}

-- no check of the kernel's memory applies only where its extents are open
pub kernel_passed : (b : Board) (k : Kernel) → passes (kernel_checks b k) ≡ true → kernel_open b k ≡ true
unfolding kernel_checks
kernel_passed b k h = not-false _ (check_passed (not (kernel_open b k)) KernelNotOpen [] h).0

-- no check of the room applies only where all modules and the information block were placed
pub all_placed : (done n : ℕ) → passes (room_checks done n) ≡ true → n + 1 ≤ done
unfolding room_checks
all_placed done n h =
    let a = check_passed (ltb done n) (NoRoomForModule done) _ h in
    ltb-false _ _ (check_passed (ltb done (n + 1)) NoRoomForBlock [] a.1).0

module _ (b : Board) (k : Kernel) (l : Layout) (size : ℕ) where
  -- the items placed, as the calls hand them over
  pub placed_is : (r : Placed) (t : Spans) (q : Items) → t ≡ extents_of k → q ≡ items_of l k.pages size → r ≡ place_items (is_open b) t q → r ≡ placed_by b k l size
  unfolding placed_by
  placed_is r t q e f g = rw (g, e, f)

  -- the last two stages, whatever their value
  module _ {A : Type 0} (z : A) where
    pub decided_closed : kernel_open b k ≡ false → Err KernelNotOpen ≡ first_of (memory_checks b k l size) z
    unfolding kernel_checks first_of
    decided_closed e = rw e refl

    module _ (o : kernel_open b k ≡ true) where
      -- the checks on the room are left
      room_left : first_of (room_checks (placed_by b k l size).done l.count) z ≡ first_of (memory_checks b k l size) z
      unfolding kernel_checks first_of
      room_left = rw o refl

      pub decided_no_room : (r : Refusal) → first_of (room_checks (placed_by b k l size).done l.count) z ≡ Err r → Err r ≡ first_of (memory_checks b k l size) z
      decided_no_room r h = sym h ∙ room_left

      pub decided_load : passes (room_checks (placed_by b k l size).done l.count) ≡ true → Ok z ≡ first_of (memory_checks b k l size) z
      decided_load h = sym (passes_on (room_checks (placed_by b k l size).done l.count) z h) ∙ room_left
