-- A load that can be computed: placing and the sizes of memory go from edge to edge instead of address by address.
--     model_in, model_decision, decision_computes    the places and the decision
--     model_memory, memory_computes                  the window after a decision
-- Assumes nothing.
use Rattle.std.specs.Prelude.{◌≡◌, Ok, Err, List, [], ◌∷◌, ◌++◌, ℕ, ◌+◌, ◌-◌, ◌≤◌}
use Rattle.std.proofs.Math.Path.{refl, sym, ap}
use Rattle.std.proofs.Common.{◌∙◌}
use Rattle.std.proofs.Math.Bool.{false}
use Rattle.laws.specs.Table.{listed}
use Rattle.laws.specs.Checks.{first_of, passes}
use Rattle.laws.proofs.CheckLaws.{ok_passed, err_failed}
use Rattle.buffer.specs.Writes.{Write, written}
use Rattle.address.specs.Address.{page}
use Rattle.memory_map.specs.Parse.{pairs_read}
use Rattle.usable.specs.Usable.{address_space}
use Rattle.usable.specs.Sizes.{mem_lower, mem_upper}
use Rattle.placement.specs.Order.{Placed}
use Rattle.items.specs.LoadItems.{extents_of, items_of}
use Rattle.decision.specs.declared.Plan.{Plan}
use Rattle.decision.specs.Lent.{Lent}
use Rattle.decision.specs.Read.{layout_in, image_in, kernel_in, line_in, board_in, block_length_in}
use Rattle.decision.specs.Decided.{kernel_checks, room_checks, placed_by, plan_of}
use Rattle.decision.specs.Plan.{Decision}
use Rattle.decision.specs.Decision.{lent_checks, checks, placed_in, plan_in, decision_of}
use Rattle.block.specs.Block.{Contents, contents_of, block_of}
use Rattle.loader.specs.Memory.{segment_write, module_write, contents_in, block_write, segment_writes, module_writes, writes_of, memory_after}
use Rattle.loader.specs.WriteLaws.{memory_loaded}
use Rattle.cases.proofs.WalkLaws.{computed_from, items_compute}
use Rattle.cases.proofs.RunLaws.{computed_lower, computed_upper, lower_computes, upper_computes}

unfoldable pub model_in : Lent → Placed
model_in x = computed_from (board_in x) (items_of (layout_in x) (kernel_in x).pages (block_length_in x)) ((layout_in x).count + 1) 0 (extents_of (kernel_in x))

-- the decision where the items are placed so
unfoldable pub decision_with : Lent → Placed → Decision
decision_with x p =
    first_of (lent_checks x ++ (kernel_checks (board_in x) (kernel_in x) ++ room_checks p.done (layout_in x).count))
    (plan_of (kernel_in x) p.spans (layout_in x).count)

unfoldable pub model_decision : Lent → Decision
model_decision x = decision_with x (model_in x)

-- what the information block says of a load by this plan, with these sizes of memory
unfoldable pub contents_with : Lent → Plan → ℕ → ℕ → Contents
contents_with x p lower upper = contents_of x.submission (layout_in x) p.modules x.map (line_in x) p.block.start.0 lower upper

-- the writes of such a load
unfoldable pub writes_with : Lent → Plan → ℕ → ℕ → List Write
writes_with x p lower upper =
    listed (segment_write x.first (image_in x) p.kernel) p.kernel.count
    ++ listed (module_write x.first x.submission (layout_in x) p.modules) (layout_in x).count
    ++ (record { at = p.block.start.0 - x.first; bytes = block_of (contents_with x p lower upper) } ∷ [])

-- the window after such a decision
unfoldable pub memory_with : Lent → List ℕ → Decision → ℕ → ℕ → List ℕ
memory_with x w (Ok p) lower upper = written w (writes_with x p lower upper)
memory_with x w (Err r) lower upper = w

unfoldable pub model_memory : Lent → List ℕ → Decision → List ℕ
model_memory x w d = let m = pairs_read x.map in memory_with x w d (computed_lower m) (computed_upper m)

module _ (x : Lent) (small : x.first + x.size + page ≤ address_space) where
  placed_computes : placed_in x ≡ model_in x
  unfolding placed_by model_in items_of
  placed_computes = items_compute (board_in x) (items_of (layout_in x) (kernel_in x).pages (block_length_in x)) small (extents_of (kernel_in x))

  decision_with_lem : decision_of x ≡ decision_with x (placed_in x)
  unfolding decision_of checks decision_with
  decision_with_lem = refl

  pub decision_computes : decision_of x ≡ model_decision x
  unfolding model_decision
  decision_computes = decision_with_lem ∙ ap (decision_with x) placed_computes

module _ (x : Lent) (w : List ℕ) where
  -- a load's writes are those by its plan
  writes_with_lem : writes_of x ≡ writes_with x (plan_in x) (mem_lower (pairs_read x.map)) (mem_upper (pairs_read x.map))
  unfolding writes_of segment_writes module_writes block_write contents_in contents_with writes_with
  writes_with_lem = refl

  memory_with_lem : (d : Decision) → decision_of x ≡ d → memory_after x w ≡ memory_with x w d (mem_lower (pairs_read x.map)) (mem_upper (pairs_read x.map))
  unfolding memory_with memory_after decision_of
  memory_with_lem (Ok p) e =
      let l = ok_passed (checks x) p (plan_in x) e in
      sym (memory_loaded x l.0 w (written w (writes_of x)) refl) ∙ rw (writes_with_lem, l.1) refl
  memory_with_lem (Err r) e = let l : passes (checks x) ≡ false = err_failed (checks x) r (plan_in x) e in rw l refl

  pub memory_computes : memory_after x w ≡ model_memory x w (decision_of x)
  unfolding model_memory
  memory_computes = rw (memory_with_lem (decision_of x) refl, lower_computes, upper_computes)
