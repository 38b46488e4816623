-- What placing the items of a load leaves.
--     Prepared         what the checks before 15 have shown
--     items_ready      the items may be placed
--     item_some        no item is empty
--     load_in_order    the placing promise for the items of a load, beside the kernel's extents
--     span_below       a placed item begins below 2^32
-- Assumes nothing.
use Rattle.std.specs.Prelude.{ℕ, ◌+◌, ◌≤◌, ◌<◌, ◌^◌}
use Rattle.std.proofs.Common.{arith}
use Rattle.laws.proofs.TableLaws.{length_table}
use Rattle.address.specs.Address.{top}
use Rattle.address.specs.Span.{no_span, span_no}
use Rattle.submission.specs.declared.Layout.{Layout}
use Rattle.submission.specs.Layout.{module_no}
use Rattle.submission.specs.Format.{max_modules}
use Rattle.kernel.specs.declared.Kernel.{Kernel}
use Rattle.kernel.specs.Kernel.{max_segments, extent_no}
use Rattle.board.specs.declared.Board.{Board}
use Rattle.board.specs.Open.{is_open}
use Rattle.board.proofs.OpenLaws.{open_below}
use Rattle.placement.specs.declared.Item.{Item}
use Rattle.placement.specs.Free.{max_spans}
use Rattle.placement.specs.Order.{item_no}
use Rattle.placement.specs.Ready.{Ready}
use Rattle.placement.specs.InOrder.{InOrder}
use Rattle.placement.proofs.PlacingLaws.{board_in_order}
use Rattle.items.specs.LoadItems.{extents_of, items_of}
use Rattle.items.specs.LoadItemsLaws.{each_item}
use Rattle.decision.specs.Decided.{placed_by}

pub record Prepared (b : Board) (k : Kernel) (l : Layout) (size : ℕ) : Type 0 where
  pub window : b.window.end.0 ≤ top
  pub segments : k.count ≤ max_segments
  pub modules : l.count ≤ max_modules
  pub bytes : (i : ℕ) → i < l.count → 1 ≤ (module_no l i).«data».len
  pub block : 1 ≤ size

module _ (b : Board) (k : Kernel) (l : Layout) (size : ℕ) (p : Prepared b k l size) where
  pub items_ready : Ready b (extents_of k) (items_of l k.pages size)
  unfolding items_of extents_of
  items_ready =
      record {
        window = p.window;
        items = omega (arith, p.modules);
        spans = omega (arith, p.modules, p.segments);
      }

  -- no item is empty
  pub item_some : (i : ℕ) → i < l.count + 1 → 0 < (item_no (items_of l k.pages size) i).length
  unfolding items_of
  item_some i h = each_item (λ (q : Item). 0 < q.length) l k.pages size (λ j u. p.bytes j u) p.block i h

  pub load_in_order : InOrder (is_open b) (extents_of k) (items_of l k.pages size) (placed_by b k l size)
  unfolding items_of extents_of placed_by
  load_in_order =
      board_in_order b (items_of l k.pages size)
      item_some
      (extents_of k)
      (omega (arith, p.modules, p.segments, length_table (extent_no k) max_spans no_span k.count (omega (arith, p.segments))))

  -- where all items were placed, each begins below 2^32
  pub span_below : l.count + 1 ≤ (placed_by b k l size).done → (i : ℕ) → i < l.count + 1 → (span_no (placed_by b k l size).spans.list (k.count + i)).start.0 < 2 ^ 32
  unfolding extents_of items_of
  span_below h i u =
      let s = load_in_order.stands i (omega arith) in
      let n = item_some i u in
      open_below b (span_no (placed_by b k l size).spans.list (k.count + i)).start.0 (s.suits.opened _ (omega arith) (omega arith))
