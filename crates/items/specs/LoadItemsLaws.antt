-- Laws of the items of a load.
--     item_module, item_block, item_at    the item of an index is a module's, or the information block's
--     each_item                           what holds of each item
-- Assumes nothing.
use Rattle.std.specs.Prelude.{◌≡◌, Bool, ℕ, ◌+◌, ◌≤◌, ◌<◌}
use Rattle.std.proofs.Common.{⊎_elim, arith, lt-ltb, le-ltb}
use Rattle.laws.proofs.TestLaws.{lt_or_le}
use Rattle.laws.proofs.TableLaws.{table_at}
use Rattle.submission.specs.declared.Layout.{Layout}
use Rattle.submission.specs.Layout.{module_no, ceiling_no}
use Rattle.placement.specs.declared.Item.{Item}
use Rattle.placement.specs.Order.{max_items, item_no, no_item}
use Rattle.items.specs.LoadItems.{module_item, block_item, load_item, items_of}

module _ (l : Layout) (pages : Bool) (size : ℕ) where
  -- the item of an index is a module's, or the information block's
  pub item_module : (i : ℕ) → i < l.count → load_item l pages size i ≡ module_item pages (module_no l i).«data».len (ceiling_no l i)
  unfolding load_item
  item_module i h = rw (lt-ltb i l.count h)

  pub item_block : load_item l pages size l.count ≡ block_item size
  unfolding load_item
  item_block = rw (le-ltb l.count l.count (omega arith))

  pub item_at : (i : ℕ) → i < l.count + 1 → item_no (items_of l pages size) i ≡ load_item l pages size i
  unfolding items_of
  item_at i h = table_at (load_item l pages size) max_items no_item (l.count + 1) i h

-- what holds of each module's item and of the information block's holds of each item
pub each_item : (P : Item → Type 0) (l : Layout) (pages : Bool) (size : ℕ)
    → ((i : ℕ) → i < l.count → P (module_item pages (module_no l i).«data».len (ceiling_no l i)))
    → P (block_item size)
    → (i : ℕ) → i < (items_of l pages size).count → P (item_no (items_of l pages size) i)
unfolding items_of
each_item P l pages size m b i h =
    rw (item_at l pages size i h)
    (⊎_elim
    (λ (u : i < l.count). rw (item_module l pages size i u) (m i u))
    (λ (u : l.count ≤ i). let e : i ≡ l.count = omega arith in rw (e, item_block l pages size) b)
    (lt_or_le i l.count))
