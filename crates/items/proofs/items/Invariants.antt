-- `items::items` meets its contract: the loop fills a table.
use Rattle.std.proofs.Common.{◌+◌, ◌≡◌}
use Rattle.laws.specs.Table.{table}
use Rattle.placement.specs.Order.{max_items, no_item}
use Rattle.items.specs.LoadItems.{load_item}
use Rattle.items.proofs.items.Given as goal

abbrev pub invariant-loop-i : goal.invariant-loop-i
invariant-loop-i l = (l.items.list ≡ table (load_item l.layout l.pages l.size) l.i max_items no_item) × (l.items.count ≡ l.layout.count + 1)
