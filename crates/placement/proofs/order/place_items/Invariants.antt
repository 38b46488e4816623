-- `placement::order::place_items` meets its contract. The loop's invariant: with i items placed, placing from there on gives
-- what placing all gives.
use Rattle.std.proofs.Common.{◌≡◌, ◌+◌, ◌-◌}
use Rattle.board.specs.Open.{is_open}
use Rattle.placement.specs.Order.{placed_from, place_items}
use Rattle.placement.proofs.order.place_items.Given as goal

abbrev pub invariant-loop-i : goal.invariant-loop-i
invariant-loop-i l = (l.spans.count ≡ l.fn.spans.count + l.i) × (place_items (is_open l.board) l.fn.spans l.fn.items ≡ placed_from (is_open l.board) l.fn.items (l.fn.items.count - l.i) l.i l.spans)
