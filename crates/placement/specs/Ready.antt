-- What placing items in order asks.
--     Ready    the window ends below the top, and there is room for a span of each item
-- Assumes nothing.
use Rattle.std.specs.Prelude.{◌+◌, ◌≤◌}
use Rattle.address.specs.Address.{top}
use Rattle.board.specs.declared.Board.{Board}
use Rattle.placement.specs.declared.Spans.{Spans}
use Rattle.placement.specs.declared.Items.{Items}
use Rattle.placement.specs.Free.{max_spans}
use Rattle.placement.specs.Order.{max_items}

pub record Ready (b : Board) (t : Spans) (q : Items) : Type 0 where
  pub window : b.window.end.0 ≤ top
  pub items : q.count ≤ max_items
  pub spans : t.count + q.count ≤ max_spans
