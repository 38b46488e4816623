-- Edges of a board.
--     open_edge    the nearest edge of the window, the BIOS data area or a pair past x, at most the window's end
-- Assumes nothing.
use Rattle.std.specs.Prelude.{ℕ}
use Rattle.edge.specs.Edge.{nearest}
use Rattle.usable.specs.MapEdge.{map_edge}
use Rattle.board.specs.declared.Board.{Board}
use Rattle.board.specs.Open.{bios_data_end}

unfoldable pub open_edge : Board → ℕ → ℕ
open_edge b x = map_edge b.map x (nearest x (nearest x b.window.end.0 b.window.start.0) bios_data_end)
