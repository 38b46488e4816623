-- Edges of a memory map.
--     map_edge    the nearest edge of a pair, or of all addresses, past x and before e, else e
-- Assumes nothing.
use Rattle.std.specs.Prelude.{ℕ, ◌+◌}
use Rattle.edge.specs.Edge.{nearest, edge_up_to}
use Rattle.memory_map.specs.declared.MemoryMap.{MemoryMap}
use Rattle.memory_map.specs.Map.{pair_no}
use Rattle.usable.specs.Usable.{address_space}

unfoldable pub map_edge : MemoryMap → ℕ → ℕ → ℕ
map_edge m x e = edge_up_to (λ i. (pair_no m i).base) (λ i. (pair_no m i).base + (pair_no m i).length) x (nearest x e address_space) m.count
