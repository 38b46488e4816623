-- The rules of a memory map, in propositions.                                             rule: MAP
--     Begins     a pair of this index begins before the end of the map
--     GoodMap    what a map keeps that is not refused
-- Assumes nothing.
use Rattle.std.specs.Prelude.{List, ℕ, suc, ◌≤◌, ◌<◌, length}
use Rattle.memory_map.specs.Pairs.{size_at, pair_offset}

abbrev pub Begins : List ℕ → ℕ → Type 0
Begins m i = pair_offset m i < length m

-- not empty, at most 4,096 bytes and 32 pairs, each of size 20 or more and inside the map
pub record GoodMap (m : List ℕ) : Type 0 where
  pub some : 1 ≤ length m
  pub short : length m ≤ 4096
  pub few : (i : ℕ) → Begins m i → i < 32
  pub large : (i : ℕ) → Begins m i → 20 ≤ size_at m (pair_offset m i)
  pub within : (i : ℕ) → Begins m i → pair_offset m (suc i) ≤ length m
