-- Which addresses a memory map makes usable, in propositions.                     rules: MAP, USABLE, SIZES
--     CoversAt, Usable    a pair covers an address; the address is usable
--     Stretch             so many usable addresses in a row
-- Assumes nothing.
use Rattle.std.specs.Prelude.{◌≡◌, List, ℕ, ◌+◌, ◌^◌, ◌≤◌, ◌<◌}
use Rattle.number.specs.Number.{number_at}
use Rattle.memory_map.specs.Pairs.{pair_offset}
use Rattle.memory_map.specs.GoodMap.{Begins}

-- the pair of the index i covers a: from its base up to but not including base + length, an exact whole number
abbrev pub CoversAt : List ℕ → ℕ → ℕ → Type 0
CoversAt m i a = (number_at 8 m (pair_offset m i + 4) ≤ a) × (a < number_at 8 m (pair_offset m i + 4) + number_at 8 m (pair_offset m i + 12))

-- below 2^32, some pair of type 1 covers it, and no pair of another type does
pub record Usable (m : List ℕ) (a : ℕ) : Type 0 where
  pub below : a < 2 ^ 32
  pub some : (i : ℕ) × Begins m i × (number_at 4 m (pair_offset m i + 20) ≡ 1) × CoversAt m i a
  pub none : (i : ℕ) → Begins m i → (number_at 4 m (pair_offset m i + 20) ≡ 1 → ⊥) → CoversAt m i a → ⊥

-- from the address a on, n addresses are usable, and the next is not
pub record Stretch (m : List ℕ) (a n : ℕ) : Type 0 where
  pub usable : (y : ℕ) → a ≤ y → y < a + n → Usable m y
  pub ends : Usable m (a + n) → ⊥
