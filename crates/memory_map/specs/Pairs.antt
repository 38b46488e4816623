-- The pairs of a lent memory map.                                                         rule: MAP
--     size_bytes, base_offset, length_offset, kind_offset    where the fields of a pair stand
--     size_at, next_offset, pair_offset                      the size of a pair, and where each pair begins
-- Assumes nothing.
use Rattle.std.specs.Prelude.{List, ℕ, zero, suc, ◌+◌}
use Rattle.number.specs.Number.{number_at}

-- a pair is a 4-byte size, then base (8 bytes), length (8), type (4)
abbrev pub size_bytes : ℕ
size_bytes = 4

abbrev pub base_offset : ℕ
base_offset = 4

abbrev pub length_offset : ℕ
length_offset = 12

abbrev pub kind_offset : ℕ
kind_offset = 20

-- the size of the pair at the offset `at`
abbrev pub size_at : List ℕ → ℕ → ℕ
size_at m at = number_at size_bytes m at

-- the next pair begins size + 4 bytes on, whatever size is
unfoldable pub next_offset : List ℕ → ℕ → ℕ
next_offset m at = at + (size_at m at + size_bytes)

-- where the pair of the index i begins
unfoldable pub pair_offset : List ℕ → ℕ → ℕ
pair_offset m zero = 0
pair_offset m (suc i) = next_offset m (pair_offset m i)
