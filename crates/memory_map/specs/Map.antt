-- The pairs of a lent memory map as a table, and the check that it passes.     rules: MAP, ANSWERS (5)
--     max_pairs, max_map, min_pair_size    the limits of a map
--     no_pair, pair_no                     a pair of zeros, and the pair of an index
--     pair_count                           how many pairs there are
--     pair_at, first_pairs, map_of         the pairs read
--     bad_map, map_checks                  when a map is refused, as one test and as a check of the order
-- Assumes nothing.
use Rattle.std.specs.Prelude.{Bool, ◌||◌, List, [], ◌∷◌, ℕ, ◌+◌, ltb, eqb, length, get_or}
use Rattle.laws.specs.Tests.{any, run}
use Rattle.laws.specs.Table.{table}
use Rattle.laws.specs.Checks.{Check, ◌gives◌}
use Rattle.number.specs.Number.{number_at}
use Rattle.answer.specs.declared.Refusal.{Refusal}
use Rattle.answer.specs.declared.Refusal.TheVariants.{BadMemoryMap}
use Rattle.memory_map.specs.declared.Pair.{Pair}
use Rattle.memory_map.specs.declared.MemoryMap.{MemoryMap}
use Rattle.memory_map.specs.Pairs.{pair_offset, size_at, next_offset, base_offset, length_offset, kind_offset}

-- the most pairs, the most bytes, and the least size
abbrev pub max_pairs : ℕ
max_pairs = 32

abbrev pub max_map : ℕ
max_map = 4096

abbrev pub min_pair_size : ℕ
min_pair_size = 20

abbrev pub no_pair : Pair
no_pair = record { base = 0; length = 0; kind = 0 }

-- the pair of the index i
abbrev pub pair_no : MemoryMap → ℕ → Pair
pair_no m i = get_or m.pairs i no_pair

-- a pair of this index begins before the end of the map
unfoldable pub begins : List ℕ → ℕ → Bool
begins m i = ltb (pair_offset m i) (length m)

-- how many pairs begin before the end; there are never more than bytes, since each begins past the one before
unfoldable pub pair_count : List ℕ → ℕ
pair_count m = run (begins m) 0 (length m)

-- the pair at an offset is too small
unfoldable pub too_small : List ℕ → ℕ → Bool
too_small m at = ltb (size_at m at) min_pair_size

-- the pair at an offset, its size field included, runs past the end
unfoldable pub past_end : List ℕ → ℕ → Bool
past_end m at = ltb (length m) (next_offset m at)

-- empty, over 4,096 bytes, over 32 pairs, a size under 20, or a pair running past the end
unfoldable pub bad_map : List ℕ → Bool
bad_map m =
    eqb (length m) 0 || ltb max_map (length m) || ltb max_pairs (pair_count m)
    || any (λ i. too_small m (pair_offset m i)) (pair_count m)
    || any (λ i. past_end m (pair_offset m i)) (pair_count m)

unfoldable pub map_checks : List ℕ → List (Check Refusal)
map_checks m = (bad_map m gives BadMemoryMap) ∷ []

-- the pair at an offset
unfoldable pub pair_at : List ℕ → ℕ → Pair
pair_at m at = record {
  base = number_at 8 m (at + base_offset);
  length = number_at 8 m (at + length_offset);
  kind = number_at 4 m (at + kind_offset);
}

-- the first n pairs as a map, with zeros past the last
unfoldable pub first_pairs : List ℕ → ℕ → MemoryMap
first_pairs m n = record { pairs = table (λ i. pair_at m (pair_offset m i)) n max_pairs no_pair; count = n }

-- the pairs of a map
abbrev pub map_of : List ℕ → MemoryMap
map_of m = first_pairs m (pair_count m)
