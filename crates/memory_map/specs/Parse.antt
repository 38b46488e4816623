-- What reading a map answers.                                                  rules: MAP, ANSWERS (5)
--     no_map        a map of no pairs
--     parsed_map    the pairs, or the refusal
--     pairs_read    the pairs, none where the map is refused
-- Assumes nothing.
use Rattle.std.specs.Prelude.{List, ℕ, replicate, Result}
use Rattle.std.specs.Result.{result_unwrap_or}
use Rattle.laws.specs.Checks.{first_of}
use Rattle.answer.specs.declared.Refusal.{Refusal}
use Rattle.memory_map.specs.declared.MemoryMap.{MemoryMap}
use Rattle.memory_map.specs.Map.{max_pairs, map_checks, no_pair, map_of}

abbrev pub no_map : MemoryMap
no_map = record { pairs = replicate max_pairs no_pair; count = 0 }

unfoldable pub parsed_map : List ℕ → Result MemoryMap Refusal
parsed_map m = first_of (map_checks m) (map_of m)

abbrev pub pairs_read : List ℕ → MemoryMap
pairs_read m = result_unwrap_or (parsed_map m) no_map
