-- Which addresses are usable.                                                    rules: MAP, USABLE
--     ram, address_space      the type of usable memory, and where usable addresses end
--     covers                  the pair covers the address
--     usable_by, barred_by    a pair of usable memory covers it, or one of another type
--     is_usable               the address is usable
-- Assumes nothing.
use Rattle.std.specs.Prelude.{Bool, not, ◌&&◌, ℕ, ◌+◌, ◌^◌, eqb, ltb}
use Rattle.laws.specs.Tests.{any}
use Rattle.address.specs.Address.{inside}
use Rattle.memory_map.specs.declared.Pair.{Pair}
use Rattle.memory_map.specs.declared.MemoryMap.{MemoryMap}
use Rattle.memory_map.specs.Map.{pair_no}

abbrev pub ram : ℕ
ram = 1

abbrev pub address_space : ℕ
address_space = 2 ^ 32

-- a pair covers the addresses from its base up to but not including base + length, an exact whole number
unfoldable pub covers : Pair → ℕ → Bool
covers p a = inside p.base (p.base + p.length) a

-- the pair i covers the address, and is of usable memory, or of another type
unfoldable pub usable_by : MemoryMap → ℕ → ℕ → Bool
usable_by m a i = eqb (pair_no m i).kind ram && covers (pair_no m i) a

unfoldable pub barred_by : MemoryMap → ℕ → ℕ → Bool
barred_by m a i = not (eqb (pair_no m i).kind ram) && covers (pair_no m i) a

-- an address below 2^32 is usable if some pair of type 1 covers it and no pair of another type does
unfoldable pub is_usable : MemoryMap → ℕ → Bool
is_usable m a = ltb a address_space && any (usable_by m a) m.count && not (any (barred_by m a) m.count)
