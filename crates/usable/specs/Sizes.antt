-- The sizes of lower and upper memory.                                                  rule: SIZES
--     mem_lower    the number of consecutive usable addresses from 0 in whole KiB, at most 640
--     mem_upper    the same from 0x100000, with no cap but 2^32
-- Assumes nothing.
use Rattle.std.specs.Prelude.{ℕ, ◌-◌, ◌/◌, min}
use Rattle.laws.specs.Tests.{run}
use Rattle.address.specs.Address.{floor}
use Rattle.memory_map.specs.declared.MemoryMap.{MemoryMap}
use Rattle.usable.specs.Usable.{address_space, is_usable}

abbrev pub kib : ℕ
kib = 1024

abbrev pub max_mem_lower : ℕ
max_mem_lower = 640

unfoldable pub mem_lower : MemoryMap → ℕ
mem_lower m = min (run (is_usable m) 0 address_space / kib) max_mem_lower

unfoldable pub mem_upper : MemoryMap → ℕ
mem_upper m = run (is_usable m) floor (address_space - floor) / kib
