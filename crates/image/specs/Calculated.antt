-- The kernel that an image asks for, by the numbers in its header.                   rules: HEADER, LOAD
--     Announced     its header, and what the flags ask for
--     Calculated    by address fields: where the load begins and ends in image and memory, and where it is entered
-- Assumes nothing.
use Rattle.std.specs.Prelude.{◌≡◌, true, ◌↔◌, List, ℕ, ◌+◌, max, ◌<◌, ◌%◌, ◌≤◌, length}
use Rattle.number.specs.Number.{number_at}
use Rattle.header.specs.HeaderAt.{HeaderAt}
use Rattle.kernel.specs.declared.Kernel.{Kernel}
use Rattle.kernel.specs.Kernel.{segment_no, no_segment}

-- the header of the kernel k is the lowest, and flag bit 0 asks for modules on pages
pub record Announced (image : List ℕ) (k : Kernel) : Type 0 where
  pub header : HeaderAt image k.header.0
  pub lowest : (o : ℕ) → o < k.header.0 → HeaderAt image o → ⊥
  pub pages : (k.pages ≡ true) ↔ (number_at 4 image (k.header.0 + 4) % 2 ≡ 1)

-- there is one segment, by the numbers that stand in the header: header_addr at 12, load_addr at 16, load_end_addr at 20,
-- bss_end_addr at 24, entry_addr at 28
pub record Calculated (image : List ℕ) (k : Kernel) : Type 0 where
  pub one : k.count ≡ 1
  pub rest : (i : ℕ) → 1 ≤ i → segment_no k i ≡ no_segment
  pub start : (segment_no k 0).start.0 ≡ number_at 4 image (k.header.0 + 16)
  pub offset : (segment_no k 0).offset.0 + number_at 4 image (k.header.0 + 12) ≡ k.header.0 + number_at 4 image (k.header.0 + 16)
  pub whole : number_at 4 image (k.header.0 + 20) ≡ 0 → (segment_no k 0).load_end.0 + (segment_no k 0).offset.0 ≡ (segment_no k 0).start.0 + length image
  pub given : (number_at 4 image (k.header.0 + 20) ≡ 0 → ⊥) → (segment_no k 0).load_end.0 ≡ number_at 4 image (k.header.0 + 20)
  pub some : (segment_no k 0).start.0 < (segment_no k 0).load_end.0
  pub end : (segment_no k 0).extent_end.0 ≡ max (segment_no k 0).load_end.0 (number_at 4 image (k.header.0 + 24))
  pub entry : k.entry.0 ≡ number_at 4 image (k.header.0 + 28)
