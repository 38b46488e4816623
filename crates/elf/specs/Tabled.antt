-- The kernel of an ELF image, by the numbers in its table.                                 rule: ELF
--     Tabled    its segments are those of the table, each once, in table order, and nothing else
-- Assumes nothing.
use Rattle.std.specs.Prelude.{◌≡◌, List, ℕ, ◌+◌, ◌≤◌, ◌<◌}
use Rattle.kernel.specs.declared.Kernel.{Kernel}
use Rattle.kernel.specs.Kernel.{segment_no, no_segment}
use Rattle.elf.specs.Elf.{elf_header, program_header_no}
use Rattle.elf.specs.GoodElf.{SegmentAt}

pub record Tabled (image : List ℕ) (k : Kernel) : Type 0 where
  -- the entry of the table that each segment stands in
  pub index : ℕ → ℕ
  pub listed : (i : ℕ) → i < k.count → SegmentAt image (index i)
  pub rising : (i j : ℕ) → i < j → j < k.count → index i < index j
  pub every : (n : ℕ) → SegmentAt image n → (i : ℕ) × (i < k.count) × (index i ≡ n)
  pub rest : (i : ℕ) → k.count ≤ i → segment_no k i ≡ no_segment
  -- where it goes
  pub start : (i : ℕ) → i < k.count → (segment_no k i).start.0 ≡ (program_header_no image (index i)).p_paddr.0
  pub load_end : (i : ℕ) → i < k.count → (segment_no k i).load_end.0 ≡ (program_header_no image (index i)).p_paddr.0 + (program_header_no image (index i)).p_filesz
  pub end : (i : ℕ) → i < k.count → (segment_no k i).extent_end.0 ≡ (program_header_no image (index i)).p_paddr.0 + (program_header_no image (index i)).p_memsz
  pub offset : (i : ℕ) → i < k.count → (segment_no k i).offset.0 ≡ (program_header_no image (index i)).p_offset.0
  pub entry : k.entry.0 ≡ (elf_header image).e_entry.0
