-- The segments of an ELF image.                                                            rule: ELF
--     is_loadable, is_segment         which program headers are loaded
--     segment_of                      where a segment goes
--     is_segment_no, table_segment    the same of an entry of the table
--     segments_among                  the segments among the first entries of the table
--     elf_kernel                      the kernel of an ELF image
-- Assumes nothing.
use Rattle.std.specs.Prelude.{Bool, not, ◌&&◌, List, map, ℕ, ◌+◌, eqb}
use Rattle.laws.specs.Passing.{passing}
use Rattle.kernel.specs.declared.Segment.{Segment}
use Rattle.kernel.specs.declared.FoundHeader.{FoundHeader}
use Rattle.kernel.specs.declared.Kernel.{Kernel}
use Rattle.kernel.specs.Kernel.{kernel_with}
use Rattle.elf.specs.declared.read.ProgramHeader.{ProgramHeader}
use Rattle.elf.specs.Elf.{elf_header, program_header_no}

-- type 1
abbrev pub is_loadable : ProgramHeader → Bool
is_loadable p = eqb p.p_type 1

-- a loadable header whose memory size is not 0
unfoldable pub is_segment : ProgramHeader → Bool
is_segment p = is_loadable p && not (eqb p.p_memsz 0)

-- at the physical address the file bytes, then zeros up to the memory size
abbrev pub segment_of : ProgramHeader → Segment
segment_of p =
    record {
      start = p.p_paddr;
      load_end = record { 0 = p.p_paddr.0 + p.p_filesz };
      extent_end = record { 0 = p.p_paddr.0 + p.p_memsz };
      offset = p.p_offset;
    }

-- the entry i of the table: whether it is a segment, and where it goes then
abbrev pub is_segment_no : List ℕ → ℕ → Bool
is_segment_no image i = is_segment (program_header_no image i)

abbrev pub table_segment : List ℕ → ℕ → Segment
table_segment image i = segment_of (program_header_no image i)

-- the segments among the first n entries of the table, in its order
unfoldable pub segments_among : List ℕ → ℕ → List Segment
segments_among image n = map (table_segment image) (passing (is_segment_no image) n)

-- the kernel of an ELF image with this Multiboot header: all segments of the table
unfoldable pub elf_kernel : List ℕ → FoundHeader → Kernel
elf_kernel image found = kernel_with found (elf_header image).e_entry (segments_among image (elf_header image).e_phnum)
