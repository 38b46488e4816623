-- Which ELF images are refused.                                             rule: ANSWERS (18 to 20)
--     right_kind, table_fits, well_formed    what an ELF header keeps
--     fits, bad_header, bad_no               what a loadable program header keeps
--     elf_checks                             18, 19 and 20
-- Assumes nothing.
use Rattle.std.specs.Prelude.{Bool, not, ◌&&◌, ◌||◌, List, [], ◌∷◌, ℕ, ◌+◌, ◌*◌, eqb, leb, length}
use Rattle.laws.specs.Tests.{any}
use Rattle.laws.specs.Checks.{Check, ◌gives◌}
use Rattle.answer.specs.declared.Refusal.{Refusal}
use Rattle.answer.specs.declared.Refusal.TheVariants.{BadElf, BadProgramHeader, SegmentsOverlap}
use Rattle.kernel.specs.declared.Kernel.{Kernel}
use Rattle.kernel.specs.Kernel.{max_segments}
use Rattle.kernel.specs.Checks.{extents_overlap}
use Rattle.elf.specs.declared.read.ElfHeader.{ElfHeader}
use Rattle.elf.specs.declared.read.ProgramHeader.{ProgramHeader}
use Rattle.elf.specs.Elf.{elf_header_size, program_header_size, elf_header, program_header_no}
use Rattle.elf.specs.Segments.{is_loadable}

-- class 1, data 1, type 2, machine 3, entry size 32
unfoldable pub right_kind : ElfHeader → Bool
right_kind h =
    eqb h.ei_class 1
    && eqb h.ei_data 1
    && eqb h.e_type 2
    && eqb h.e_machine 3
    && eqb h.e_phentsize program_header_size

-- the table lies in the image of n bytes, and has at most 16 entries, of every type
unfoldable pub table_fits : ElfHeader → ℕ → Bool
table_fits h n = leb (h.e_phoff.0 + program_header_size * h.e_phnum) n && leb h.e_phnum max_segments

-- at least 52 bytes, the right kind, and a table that fits
unfoldable pub well_formed : ElfHeader → ℕ → Bool
well_formed h n = leb elf_header_size n && right_kind h && table_fits h n

-- a file size not above the memory size, and file bytes, where there are any, inside the image of n bytes
unfoldable pub fits : ProgramHeader → ℕ → Bool
fits p n = leb p.p_filesz p.p_memsz && (eqb p.p_filesz 0 || leb (p.p_offset.0 + p.p_filesz) n)

unfoldable pub bad_header : ProgramHeader → ℕ → Bool
bad_header p n = is_loadable p && not (fits p n)

unfoldable pub bad_no : List ℕ → ℕ → Bool
bad_no image i = bad_header (program_header_no image i) (length image)

-- 18, then 19, then 20: the checks on an ELF image with the kernel k
unfoldable pub elf_checks : List ℕ → Kernel → List (Check Refusal)
elf_checks image k =
    (not (well_formed (elf_header image) (length image)) || eqb k.count 0) gives BadElf
    ∷ any (bad_no image) (elf_header image).e_phnum gives BadProgramHeader
    ∷ extents_overlap k gives SegmentsOverlap
    ∷ []
