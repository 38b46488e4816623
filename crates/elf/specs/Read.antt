-- What reading an ELF image gives.
--     Short, HeaderRead    the header of an image, and how large its numbers are
--     Narrow               the numbers of a program header are below 2^32
--     table_checks         what is left of the checks where the header is well formed
-- Assumes nothing.
use Rattle.std.specs.Prelude.{◌≡◌, Bool, List, [], ◌∷◌, ℕ, ◌<◌, ◌^◌, eqb}
use Rattle.laws.specs.Checks.{Check, ◌gives◌}
use Rattle.answer.specs.declared.Refusal.{Refusal}
use Rattle.answer.specs.declared.Refusal.TheVariants.{BadElf, BadProgramHeader, SegmentsOverlap}
use Rattle.kernel.specs.declared.Kernel.{Kernel}
use Rattle.kernel.specs.Checks.{extents_overlap}
use Rattle.elf.specs.declared.read.ElfHeader.{ElfHeader}
use Rattle.elf.specs.declared.read.ProgramHeader.{ProgramHeader}
use Rattle.elf.specs.Elf.{elf_header}

pub record Short (h : ElfHeader) : Type 0 where
  pub table : h.e_phoff.0 < 2 ^ 32
  pub entries : h.e_phnum < 2 ^ 16

pub record HeaderRead (image : List ℕ) (h : ElfHeader) : Type 0 where
  pub is : h ≡ elf_header image
  pub short : Short h

pub record Narrow (p : ProgramHeader) : Type 0 where
  pub offset : p.p_offset.0 < 2 ^ 32
  pub start : p.p_paddr.0 < 2 ^ 32
  pub loaded : p.p_filesz < 2 ^ 32
  pub taken : p.p_memsz < 2 ^ 32

-- k is the kernel of the table; bad is whether a loadable program header does not fit
unfoldable pub table_checks : Kernel → Bool → List (Check Refusal)
table_checks k bad = eqb k.count 0 gives BadElf ∷ bad gives BadProgramHeader ∷ extents_overlap k gives SegmentsOverlap ∷ []
