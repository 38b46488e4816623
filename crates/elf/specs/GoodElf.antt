-- The rules of an ELF image, in propositions.                                            rule: ELF
--     SegmentAt                 an entry of the table is a segment
--     GoodElfHeader, GoodElf    the rules behind 18
--     GoodHeader                the rules behind 19, of one program header
--     Takes                     a program header takes an address, for 20
-- Assumes nothing.
use Rattle.std.specs.Prelude.{◌≡◌, List, ℕ, ◌+◌, ◌*◌, ◌≤◌, ◌<◌, length}
use Rattle.elf.specs.declared.read.ElfHeader.{ElfHeader}
use Rattle.elf.specs.declared.read.ProgramHeader.{ProgramHeader}
use Rattle.elf.specs.Elf.{elf_header, program_header_no}

-- the entry i of the table is a segment: loadable, with a memory size that is not 0
pub record SegmentAt (image : List ℕ) (i : ℕ) : Type 0 where
  pub entry : i < (elf_header image).e_phnum
  pub loadable : (program_header_no image i).p_type ≡ 1
  pub some : (program_header_no image i).p_memsz ≡ 0 → ⊥

-- the header h of an image of n bytes: at least 52, the right kind, and a table of at most 16 entries inside the image
pub record GoodElfHeader (h : ElfHeader) (n : ℕ) : Type 0 where
  pub long : 52 ≤ n
  pub class : h.ei_class ≡ 1
  pub order : h.ei_data ≡ 1
  pub kind : h.e_type ≡ 2
  pub machine : h.e_machine ≡ 3
  pub size : h.e_phentsize ≡ 32
  pub table : h.e_phoff.0 + 32 * h.e_phnum ≤ n
  pub few : h.e_phnum ≤ 16

-- such a header, and a segment
pub record GoodElf (image : List ℕ) : Type 0 where
  pub header : GoodElfHeader (elf_header image) (length image)
  pub some : (i : ℕ) × SegmentAt image i

-- a file size not above the memory size, and file bytes, where there are any, inside an image of n bytes
pub record GoodHeader (p : ProgramHeader) (n : ℕ) : Type 0 where
  pub sizes : p.p_filesz ≤ p.p_memsz
  pub inside : (p.p_filesz ≡ 0 → ⊥) → p.p_offset.0 + p.p_filesz ≤ n

-- the address belongs to the program header, by its memory size
abbrev pub Takes : ProgramHeader → ℕ → Type 0
Takes p a = (p.p_paddr.0 ≤ a) × (a < p.p_paddr.0 + p.p_memsz)
