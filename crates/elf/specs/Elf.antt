-- An ELF image, by the standard's offsets and in its names.                                rule: ELF
--     elf_mark, is_elf                        what an ELF image begins with
--     elf_header                              the ELF header
--     program_header_at, program_header_no    a program header, by its offset and by its index in the table
-- All numbers are little-endian, and all addresses physical.
-- Assumes nothing.
use Rattle.std.specs.Prelude.{Bool, List, ℕ, ◌+◌, ◌*◌, eqb}
use Rattle.number.specs.Number.{number_at}
use Rattle.elf.specs.declared.read.ElfHeader.{ElfHeader}
use Rattle.elf.specs.declared.read.ProgramHeader.{ProgramHeader}

-- the bytes 7F 45 4C 46, as a number
abbrev pub elf_mark : ℕ
elf_mark = 0x464C457F

abbrev pub is_elf : List ℕ → Bool
is_elf image = eqb (number_at 4 image 0) elf_mark

-- how many bytes an ELF header and a program header have
abbrev pub elf_header_size : ℕ
elf_header_size = 52

abbrev pub program_header_size : ℕ
program_header_size = 32

unfoldable pub elf_header : List ℕ → ElfHeader
elf_header image =
    record {
      ei_class = number_at 1 image 4;
      ei_data = number_at 1 image 5;
      e_type = number_at 2 image 16;
      e_machine = number_at 2 image 18;
      e_entry = record { 0 = number_at 4 image 24 };
      e_phoff = record { 0 = number_at 4 image 28 };
      e_phentsize = number_at 2 image 42;
      e_phnum = number_at 2 image 44;
    }

unfoldable pub program_header_at : List ℕ → ℕ → ProgramHeader
program_header_at image o =
    record {
      p_type = number_at 4 image o;
      p_offset = record { 0 = number_at 4 image (o + 4) };
      p_paddr = record { 0 = number_at 4 image (o + 12) };
      p_filesz = number_at 4 image (o + 16);
      p_memsz = number_at 4 image (o + 20);
    }

-- the program header of an index
abbrev pub program_header_no : List ℕ → ℕ → ProgramHeader
program_header_no image i = program_header_at image ((elf_header image).e_phoff.0 + program_header_size * i)
