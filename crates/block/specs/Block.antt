-- The information block as one list of bytes.                                           rule: BLOCK
--     flags_offset to boot_loader_name_offset, structure_size, module_entry_size    where the fields of the structure stand, and how long the parts are
--     structure_words                                                               the 22 words of the structure, from its fields
--     BootModule, Contents                                                          what a block says
--     map_offset to strings_offset, block_length                                    where its parts stand and how long it is, by lengths alone
--     structure_of, entries, texts, block_of                                        its bytes
--     contents_of                                                                   what the block of a load says
-- Assumes nothing.
use Rattle.std.specs.Prelude.{List, [], ◌∷◌, ◌++◌, map, ℕ, zero, suc, ◌+◌, ◌*◌, length}
use Rattle.laws.specs.Table.{listed}
use Rattle.number.specs.Number.{word_bytes}
use Rattle.address.specs.declared.Span.{Span}
use Rattle.address.specs.Span.{span_no}
use Rattle.submission.specs.declared.Layout.{Layout}
use Rattle.submission.specs.Layout.{module_no, bytes_of}
use Rattle.block.specs.declared.Structure.{Structure}
use Rattle.block.specs.TextSize.{text_size}

-- where the fields of the structure stand
abbrev pub flags_offset : ℕ
flags_offset = 0

abbrev pub mem_lower_offset : ℕ
mem_lower_offset = 4

abbrev pub mem_upper_offset : ℕ
mem_upper_offset = 8

abbrev pub cmdline_offset : ℕ
cmdline_offset = 16

abbrev pub mods_count_offset : ℕ
mods_count_offset = 20

abbrev pub mods_addr_offset : ℕ
mods_addr_offset = 24

abbrev pub mmap_length_offset : ℕ
mmap_length_offset = 44

abbrev pub mmap_addr_offset : ℕ
mmap_addr_offset = 48

abbrev pub boot_loader_name_offset : ℕ
boot_loader_name_offset = 64

-- the bytes of the structure and of a module's entry
abbrev pub structure_size : ℕ
structure_size = 88

abbrev pub module_entry_size : ℕ
module_entry_size = 16

-- the words of the structure, in order; all but the fields are zero
unfoldable pub structure_words : Structure → List ℕ
structure_words s =
    s.flags ∷ s.mem_lower ∷ s.mem_upper ∷ 0 ∷ s.cmdline ∷ s.mods_count ∷ s.mods_addr ∷ 0 ∷ 0 ∷ 0 ∷ 0 ∷ s.mmap_length ∷ s.mmap_addr ∷ 0 ∷ 0 ∷ 0 ∷ s.boot_loader_name ∷ 0 ∷ 0 ∷ 0 ∷ 0 ∷ 0 ∷ []

-- the seven bytes `shelf 1` and a zero
abbrev pub loader_name : List ℕ
loader_name = 115 ∷ 104 ∷ 101 ∷ 108 ∷ 102 ∷ 32 ∷ 49 ∷ 0 ∷ []

-- the flags without a command line, and with one
abbrev pub plain_flags : ℕ
plain_flags = 0x249

abbrev pub line_flags : ℕ
line_flags = 0x24D

abbrev pub flags_of : ℕ → ℕ
flags_of zero = plain_flags
flags_of (suc line_length) = line_flags

-- a text and its zero, and how many bytes they have; an empty text has none
unfoldable pub text_bytes : List ℕ → List ℕ
text_bytes [] = []
text_bytes (x ∷ s) = (x ∷ s) ++ (0 ∷ [])

-- the address of a text of n bytes at the address a: 0 if it is empty
unfoldable pub address_of : ℕ → ℕ → ℕ
address_of a zero = 0
address_of a (suc n) = a

-- the bytes of texts of these lengths
unfoldable pub texts_size : List ℕ → ℕ
texts_size [] = 0
texts_size (n ∷ lengths) = text_size n + texts_size lengths

-- a module in memory, from start up to but not including end, and its string
pub record BootModule : Type 0 where
  pub start : ℕ
  pub end : ℕ
  pub string : List ℕ

-- what its entry is made of: the string counts by its length
pub record ModuleEntry : Type 0 where
  pub start : ℕ
  pub end : ℕ
  pub text : ℕ

abbrev pub text_of : ModuleEntry → ℕ
text_of e = e.text

abbrev pub string_of : BootModule → List ℕ
string_of x = x.string

abbrev pub module_entry_of : BootModule → ModuleEntry
module_entry_of x = record { start = x.start; end = x.end; text = length x.string }

-- what a block says: its own address, the sizes of memory, the modules, the map's bytes and the command line
pub record Contents : Type 0 where
  pub start : ℕ
  pub lower : ℕ
  pub upper : ℕ
  pub modules : List BootModule
  pub map : List ℕ
  pub line : List ℕ

-- the parts follow one another with no gaps: structure, entries, map, name, line, strings
abbrev pub map_offset : ℕ → ℕ
map_offset count = structure_size + module_entry_size * count

abbrev pub name_offset : ℕ → ℕ → ℕ
name_offset count map_length = map_offset count + map_length

abbrev pub line_offset : ℕ → ℕ → ℕ
line_offset count map_length = name_offset count map_length + length loader_name

abbrev pub strings_offset : ℕ → ℕ → ℕ → ℕ
strings_offset count map_length line_length = line_offset count map_length + text_size line_length

-- the length of a block with module strings of these lengths
unfoldable pub block_length : List ℕ → ℕ → ℕ → ℕ
block_length lengths map_length line_length = strings_offset (length lengths) map_length line_length + texts_size lengths

-- the structure of a block at the address start
unfoldable pub structure_for : ℕ → ℕ → ℕ → ℕ → ℕ → ℕ → Structure
structure_for start lower upper count map_length line_length = record {
  flags = flags_of line_length;
  mem_lower = lower;
  mem_upper = upper;
  cmdline = address_of (start + line_offset count map_length) line_length;
  mods_count = count;
  mods_addr = start + structure_size;
  mmap_length = map_length;
  mmap_addr = start + map_offset count;
  boot_loader_name = start + name_offset count map_length;
}

abbrev pub structure_of : Contents → Structure
structure_of c = structure_for c.start c.lower c.upper (length c.modules) (length c.map) (length c.line)

-- an entry's words: start, end, the string's address, 0
unfoldable pub entry_words : ℕ → ModuleEntry → List ℕ
entry_words a e = e.start ∷ e.end ∷ address_of a e.text ∷ 0 ∷ []

-- the words of the modules' entries, where the strings begin at the address a
unfoldable pub entries : ℕ → List ModuleEntry → List ℕ
entries a [] = []
entries a (e ∷ es) = entry_words a e ++ entries (a + text_size e.text) es

-- the address of the first string, whether or not there is one
abbrev pub strings_address : Contents → ℕ
strings_address c = c.start + strings_offset (length c.modules) (length c.map) (length c.line)

-- each text that is not empty and its zero, in order
unfoldable pub texts : List (List ℕ) → List ℕ
texts [] = []
texts (s ∷ ss) = text_bytes s ++ texts ss

-- what stands behind the entries: the map, the loader's name, the command line, the strings
unfoldable pub parts_of : List ℕ → List ℕ → List (List ℕ) → List ℕ
parts_of m line strings = m ++ (loader_name ++ (text_bytes line ++ texts strings))

-- the block
unfoldable pub block_of : Contents → List ℕ
block_of c =
    word_bytes (structure_words (structure_of c) ++ entries (strings_address c) (map module_entry_of c.modules))
    ++ parts_of c.map c.line (map string_of c.modules)

-- the lengths of the first n strings
unfoldable pub string_lengths : Layout → ℕ → List ℕ
string_lengths l n = listed (λ i. (module_no l i).string.len) n

-- a module of a submission, placed at its span
abbrev pub boot_module_of : List ℕ → Layout → List Span → ℕ → BootModule
boot_module_of s l spans i = record { start = (span_no spans i).start.0; end = (span_no spans i).end.0; string = bytes_of s (module_no l i).string }

-- the first n modules
unfoldable pub boot_modules : List ℕ → Layout → List Span → ℕ → List BootModule
boot_modules s l spans n = listed (boot_module_of s l spans) n

-- what the block of a load says
abbrev pub contents_of : List ℕ → Layout → List Span → List ℕ → List ℕ → ℕ → ℕ → ℕ → Contents
contents_of s l spans m line start lower upper = record {
  start = start;
  lower = lower;
  upper = upper;
  modules = boot_modules s l spans l.count;
  map = m;
  line = line;
}
