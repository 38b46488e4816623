-- What a reader finds in an information block.
--     lengths_of, boot_module_no, string_address    the modules' strings by length, a module, and where its string stands
--     words_of, field_offsets                       the words of the structure and the entries, and where the fields stand
--     FieldsRead, EntryRead, TextStands             the fields, an entry and a text, read from bytes
--     BlockSmall                                    every number of a block that is written as a word is below 2^32
-- Assumes nothing.
use Rattle.std.specs.Prelude.{◌≡◌, List, [], ◌∷◌, ◌++◌, map, ℕ, ◌+◌, ◌^◌, ◌≤◌, ◌<◌, length, get_or, take, drop}
use Rattle.number.specs.Number.{number_at}
use Rattle.block.specs.declared.Structure.{Structure}
use Rattle.block.specs.Block.{flags_offset, mem_lower_offset, mem_upper_offset, cmdline_offset, mods_count_offset, mods_addr_offset, mmap_length_offset, mmap_addr_offset, boot_loader_name_offset, structure_words, address_of, texts_size, BootModule, module_entry_of, Contents, strings_offset, structure_of, entries, strings_address, block_of}

abbrev pub length_of : BootModule → ℕ
length_of x = length x.string

-- the lengths of the modules' strings
abbrev pub lengths_of : Contents → List ℕ
lengths_of c = map length_of c.modules

-- the words of the structure and the entries
abbrev pub words_of : Contents → List ℕ
words_of c = structure_words (structure_of c) ++ entries (strings_address c) (map module_entry_of c.modules)

-- the module of an index
abbrev pub no_boot_module : BootModule
no_boot_module = record { start = 0; end = 0; string = [] }

abbrev pub boot_module_no : Contents → ℕ → BootModule
boot_module_no c i = get_or c.modules i no_boot_module

-- where the string of the index i would stand, and its address
abbrev pub string_offset : Contents → ℕ → ℕ
string_offset c i = strings_offset (length c.modules) (length c.map) (length c.line) + texts_size (take i (lengths_of c))

abbrev pub string_address : Contents → ℕ → ℕ
string_address c i = address_of (c.start + string_offset c i) (length (boot_module_no c i).string)

-- a text stands in the bytes b at the offset `at`, with its zero
pub record TextStands (b : List ℕ) (at : ℕ) (s : List ℕ) : Type 0 where
  pub rest : List ℕ
  pub stands : drop at b ≡ s ++ (0 ∷ rest)

-- where the fields stand
abbrev pub field_offsets : List ℕ
field_offsets = flags_offset ∷ mem_lower_offset ∷ mem_upper_offset ∷ cmdline_offset ∷ mods_count_offset ∷ mods_addr_offset ∷ mmap_length_offset ∷ mmap_addr_offset ∷ boot_loader_name_offset ∷ []

-- every number that stands in the block as a word is below 2^32
pub record BlockSmall (c : Contents) : Type 0 where
  pub lower : c.lower < 2 ^ 32
  pub upper : c.upper < 2 ^ 32
  pub low : c.start + length (block_of c) ≤ 2 ^ 32
  pub starts : (i : ℕ) → i < length c.modules → (boot_module_no c i).start < 2 ^ 32
  pub ends : (i : ℕ) → i < length c.modules → (boot_module_no c i).end < 2 ^ 32

-- the fields of a structure read from the bytes b
pub record FieldsRead (b : List ℕ) (s : Structure) : Type 0 where
  pub flags : number_at 4 b flags_offset ≡ s.flags
  pub mem_lower : number_at 4 b mem_lower_offset ≡ s.mem_lower
  pub mem_upper : number_at 4 b mem_upper_offset ≡ s.mem_upper
  pub cmdline : number_at 4 b cmdline_offset ≡ s.cmdline
  pub mods_count : number_at 4 b mods_count_offset ≡ s.mods_count
  pub mods_addr : number_at 4 b mods_addr_offset ≡ s.mods_addr
  pub mmap_length : number_at 4 b mmap_length_offset ≡ s.mmap_length
  pub mmap_addr : number_at 4 b mmap_addr_offset ≡ s.mmap_addr
  pub boot_loader_name : number_at 4 b boot_loader_name_offset ≡ s.boot_loader_name

-- a module's entry read from the bytes b
pub record EntryRead (b : List ℕ) (at start end string : ℕ) : Type 0 where
  pub start_word : number_at 4 b at ≡ start
  pub end_word : number_at 4 b (at + 4) ≡ end
  pub string_word : number_at 4 b (at + 8) ≡ string
  pub zero_word : number_at 4 b (at + 12) ≡ 0
