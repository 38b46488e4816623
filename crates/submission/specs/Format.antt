-- The KSB format, versions 1 and 2: its fields, and where its parts lie.           rule: SUBMISSION
--     mark, version, module_count, image_length, line_length    the prefix
--     data_length, string_length, ceiling                       the entry of a module
--     image_start, line_start, data_start, string_start         the parts, one behind the other, by exact whole numbers
--     parts_end                                                 where the last part ends
--     image_bytes, line_bytes, string_bytes                     their bytes
--     max_modules                                               the most modules
-- A field that runs past the end of the submission reads zeros there.
-- Assumes nothing.
use Rattle.std.specs.Prelude.{List, [], ◌∷◌, ℕ, zero, suc, ◌+◌, ◌*◌, take, drop}
use Rattle.number.specs.Number.{number_at}

-- at 0, 3 bytes: `KSB`
abbrev pub mark : List ℕ
mark = 0x4B ∷ 0x53 ∷ 0x42 ∷ []

-- at 3, 2 bytes
abbrev pub version : List ℕ → ℕ
version s = number_at 2 s 3

-- at 5, 1 byte
abbrev pub module_count : List ℕ → ℕ
module_count s = number_at 1 s 5

-- at 6, 4 bytes
abbrev pub image_length : List ℕ → ℕ
image_length s = number_at 4 s 6

-- at 10, 2 bytes
abbrev pub line_length : List ℕ → ℕ
line_length s = number_at 2 s 10

-- at 12, 8 bytes for each module
abbrev pub prefix_size : ℕ
prefix_size = 12

abbrev pub table_entry_size : ℕ
table_entry_size = 8

abbrev pub entry_offset : ℕ → ℕ
entry_offset i = prefix_size + table_entry_size * i

-- at 0 of an entry, 4 bytes
abbrev pub data_length : List ℕ → ℕ → ℕ
data_length s i = number_at 4 s (entry_offset i)

-- at 4 of an entry, 2 bytes
abbrev pub string_length : List ℕ → ℕ → ℕ
string_length s i = number_at 2 s (entry_offset i + 4)

-- at 6 of an entry, 2 bytes: in MiB, 0 for none; version 1 has zero here
abbrev pub ceiling : List ℕ → ℕ → ℕ
ceiling s i = number_at 2 s (entry_offset i + 6)

-- then the image, the command line, and for each module its data and its string
abbrev pub image_start : List ℕ → ℕ
image_start s = entry_offset (module_count s)

abbrev pub line_start : List ℕ → ℕ
line_start s = image_start s + image_length s

unfoldable pub data_start : List ℕ → ℕ → ℕ
data_start s zero = line_start s + line_length s
data_start s (suc i) = data_start s i + data_length s i + string_length s i

abbrev pub string_start : List ℕ → ℕ → ℕ
string_start s i = data_start s i + data_length s i

abbrev pub parts_end : List ℕ → ℕ
parts_end s = data_start s (module_count s)

-- their bytes, cut where the submission ends
abbrev pub image_bytes : List ℕ → List ℕ
image_bytes s = take (image_length s) (drop (image_start s) s)

abbrev pub line_bytes : List ℕ → List ℕ
line_bytes s = take (line_length s) (drop (line_start s) s)

abbrev pub string_bytes : List ℕ → ℕ → List ℕ
string_bytes s i = take (string_length s i) (drop (string_start s i) s)

-- at most so many modules
abbrev pub max_modules : ℕ
max_modules = 16
