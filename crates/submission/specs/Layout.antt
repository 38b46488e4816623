-- The parts of a submission by offset and length, as the code hands them on.       rule: SUBMISSION
--     table_entry                         the entry of a module in the table
--     image_part, line_part, module_of    the parts
--     layout_of                           all parts, the ceilings of the modules, and where the last part ends
--     module_no, ceiling_no, bytes_of     the module of an index, its ceiling, and the bytes of a part
-- Assumes nothing.
use Rattle.std.specs.Prelude.{List, ℕ, ◌+◌, get_or, take, drop}
use Rattle.laws.specs.Table.{table}
use Rattle.submission.specs.declared.read.TableEntry.{TableEntry}
use Rattle.submission.specs.declared.Part.{Part}
use Rattle.submission.specs.declared.Module.{Module}
use Rattle.submission.specs.declared.Layout.{Layout}
use Rattle.submission.specs.Format.{data_length, image_start, line_start, data_start, module_count, string_length, image_length, line_length, ceiling, parts_end, max_modules}

abbrev pub table_entry : List ℕ → ℕ → TableEntry
table_entry s i = record { bytes = data_length s i; string = string_length s i; ceiling = ceiling s i }

abbrev pub image_part : List ℕ → Part
image_part s = record { at = image_start s; len = image_length s }

abbrev pub line_part : List ℕ → Part
line_part s = record { at = line_start s; len = line_length s }

-- a module with its data from `at` on
abbrev pub module_from : ℕ → TableEntry → Module
module_from at e = record { «data» = record { at = at; len = e.bytes }; string = record { at = at + e.bytes; len = e.string } }

abbrev pub module_of : List ℕ → ℕ → Module
module_of s i = module_from (data_start s i) (table_entry s i)

abbrev pub no_part : Part
no_part = record { at = 0; len = 0 }

abbrev pub no_module : Module
no_module = record { «data» = no_part; string = no_part }

-- the first n modules, and their ceilings; zeros past the last
abbrev pub module_table : List ℕ → ℕ → List Module
module_table s n = table (module_of s) n max_modules no_module

abbrev pub ceiling_table : List ℕ → ℕ → List ℕ
ceiling_table s n = table (ceiling s) n max_modules 0

unfoldable pub layout_of : List ℕ → Layout
layout_of s = record { image = image_part s; line = line_part s; modules = module_table s (module_count s); ceilings = ceiling_table s (module_count s); count = module_count s; end = parts_end s }

-- the module of an index, and its ceiling
abbrev pub module_no : Layout → ℕ → Module
module_no l i = get_or l.modules i no_module

abbrev pub ceiling_no : Layout → ℕ → ℕ
ceiling_no l i = get_or l.ceilings i 0

-- the bytes of a part, cut where the submission ends
abbrev pub bytes_of : List ℕ → Part → List ℕ
bytes_of s p = take p.len (drop p.at s)
