-- Where the parts of a submission lie, whatever its bytes are.
--     line_behind_image, data_behind_line, string_behind_data, data_behind_string    one behind the other
--     data_order                                                                     a later module lies further on
--     length-bytes_of, bytes_of_at                                                   a part that lies inside is whole; its bytes
--     layout_line, layout_count, layout_end                                          the fields of the layout
--     length_modules, module_at, module_past                                         its table of modules
--     ceiling_at                                                                     its table of ceilings
-- Assumes nothing.
use Rattle.std.specs.Prelude.{◌≡◌, List, ℕ, zero, suc, ◌+◌, ◌≤◌, ◌<◌, length, get_or}
use Rattle.std.proofs.Math.Path.{refl}
use Rattle.std.proofs.Common.{ap, ⊎_elim, eq-or-lt_of_le, le_of_suc-le-suc, arith, length-take, length-drop, get_or-take, get_or-drop}
use Rattle.std.proofs.Math.Numerals.{add-one}
use Rattle.laws.proofs.TableLaws.{length_table, table_at, table_past}
use Rattle.submission.specs.Format.{module_count, image_length, line_length, data_length, string_length, image_start, line_start, data_start, string_start, parts_end, ceiling, max_modules}
use Rattle.submission.specs.Layout.{line_part, module_of, no_module, layout_of, module_no, ceiling_no, bytes_of}
use Rattle.submission.specs.declared.Part.{Part}

module _ (s : List ℕ) where
  pub line_behind_image : line_start s ≡ image_start s + image_length s
  line_behind_image = refl

  pub data_behind_line : data_start s 0 ≡ line_start s + line_length s
  unfolding data_start
  data_behind_line = refl

  pub string_behind_data : (i : ℕ) → string_start s i ≡ data_start s i + data_length s i
  string_behind_data i = refl

  pub data_behind_string : (i : ℕ) → data_start s (i + 1) ≡ string_start s i + string_length s i
  unfolding data_start
  data_behind_string i = rw add-one refl

  -- module j lies behind module i, and the end of the parts behind both
  pub data_order : (i j : ℕ) → i ≤ j → data_start s i ≤ data_start s j
  data_order i zero h =
      let e : data_start s i ≡ data_start s zero = ap (data_start s) (omega arith) in
      omega arith
  data_order i (suc j) h =
      ⊎_elim
      (λ q. let e : data_start s i ≡ data_start s (suc j) = ap (data_start s) q in omega arith)
      (λ l. omega (arith, data_order i j (le_of_suc-le-suc l), rw add-one at (data_behind_string j)))
      (eq-or-lt_of_le h)

  pub layout_line : (layout_of s).line ≡ line_part s
  unfolding layout_of
  layout_line = refl

  pub layout_count : (layout_of s).count ≡ module_count s
  unfolding layout_of
  layout_count = refl

  pub layout_end : (layout_of s).end ≡ parts_end s
  unfolding layout_of
  layout_end = refl

  pub length-bytes_of : (p : Part) → p.at + p.len ≤ length s → length (bytes_of s p) ≡ p.len
  length-bytes_of p h = simp (length-take, length-drop) (omega arith)

  pub bytes_of_at : (p : Part) (i : ℕ) → i < p.len → get_or (bytes_of s p) i 0 ≡ get_or s (p.at + i) 0
  bytes_of_at p i h = rw (get_or-take, get_or-drop)

  -- the table has room for `max_modules` modules
  pub length_modules : module_count s ≤ max_modules → length (layout_of s).modules ≡ max_modules
  unfolding layout_of
  length_modules h = length_table (module_of s) max_modules no_module (module_count s) h

  pub module_at : (i : ℕ) → i < module_count s → module_no (layout_of s) i ≡ module_of s i
  unfolding layout_of
  module_at i h = table_at (module_of s) max_modules no_module (module_count s) i h

  pub module_past : (i : ℕ) → module_count s ≤ i → module_no (layout_of s) i ≡ no_module
  unfolding layout_of
  module_past i h = table_past (module_of s) max_modules no_module (module_count s) i h

  pub ceiling_at : (i : ℕ) → i < module_count s → ceiling_no (layout_of s) i ≡ ceiling s i
  unfolding layout_of
  ceiling_at i h = table_at (ceiling s) max_modules 0 (module_count s) i h
