-- Laws of reading the information block back.
--     length_block                                                 its length, wherever it stands
--     from_map, from_name, from_line, from_strings, from_string    what stands in the block from an offset on
--     map_stands, name_stands, line_stands, string_stands          each part stands where its address says
--     text_taken                                                   a text that stands somewhere is read back with its zero
--     texts_room                                                   a text and those before it lie among all texts
--     structure_word, fields, word_zero                            the words of the structure: its fields, and zero elsewhere
--     entry_reads                                                  the words of a module's entry
-- Assumes nothing.
use Rattle.std.specs.Prelude.{◌≡◌, ◌≢◌, ℕ, zero, suc, ◌+◌, ◌*◌, ◌-◌, ◌^◌, ◌≤◌, ◌<◌, get_or, set, take, drop}
use Rattle.std.proofs.Math.Path.{refl, sym}
use Rattle.std.proofs.Common.{ap, ◌∙◌, add-zero, drop-cons, drop-drop, take_at, get_or-append-add, get_or-set_other}
use mathlib.Core.List.{List, [], ◌∷◌, ◌++◌, append_assoc, map}
use native.Mathlib.Omega.{arith}
use Rattle.std.proofs.Math.ListN.{length, length-append, length-map, get_or-append, get_or-map}
use Rattle.std.proofs.Math.Seq.{drop-nil, drop_at, drop-append-add}
use Rattle.laws.proofs.TableLaws.{replicate_at}
use Rattle.buffer.specs.Patched.{zeros}
use Rattle.number.specs.Number.{number_at, word_bytes}
use Rattle.number.specs.NumberLaws.{length_word_bytes, word_at}
use Rattle.block.specs.declared.Structure.{Structure}
use Rattle.block.specs.Block.{structure_size, module_entry_size, structure_words, loader_name, text_bytes, flags_of, address_of, texts_size, BootModule, ModuleEntry, text_of, string_of, module_entry_of, Contents, map_offset, name_offset, line_offset, strings_offset, block_length, structure_for, structure_of, entry_words, entries, strings_address, texts, parts_of, block_of}
use Rattle.block.specs.TextSize.{text_size}
use Rattle.block.specs.Reading.{length_of, lengths_of, words_of, no_boot_module, boot_module_no, string_offset, string_address, TextStands, field_offsets, BlockSmall, FieldsRead, EntryRead}
use Rattle.block.specs.TextLaws.{text_some, length-text_bytes, length_entries, address_some}

length_texts : (xs : List BootModule) → length (texts (map string_of xs)) ≡ texts_size (map length_of xs)
unfolding texts texts_size
length_texts [] = refl
length_texts (x ∷ xs) = length-append (text_bytes x.string) (texts (map string_of xs)) ∙ omega (arith, length-text_bytes x.string, length_texts xs)

length-structure_words : (s : Structure) → length (structure_words s) ≡ 22
unfolding structure_words
length-structure_words s = refl

module _ (c : Contents) where
  length_words : length (word_bytes (words_of c)) ≡ map_offset (length c.modules)
  length_words =
      length_word_bytes (words_of c)
      ∙ omega (arith, length-append (structure_words (structure_of c)) (entries (strings_address c) (map module_entry_of c.modules)), length-structure_words (structure_of c), length_entries (map module_entry_of c.modules) (strings_address c), length-map c.modules module_entry_of)

  -- its length follows from the lengths of its parts alone
  pub length_block : length (block_of c) ≡ block_length (lengths_of c) (length c.map) (length c.line)
  unfolding block_of block_length parts_of
  length_block =
      simp length-append
      (omega (arith, length_words, length-text_bytes c.line, length_texts c.modules, length-map c.modules length_of))

  -- what stands in the block from an offset on
  pub from_map : drop (map_offset (length c.modules)) (block_of c) ≡ c.map ++ (loader_name ++ (text_bytes c.line ++ texts (map string_of c.modules)))
  unfolding block_of parts_of
  from_map = drop_at (word_bytes (words_of c)) _ (map_offset (length c.modules)) length_words

  pub from_name : drop (name_offset (length c.modules) (length c.map)) (block_of c) ≡ loader_name ++ (text_bytes c.line ++ texts (map string_of c.modules))
  from_name = sym (drop-drop (length c.map) (map_offset (length c.modules)) (block_of c)) ∙ (ap (drop (length c.map)) from_map ∙ drop_at c.map _ (length c.map) refl)

  pub from_line : drop (line_offset (length c.modules) (length c.map)) (block_of c) ≡ text_bytes c.line ++ texts (map string_of c.modules)
  from_line =
      sym (drop-drop (length loader_name) (name_offset (length c.modules) (length c.map)) (block_of c))
      ∙ (ap (drop (length loader_name)) from_name ∙ drop_at loader_name _ (length loader_name) refl)

texts_from : (xs : List BootModule) (i : ℕ) → drop (texts_size (take i (map length_of xs))) (texts (map string_of xs)) ≡ texts (drop i (map string_of xs))
unfolding texts texts_size
texts_from [] i = rw (drop-nil, drop-nil) refl
texts_from (x ∷ xs) zero = refl
texts_from (x ∷ xs) (suc i) = rw (← length-text_bytes x.string, drop-append-add) (texts_from xs i)

pub text_taken : (b : List ℕ) (at : ℕ) (s : List ℕ) → TextStands b at s → take (length s + 1) (drop at b) ≡ s ++ (0 ∷ [])
text_taken b at s t = rw (t.stands, ← append_assoc s (0 ∷ []) t.rest) (take_at (s ++ (0 ∷ [])) t.rest (length s + 1) (length-append s (0 ∷ [])))

text_front : (b : List ℕ) (at : ℕ) (s rest : List ℕ) → drop at b ≡ text_bytes s ++ rest → (length s ≡ 0 → ⊥) → TextStands b at s
text_front b at s rest e n = record { rest = rest; stands = e ∙ rw (text_some s n, append_assoc) refl }

module _ (c : Contents) where
  pub from_strings : drop (strings_offset (length c.modules) (length c.map) (length c.line)) (block_of c) ≡ texts (map string_of c.modules)
  from_strings =
      sym (drop-drop (text_size (length c.line)) (line_offset (length c.modules) (length c.map)) (block_of c))
      ∙ (ap (drop (text_size (length c.line))) (from_line c) ∙ drop_at (text_bytes c.line) _ (text_size (length c.line)) (length-text_bytes c.line))

  pub from_string : (i : ℕ) → i < length c.modules → drop (string_offset c i) (block_of c) ≡ text_bytes (boot_module_no c i).string ++ texts (drop (suc i) (map string_of c.modules))
  unfolding texts
  from_string i l =
      let h : i < length (map string_of c.modules) = rw length-map l in
      sym (drop-drop (texts_size (take i (lengths_of c))) (strings_offset (length c.modules) (length c.map) (length c.line)) (block_of c))
      ∙ (ap (drop (texts_size (take i (lengths_of c)))) from_strings
      ∙ (texts_from c.modules i ∙ rw (drop-cons (map string_of c.modules) i [] h, get_or-map string_of c.modules i no_boot_module) refl))

  -- each part stands where its address says
  pub map_stands : take (length c.map) (drop ((structure_of c).mmap_addr - c.start) (block_of c)) ≡ c.map
  unfolding structure_for
  map_stands =
      let e : c.start + map_offset (length c.modules) - c.start ≡ map_offset (length c.modules) = omega arith in
      rw (e, from_map c) (take_at c.map _ (length c.map) refl)

  pub name_stands : take (length loader_name) (drop ((structure_of c).boot_loader_name - c.start) (block_of c)) ≡ loader_name
  unfolding structure_for
  name_stands =
      let e : c.start + name_offset (length c.modules) (length c.map) - c.start ≡ name_offset (length c.modules) (length c.map) = omega arith in
      rw (e, from_name c) refl

  pub line_stands : (length c.line ≡ 0 → ⊥) → TextStands (block_of c) ((structure_of c).cmdline - c.start) c.line
  unfolding structure_for
  line_stands n =
      let a : (structure_of c).cmdline - c.start ≡ line_offset (length c.modules) (length c.map) = omega (arith, address_some (c.start + line_offset (length c.modules) (length c.map)) (length c.line) n) in
      rw a (text_front (block_of c) _ c.line _ (from_line c) n)

  pub string_stands : (i : ℕ) → i < length c.modules → (length (boot_module_no c i).string ≡ 0 → ⊥) → TextStands (block_of c) (string_address c i - c.start) (boot_module_no c i).string
  string_stands i l n =
      let a : string_address c i - c.start ≡ string_offset c i = omega (arith, address_some (c.start + string_offset c i) (length (boot_module_no c i).string) n) in
      rw a (text_front (block_of c) _ (boot_module_no c i).string _ (from_string i l) n)

flags_small : (n : ℕ) → flags_of n < 2 ^ 32
flags_small zero = omega arith
flags_small (suc n) = omega arith

address_small : (a n : ℕ) → a + text_size n ≤ 2 ^ 32 → address_of a n < 2 ^ 32
unfolding address_of text_size
address_small a zero h = omega arith
address_small a (suc n) h = omega arith

-- a word of the structure or of an entry
module _ (c : Contents) (k : ℕ) (l : k < length (words_of c)) (h : get_or (words_of c) k 0 < 2 ^ 32) where
  block_word : number_at 4 (block_of c) (4 * k) ≡ get_or (words_of c) k 0
  unfolding block_of
  block_word = word_at (words_of c) (parts_of c.map c.line (map string_of c.modules)) k l h

module _ (c : Contents) where
  length_words_of : length (words_of c) ≡ 22 + 4 * length c.modules
  length_words_of = length-append (structure_words (structure_of c)) (entries (strings_address c) (map module_entry_of c.modules)) ∙ omega (arith, length-structure_words (structure_of c), length_entries (map module_entry_of c.modules) (strings_address c), length-map c.modules module_entry_of)

  -- a word of the structure
  pub structure_word : (k : ℕ) → k < 22 → get_or (structure_words (structure_of c)) k 0 < 2 ^ 32 → number_at 4 (block_of c) (4 * k) ≡ get_or (structure_words (structure_of c)) k 0
  structure_word k l h =
      let e : get_or (words_of c) k 0 ≡ get_or (structure_words (structure_of c)) k 0 = get_or-append (structure_words (structure_of c)) (entries (strings_address c) (map module_entry_of c.modules)) 0 k (omega (arith, length-structure_words (structure_of c))) in
      block_word c k (omega (arith, length_words_of)) (rw e h) ∙ e

module _ (c : Contents) (small : BlockSmall c) where
  block_low : c.start + strings_offset (length c.modules) (length c.map) (length c.line) + texts_size (lengths_of c) ≤ 2 ^ 32
  unfolding block_length
  block_low = omega (arith, small.low, length_block c, length-map c.modules length_of)

  -- every field is read back
  pub fields : FieldsRead (block_of c) (structure_of c)
  unfolding structure_for structure_words
  fields = record {
    flags = structure_word c 0 (omega arith) (flags_small (length c.line));
    mem_lower = structure_word c 1 (omega arith) small.lower;
    mem_upper = structure_word c 2 (omega arith) small.upper;
    cmdline = structure_word c 4 (omega arith) (address_small (c.start + line_offset (length c.modules) (length c.map)) (length c.line) (omega (arith, block_low)));
    mods_count = structure_word c 5 (omega arith) (omega (arith, block_low));
    mods_addr = structure_word c 6 (omega arith) (omega (arith, block_low));
    mmap_length = structure_word c 11 (omega arith) (omega (arith, block_low));
    mmap_addr = structure_word c 12 (omega arith) (omega (arith, block_low));
    boot_loader_name = structure_word c 16 (omega arith) (omega (arith, block_low));
  }

-- the structure is 22 zero words in which the fields are set
fields_set : (s : Structure) → structure_words s ≡ set (set (set (set (set (set (set (set (set (zeros 22) 0 s.flags) 1 s.mem_lower) 2 s.mem_upper) 4 s.cmdline) 5 s.mods_count) 6 s.mods_addr) 11 s.mmap_length) 12 s.mmap_addr) 16 s.boot_loader_name
unfolding structure_words
fields_set s = refl

-- a word that is no field is zero
no_field : (s : Structure) (k : ℕ) → ((i : ℕ) → i < length field_offsets → get_or field_offsets i 0 ≡ 4 * k → ⊥) → get_or (structure_words s) k 0 ≡ 0
no_field s k h =
    let n0 : k ≢ 0 = λ q. h 0 (omega arith) (omega arith) in
    let n1 : k ≢ 1 = λ q. h 1 (omega arith) (omega arith) in
    let n2 : k ≢ 2 = λ q. h 2 (omega arith) (omega arith) in
    let n3 : k ≢ 4 = λ q. h 3 (omega arith) (omega arith) in
    let n4 : k ≢ 5 = λ q. h 4 (omega arith) (omega arith) in
    let n5 : k ≢ 6 = λ q. h 5 (omega arith) (omega arith) in
    let n6 : k ≢ 11 = λ q. h 6 (omega arith) (omega arith) in
    let n7 : k ≢ 12 = λ q. h 7 (omega arith) (omega arith) in
    let n8 : k ≢ 16 = λ q. h 8 (omega arith) (omega arith) in
    rw (fields_set, get_or-set_other {A = ℕ} _ 16 k _ 0 n8, get_or-set_other {A = ℕ} _ 12 k _ 0 n7, get_or-set_other {A = ℕ} _ 11 k _ 0 n6, get_or-set_other {A = ℕ} _ 6 k _ 0 n5, get_or-set_other {A = ℕ} _ 5 k _ 0 n4, get_or-set_other {A = ℕ} _ 4 k _ 0 n3, get_or-set_other {A = ℕ} _ 2 k _ 0 n2, get_or-set_other {A = ℕ} _ 1 k _ 0 n1, get_or-set_other {A = ℕ} _ 0 k _ 0 n0) (replicate_at 22 k 0)

pub word_zero : (c : Contents) (k : ℕ) → k < 22 → ((i : ℕ) → i < length field_offsets → get_or field_offsets i 0 ≡ 4 * k → ⊥) → number_at 4 (block_of c) (4 * k) ≡ 0
word_zero c k l h =
    let e : get_or (structure_words (structure_of c)) k 0 ≡ 0 = no_field (structure_of c) k h in
    structure_word c k l (rw e (omega arith)) ∙ e

abbrev no_entry : ModuleEntry
no_entry = record { start = 0; end = 0; text = 0 }

length-entry_words : (a : ℕ) (e : ModuleEntry) → length (entry_words a e) ≡ 4
unfolding entry_words
length-entry_words a e = refl

entries_at : (es : List ModuleEntry) (a i j : ℕ) → i < length es → j < 4
    → get_or (entries a es) (4 * i + j) 0 ≡ get_or (entry_words (a + texts_size (take i (map text_of es))) (get_or es i no_entry)) j 0
unfolding entries texts_size
entries_at [] a i j l h = absurd (omega arith)
entries_at (e ∷ es) a zero j l h =
    let z : 4 * zero + j ≡ j = omega arith in
    rw (add-zero, z) (get_or-append (entry_words a e) (entries (a + text_size e.text) es) 0 j (omega (arith, length-entry_words a e)))
entries_at (e ∷ es) a (suc i) j l h =
    let z : 4 * suc i + j ≡ length (entry_words a e) + (4 * i + j) = omega (arith, length-entry_words a e) in
    let q : a + (text_size e.text + texts_size (take i (map text_of es))) ≡ a + text_size e.text + texts_size (take i (map text_of es)) = omega arith in
    rw (z, q, get_or-append-add (entry_words a e) (entries (a + text_size e.text) es) (4 * i + j) 0) (entries_at es (a + text_size e.text) i j (omega arith) h)

entry_texts_lem : (xs : List BootModule) → map text_of (map module_entry_of xs) ≡ map length_of xs
entry_texts_lem [] = refl
entry_texts_lem (x ∷ xs) = ap (λ (l : List ℕ). length x.string ∷ l) (entry_texts_lem xs)

module _ (c : Contents) (i : ℕ) (l : i < length c.modules) where
  -- a word of an entry
  entry_word_lem : (j : ℕ) → j < 4 → get_or (entry_words (c.start + string_offset c i) (module_entry_of (boot_module_no c i))) j 0 < 2 ^ 32
      → number_at 4 (block_of c) (4 * (22 + (4 * i + j))) ≡ get_or (entry_words (c.start + string_offset c i) (module_entry_of (boot_module_no c i))) j 0
  entry_word_lem j m h =
      let es = map module_entry_of c.modules in
      let a : strings_address c + texts_size (take i (map text_of es)) ≡ c.start + string_offset c i = rw entry_texts_lem (omega arith) in
      let w : get_or (words_of c) (22 + (4 * i + j)) 0 ≡ get_or (entries (strings_address c) es) (4 * i + j) 0 = rw (← length-structure_words (structure_of c)) (get_or-append-add (structure_words (structure_of c)) (entries (strings_address c) es) (4 * i + j) 0) in
      let e : get_or (words_of c) (22 + (4 * i + j)) 0 ≡ get_or (entry_words (c.start + string_offset c i) (module_entry_of (boot_module_no c i))) j 0 =
      w ∙ (entries_at es (strings_address c) i j (rw length-map l) m ∙ rw (a, get_or-map module_entry_of c.modules i no_boot_module) refl) in
      block_word c (22 + (4 * i + j)) (omega (arith, length_words_of c)) (rw e h) ∙ e

-- a text and those before it
pub texts_room : (xs : List BootModule) (i : ℕ) → i < length xs → texts_size (take i (map length_of xs)) + text_size (length (get_or xs i no_boot_module).string) ≤ texts_size (map length_of xs)
unfolding texts_size
texts_room [] i l = absurd (omega arith)
texts_room (x ∷ xs) zero l = omega arith
texts_room (x ∷ xs) (suc i) l = omega (arith, texts_room xs i (omega arith))

-- every word of an entry is read back
pub entry_reads : (c : Contents) → BlockSmall c → (i : ℕ) → i < length c.modules
    → EntryRead (block_of c) (structure_size + module_entry_size * i) (boot_module_no c i).start (boot_module_no c i).end (string_address c i)
unfolding entry_words
entry_reads c small i l =
    let y : 4 * (22 + (4 * i + 0)) ≡ structure_size + module_entry_size * i = omega arith in
    let z : (j : ℕ) → 4 * (22 + (4 * i + j)) ≡ structure_size + module_entry_size * i + 4 * j = λ j. omega arith in
    record {
      start_word = rw y at (entry_word_lem c i l 0 (omega arith) (small.starts i l));
      end_word = rw z at (entry_word_lem c i l 1 (omega arith) (small.ends i l));
      string_word = rw z at (entry_word_lem c i l 2 (omega arith) (address_small (c.start + string_offset c i) (length (boot_module_no c i).string) (omega (arith, block_low c small, texts_room c.modules i l))));
      zero_word = rw z at (entry_word_lem c i l 3 (omega arith) (omega arith));
    }
