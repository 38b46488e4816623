-- Laws of the block of a load.
--     entry_texts, length_strings                                the lengths of its strings
--     length_loaded, loaded_strings, loaded_entries, block_is    the block by the layout and the spans
--     load_module, length_load, load_small                       what it says of a module, its length, and that its words are below 2^32
--     strings_bound, block_bound                                 how long it is at most
--     room_low, room_inside                                      its room, in the sums that its writing makes
-- Assumes nothing.
use Rattle.std.specs.Prelude.{◌≡◌, List, ◌++◌, map, length}
use Rattle.std.proofs.Math.Path.{refl}
use Rattle.std.proofs.Common.{ap, ◌∙◌, suc-mul, arith}
use Prim.Native.Nat.{ℕ, zero, suc, ◌+◌, ◌*◌, ◌^◌, ◌≤◌, ◌<◌}
use Rattle.std.proofs.Math.ListN.{length-append}
use Rattle.laws.specs.Table.{listed}
use Rattle.laws.proofs.TableLaws.{length_listed, listed_at, listed_same, map_listed}
use Rattle.number.specs.Number.{word_bytes}
use Rattle.address.specs.declared.Span.{Span}
use Rattle.submission.specs.declared.Layout.{Layout}
use Rattle.submission.specs.Layout.{module_no}
use Rattle.submission.specs.FormatLaws.{length-bytes_of}
use Rattle.block.specs.Block.{map_offset, loader_name, block_length, strings_offset, structure_for, structure_words, entries, parts_of, block_of, contents_of, text_of, string_of, module_entry_of, texts_size, texts, string_lengths, boot_module_of, boot_modules}
use Rattle.block.specs.TextLaws.{size_high, length-text_bytes, texts_size_more, texts_more, block_length_lem}
use Rattle.block.specs.Reading.{length_of, no_boot_module, boot_module_no, BlockSmall}
use Rattle.block.specs.BlockLaws.{length_block}
use Rattle.block.specs.Writing.{module_entry_no, entries_of, strings_of, SpansLow, StringsIn, Room}

pub entry_texts : (l : Layout) (spans : List Span) (n : ℕ) → map text_of (entries_of l spans n) ≡ string_lengths l n
unfolding string_lengths
entry_texts l spans n = map_listed text_of (module_entry_no l spans) n

module _ (s : List ℕ) (l : Layout) where
  -- the bytes of the first n strings
  pub length_strings : (n : ℕ) → ((i : ℕ) → i < n → (module_no l i).string.at + (module_no l i).string.len ≤ length s)
      → length (texts (strings_of s l n)) ≡ texts_size (string_lengths l n)
  unfolding string_lengths listed texts texts_size
  length_strings zero h = refl
  length_strings (suc n) h =
      rw (texts_more, texts_size_more, length-append, length-text_bytes, length-bytes_of s (module_no l n).string (h n (omega arith)), length_strings n (λ i u. h i (omega arith))) refl

-- the modules of a load: how many, their entries and their strings
module _ (s : List ℕ) (l : Layout) (spans : List Span) where
  pub length_loaded : (n : ℕ) → length (boot_modules s l spans n) ≡ n
  unfolding boot_modules
  length_loaded n = length_listed (boot_module_of s l spans) n

  pub loaded_strings : (n : ℕ) → map string_of (boot_modules s l spans n) ≡ strings_of s l n
  unfolding boot_modules
  loaded_strings n = map_listed string_of (boot_module_of s l spans) n

  pub loaded_entries : (n : ℕ) → ((i : ℕ) → i < n → (module_no l i).string.at + (module_no l i).string.len ≤ length s)
      → map module_entry_of (boot_modules s l spans n) ≡ entries_of l spans n
  unfolding boot_modules
  loaded_entries n h =
      map_listed module_entry_of (boot_module_of s l spans) n
      ∙ listed_same _ (module_entry_no l spans) n (λ i u. rw (length-bytes_of s (module_no l i).string (h i u)) refl)

  -- the block of a load, by the layout and the spans
  pub block_is : (m line : List ℕ) (start lower upper : ℕ) → StringsIn s l
      → block_of (contents_of s l spans m line start lower upper)
      ≡ word_bytes (structure_words (structure_for start lower upper l.count (length m) (length line)) ++ entries (start + strings_offset l.count (length m) (length line)) (entries_of l spans l.count))
      ++ parts_of m line (strings_of s l l.count)
  unfolding block_of
  block_is m line start lower upper h = rw (length_loaded l.count, loaded_strings l.count, loaded_entries l.count h.within) refl

-- what the block of a load says of its modules
module _ (s : List ℕ) (l : Layout) (spans : List Span) where
  pub loaded_lengths : (n : ℕ) → ((i : ℕ) → i < n → (module_no l i).string.at + (module_no l i).string.len ≤ length s)
      → map length_of (boot_modules s l spans n) ≡ string_lengths l n
  unfolding boot_modules string_lengths
  loaded_lengths n h =
      map_listed length_of (boot_module_of s l spans) n
      ∙ listed_same _ (λ i. (module_no l i).string.len) n (λ i u. length-bytes_of s (module_no l i).string (h i u))

  module _ (m line : List ℕ) (start lower upper : ℕ) where
    pub load_module : (i : ℕ) → i < l.count
        → boot_module_no (contents_of s l spans m line start lower upper) i
        ≡ boot_module_of s l spans i
    unfolding boot_modules
    load_module i h = listed_at (boot_module_of s l spans) l.count i no_boot_module h

    -- its length is the one known before any placing
    pub length_load : StringsIn s l → length (block_of (contents_of s l spans m line start lower upper)) ≡ block_length (string_lengths l l.count) (length m) (length line)
    length_load h = length_block (contents_of s l spans m line start lower upper) ∙ ap (λ (ns : List ℕ). block_length ns (length m) (length line)) (loaded_lengths l.count h.within)

    -- its words are below 2^32
    pub load_small : (at size : ℕ) → SpansLow l spans → StringsIn s l → Room l (length m) (length line) start at size → lower < 2 ^ 32 → upper < 2 ^ 32
        → BlockSmall (contents_of s l spans m line start lower upper)
    load_small at size p h r a b = record {
      lower = a;
      upper = b;
      low = rw (length_load h) r.low;
      starts = λ i k. let u : i < l.count = rw (length_loaded s l spans l.count) at k in rw (load_module i u) (p.starts i u);
      ends = λ i k. let u : i < l.count = rw (length_loaded s l spans l.count) at k in rw (load_module i u) (p.ends i u);
    }

-- a bound on the length of a block whose strings have at most k bytes
pub strings_bound : (l : Layout) (k n : ℕ) → ((i : ℕ) → i < n → (module_no l i).string.len ≤ k) → texts_size (string_lengths l n) ≤ n * (k + 1)
unfolding string_lengths listed texts_size
strings_bound l k zero h = omega arith
strings_bound l k (suc n) h =
    omega (arith, texts_size_more (string_lengths l n) (module_no l n).string.len, strings_bound l k n (λ i u. h i (omega arith)), size_high (module_no l n).string.len, h n (omega arith), suc-mul n (k + 1))

pub block_bound : (l : Layout) (k map_length line_length : ℕ) → ((i : ℕ) → i < l.count → (module_no l i).string.len ≤ k)
    → block_length (string_lengths l l.count) map_length line_length ≤ map_offset l.count + map_length + length loader_name + (line_length + 1) + l.count * (k + 1)
block_bound l k map_length line_length h = omega (arith, block_length_lem l l.count map_length line_length, size_high line_length, strings_bound l k l.count h)

-- the room of a block, in the sums that its writing makes
pub room_low : (l : Layout) (map_length line_length start at size : ℕ) → Room l map_length line_length start at size
    → start + strings_offset l.count map_length line_length + texts_size (string_lengths l l.count) ≤ 2 ^ 32
room_low l map_length line_length start at size r = omega (arith, r.low, block_length_lem l l.count map_length line_length)

pub room_inside : (l : Layout) (map_length line_length start at size : ℕ) → Room l map_length line_length start at size
    → at + strings_offset l.count map_length line_length + texts_size (string_lengths l l.count) ≤ size
room_inside l map_length line_length start at size r = omega (arith, r.inside, block_length_lem l l.count map_length line_length)
