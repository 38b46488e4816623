-- What writing a block rests on, and what is written of it.
--     entries_of, strings_of       the entries and the strings of the first n modules
--     SpansLow, StringsIn, Room    what the loader has shown before a block is written
--     says, Ready                  what a block says, and that all of this was shown of it
--     PartsStand                   offsets are those of the parts
-- Assumes nothing.
use Rattle.std.specs.Prelude.{◌≡◌, List, ℕ, ◌+◌, ◌≤◌, ◌<◌, ◌^◌, length}
use Rattle.laws.specs.Table.{listed}
use Rattle.address.specs.declared.Span.{Span}
use Rattle.address.specs.Span.{span_no}
use Rattle.submission.specs.Format.{max_modules}
use Rattle.submission.specs.declared.Layout.{Layout}
use Rattle.submission.specs.Layout.{module_no, bytes_of}
use Rattle.block.specs.declared.write.Block.{Block}
use Rattle.block.specs.Block.{Contents, contents_of, ModuleEntry, block_length, string_lengths, map_offset, name_offset, line_offset, strings_offset}
use Rattle.block.specs.declared.size.Offsets.{Offsets}

-- the entries of the first n modules
abbrev pub module_entry_no : Layout → List Span → ℕ → ModuleEntry
module_entry_no l spans i = record { start = (span_no spans i).start.0; end = (span_no spans i).end.0; text = (module_no l i).string.len }

abbrev pub entries_of : Layout → List Span → ℕ → List ModuleEntry
entries_of l spans n = listed (module_entry_no l spans) n

-- the strings of the first n modules
abbrev pub strings_of : List ℕ → Layout → ℕ → List (List ℕ)
strings_of s l n = listed (λ i. bytes_of s (module_no l i).string) n

-- the modules stand at spans below 2^32
pub record SpansLow (l : Layout) (spans : List Span) : Type 0 where
  pub few : l.count ≤ max_modules
  pub starts : (i : ℕ) → i < l.count → (span_no spans i).start.0 < 2 ^ 32
  pub ends : (i : ℕ) → i < l.count → (span_no spans i).end.0 < 2 ^ 32

-- the modules' strings lie inside the submission
pub record StringsIn (s : List ℕ) (l : Layout) : Type 0 where
  pub few : l.count ≤ max_modules
  pub within : (i : ℕ) → i < l.count → (module_no l i).string.at + (module_no l i).string.len ≤ length s

-- the block ends at 2^32 at the latest, and inside a window of so many bytes
pub record Room (l : Layout) (map_length line_length start at size : ℕ) : Type 0 where
  pub low : start + block_length (string_lengths l l.count) map_length line_length ≤ 2 ^ 32
  pub inside : at + block_length (string_lengths l l.count) map_length line_length ≤ size

-- what a block says, and that it may be written into a window of so many bytes from `at` on
abbrev pub says : Block → Contents
says b = contents_of b.submission.now b.layout.now b.spans.now b.map.now b.line.now b.start.0 b.lower b.upper

pub record Ready (b : Block) (at size : ℕ) : Type 0 where
  pub spans : SpansLow b.layout.now b.spans.now
  pub strings : StringsIn b.submission.now b.layout.now
  pub room : Room b.layout.now (length b.map.now) (length b.line.now) b.start.0 at size

-- offsets are those of the parts
pub record PartsStand (count map_length line_length : ℕ) (o : Offsets) : Type 0 where
  pub map : o.map ≡ map_offset count
  pub name : o.name ≡ name_offset count map_length
  pub line : o.line ≡ line_offset count map_length
  pub strings : o.strings ≡ strings_offset count map_length line_length
