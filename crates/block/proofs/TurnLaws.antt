-- One turn of each writing: a text and its zero, an entry more, a string more; and the parts of a block one behind the other.
-- Assumes nothing.
use mathlib.Core.Path.{◌≡◌, refl, ◌∙◌}
use mathlib.Core.List.{List, [], ◌∷◌, ◌++◌}
use Prim.Native.Nat.{ℕ, ◌+◌, ◌*◌, ◌≤◌, ◌<◌}
use native.Mathlib.Omega.{arith}
use lib.ListN.{length, take, get_or, length-append}
use lib.Seq.{get_or-take}
use Rattle.laws.proofs.TableLaws.{length_listed, listed_more}
use Rattle.buffer.specs.Patched.{patched}
use Rattle.buffer.specs.PatchedLaws.{patched-append}
use Rattle.number.specs.Number.{word_bytes}
use Rattle.number.specs.NumberLaws.{length_word_bytes, word_bytes_append}
use Rattle.address.specs.declared.Span.{Span}
use Rattle.address.specs.Span.{span_no}
use Rattle.submission.specs.declared.Layout.{Layout}
use Rattle.submission.specs.Layout.{no_module, module_no, bytes_of}
use Rattle.submission.specs.FormatLaws.{length-bytes_of}
use Rattle.block.specs.declared.Structure.{Structure}
use Rattle.block.specs.declared.size.Offsets.{Offsets}
use Rattle.block.specs.declared.write.Block.{Block}
use Rattle.block.specs.Block.{structure_size, structure_words, loader_name, map_offset, strings_offset, structure_for, parts_of, block_of, module_entry_size, address_of, text_bytes, texts_size, entry_words, entries, texts, string_lengths}
use Rattle.block.specs.TextSize.{text_size}
use Rattle.block.specs.TextLaws.{length-text_bytes, text_some, texts_more, entries_more, length_entries, strings_turn}
use Rattle.block.specs.Writing.{module_entry_no, entries_of, strings_of, StringsIn, says, PartsStand}
use Rattle.block.specs.WritingLaws.{entry_texts, block_is, length_strings}

-- a text that is not empty, and its zero
pub text_written : (w : List ℕ) (at : ℕ) (s u v : List ℕ) → (length s ≡ 0 → ⊥)
    → u ≡ patched w at s → v ≡ patched u (at + length s) (0 ∷ [])
    → v ≡ patched w at (text_bytes s)
text_written w at s u v e p q = rw (q, p, text_some s e) (patched-append w at s (0 ∷ []))

-- the string of a turn has room where all have
pub string_room : (s : List ℕ) (l : Layout) (n i : ℕ) (t : List ℕ)
    → ((k : ℕ) → k < n → (module_no l k).string.at + (module_no l k).string.len ≤ length s) → i < n
    → t ≡ bytes_of s (get_or (take n l.modules) i no_module).string
    → texts_size (string_lengths l i) + length t ≤ texts_size (string_lengths l n)
string_room s l n i t h k e =
    let m : length (bytes_of s (module_no l i).string) ≡ (module_no l i).string.len = length-bytes_of s (module_no l i).string (h i k) in
    rw (e, get_or-take, m) (rw get_or-take at (strings_turn l n i k).2)

-- a string more, behind those written
pub string_written : (w : List ℕ) (at : ℕ) (s : List ℕ) (l : Layout) (n i next : ℕ) (u v t : List ℕ)
    → ((k : ℕ) → k < n → (module_no l k).string.at + (module_no l k).string.len ≤ length s) → i < n
    → next ≡ at + texts_size (string_lengths l i) → t ≡ bytes_of s (get_or (take n l.modules) i no_module).string
    → u ≡ patched w at (texts (strings_of s l i)) → v ≡ patched u next (text_bytes t)
    → v ≡ patched w at (texts (strings_of s l (i + 1)))
string_written w at s l n i next u v t h k e d p q =
    rw (q, p, e, d, ← length_strings s l i (λ j m. h j (omega arith)), patched-append, listed_more, texts_more, get_or-take) refl

-- an entry more, behind those written
pub entry_written : (w : List ℕ) (at : ℕ) (l : Layout) (spans : List Span) (n a i next x : ℕ) (u v : List ℕ)
    → i < n → next ≡ a + texts_size (string_lengths l i) → x ≡ address_of next (get_or (take n l.modules) i no_module).string.len
    → u ≡ patched w at (word_bytes (entries a (entries_of l spans i)))
    → v ≡ patched u (at + module_entry_size * i) (word_bytes ((span_no spans i).start.0 ∷ (span_no spans i).end.0 ∷ x ∷ 0 ∷ []))
    → v ≡ patched w at (word_bytes (entries a (entries_of l spans (i + 1))))
unfolding entry_words
entry_written w at l spans n a i next x u v h d f p q =
    let e : length (word_bytes (entries a (entries_of l spans i))) ≡ module_entry_size * i = length_word_bytes (entries a (entries_of l spans i)) ∙ omega (arith, length_entries (entries_of l spans i) a, length_listed (module_entry_no l spans) i) in
    rw (q, p, f, d, ← e, patched-append, listed_more, entries_more, entry_texts, word_bytes_append, get_or-take) refl

-- the entries behind the structure
tables_written : (w : List ℕ) (at : ℕ) (st : Structure) (words es u v : List ℕ)
    → words ≡ structure_words st → u ≡ patched w at (word_bytes words) → v ≡ patched u (at + structure_size) (word_bytes es)
    → v ≡ patched w at (word_bytes (structure_words st ++ es))
unfolding structure_words
tables_written w at st words es u v f p q =
    let e : length (word_bytes (structure_words st)) ≡ structure_size = length_word_bytes (structure_words st) in
    rw (q, p, f, ← e, patched-append, word_bytes_append) refl

-- map, name, command line and strings, one behind the other
parts_written : (w : List ℕ) (at : ℕ) (m line : List ℕ) (ss : List (List ℕ)) (name text strings : ℕ) (t u v x : List ℕ)
    → name ≡ at + length m → text ≡ at + length m + length loader_name → strings ≡ at + length m + length loader_name + text_size (length line)
    → t ≡ patched w at m → u ≡ patched t name loader_name → v ≡ patched u text (text_bytes line)
    → x ≡ patched v strings (texts ss)
    → x ≡ patched w at (parts_of m line ss)
unfolding parts_of
parts_written w at m line ss name text strings t u v x g f e a b c d =
    rw (d, e, c, f, ← length-text_bytes line, patched-append u _ (text_bytes line) (texts ss), b, g, patched-append t _ loader_name _, a, patched-append) refl

-- the parts behind the tables
parts_behind : (b : Block) (w : List ℕ) (at strings rest : ℕ) (st : Structure) (u v : List ℕ)
    → StringsIn b.submission.now b.layout.now → st ≡ structure_for b.start.0 b.lower b.upper b.layout.now.count (length b.map.now) (length b.line.now)
    → strings ≡ b.start.0 + strings_offset b.layout.now.count (length b.map.now) (length b.line.now) → rest ≡ at + map_offset b.layout.now.count
    → u ≡ patched w at (word_bytes (structure_words st ++ entries strings (entries_of b.layout.now b.spans.now b.layout.now.count)))
    → v ≡ patched u rest (parts_of b.map.now b.line.now (strings_of b.submission.now b.layout.now b.layout.now.count))
    → v ≡ patched w at (block_of (says b))
unfolding structure_words
parts_behind b w at strings rest st u v h a g c d e =
    let l = b.layout.now in
    let es = entries_of l b.spans.now l.count in
    let words = structure_words st ++ entries strings es in
    let k : length (word_bytes words) ≡ map_offset l.count = length_word_bytes words ∙ omega (arith, length-append (structure_words st) (entries strings es), length_entries es strings, length_listed (module_entry_no l b.spans.now) l.count) in
    rw (e, c, ← k, d, patched-append, block_is b.submission.now l b.spans.now b.map.now b.line.now b.start.0 b.lower b.upper h, a, g) refl

-- a block, part behind part
pub block_written : (b : Block) (at strings : ℕ) (o : Offsets) (st : Structure) (words w t u x y z v : List ℕ)
    → StringsIn b.submission.now b.layout.now → PartsStand b.layout.now.count (length b.map.now) (length b.line.now) o
    → st ≡ structure_for b.start.0 b.lower b.upper b.layout.now.count (length b.map.now) (length b.line.now)
    → words ≡ structure_words st → strings ≡ b.start.0 + o.strings
    → t ≡ patched w at (word_bytes words)
    → u ≡ patched t (at + structure_size) (word_bytes (entries strings (entries_of b.layout.now b.spans.now b.layout.now.count)))
    → x ≡ patched u (at + o.map) b.map.now → y ≡ patched x (at + o.name) loader_name → z ≡ patched y (at + o.line) (text_bytes b.line.now)
    → v ≡ patched z (at + o.strings) (texts (strings_of b.submission.now b.layout.now b.layout.now.count))
    → v ≡ patched w at (block_of (says b))
block_written b at strings o st words w t u x y z v h p a f g d e m q r k =
    parts_behind b w at strings (at + o.map) st u v h a (omega (arith, p.strings, g)) (omega (arith, p.map))
    (tables_written w at st words _ t u f d e)
    (parts_written u (at + o.map) b.map.now b.line.now _ (at + o.name) (at + o.line) (at + o.strings) x y z v (omega (arith, p)) (omega (arith, p)) (omega (arith, p)) m q r k)
