-- Laws of the parts of an information block: texts, entries, and how they grow by one.
--     size_none, size_some, size_low, size_high    the bytes of a text and its zero
--     address_none, address_some, flags_some       what stands for a text in a field
--     text_none, text_some, length-text_bytes      a text's bytes
--     texts_size_more, texts_more, entries_more    one text, one entry more
--     length_entries, length-string_lengths        how many there are
--     strings_more, strings_fewer, strings_turn    the strings of a layout
--     block_length_lem                             the length of a block with the first n strings
-- Assumes nothing.
use Rattle.std.specs.Prelude.{◌≡◌, refl, List, [], ◌∷◌, ◌++◌, map, ℕ, zero, suc, ◌+◌, ◌*◌, ◌≤◌, ◌<◌, length, get_or, take}
use Rattle.std.proofs.Math.Path.{ap}
use Rattle.std.proofs.Common.{append_assoc, append-nil, ⊎_elim, add-zero, eq-or-lt_of_le, le_of_suc-le-suc, add-one, arith, length-append, get_or-take}
use Rattle.laws.specs.Table.{listed}
use Rattle.laws.proofs.TableLaws.{length_listed}
use Rattle.submission.specs.declared.Layout.{Layout}
use Rattle.submission.specs.Layout.{no_module, module_no}
use Rattle.block.specs.Block.{ModuleEntry, text_of, entry_words, text_bytes, texts_size, address_of, line_flags, flags_of, entries, texts, strings_offset, block_length, string_lengths}
use Rattle.block.specs.TextSize.{text_size}

-- a text and its zero
pub size_none : (n : ℕ) → n ≡ 0 → 0 ≡ text_size n
unfolding text_size
size_none zero e = refl
size_none (suc n) e = absurd (omega arith)

pub size_some : (n : ℕ) → (n ≡ 0 → ⊥) → n + 1 ≡ text_size n
unfolding text_size
size_some zero e = absurd (e refl)
size_some (suc n) e = refl

pub size_low : (n : ℕ) → n ≤ text_size n
unfolding text_size
size_low zero = omega arith
size_low (suc n) = omega arith

pub size_high : (n : ℕ) → text_size n ≤ n + 1
unfolding text_size
size_high zero = omega arith
size_high (suc n) = omega arith

pub address_none : (a n : ℕ) → n ≡ 0 → 0 ≡ address_of a n
unfolding address_of
address_none a zero e = refl
address_none a (suc n) e = absurd (omega arith)

pub address_some : (a n : ℕ) → (n ≡ 0 → ⊥) → a ≡ address_of a n
unfolding address_of
address_some a zero e = absurd (e refl)
address_some a (suc n) e = refl

pub flags_some : (n : ℕ) → (n ≡ 0 → ⊥) → line_flags ≡ flags_of n
flags_some zero e = absurd (e refl)
flags_some (suc n) e = refl

pub text_none : (s : List ℕ) → length s ≡ 0 → text_bytes s ≡ []
unfolding text_bytes
text_none [] e = refl
text_none (x ∷ s) e = absurd (omega arith)

pub text_some : (s : List ℕ) → (length s ≡ 0 → ⊥) → text_bytes s ≡ s ++ (0 ∷ [])
unfolding text_bytes
text_some [] e = absurd (e refl)
text_some (x ∷ s) e = refl

pub length-text_bytes : (s : List ℕ) → length (text_bytes s) ≡ text_size (length s)
unfolding text_bytes text_size
length-text_bytes [] = refl
length-text_bytes (x ∷ s) = length-append (x ∷ s) (0 ∷ [])

-- one text more
pub texts_size_more : (ns : List ℕ) (n : ℕ) → texts_size (ns ++ (n ∷ [])) ≡ texts_size ns + text_size n
unfolding texts_size
texts_size_more [] n = omega arith
texts_size_more (k ∷ ns) n = omega (arith, texts_size_more ns n)

pub texts_more : (ss : List (List ℕ)) (s : List ℕ) → texts (ss ++ (s ∷ [])) ≡ texts ss ++ text_bytes s
unfolding texts
texts_more [] s = append-nil (text_bytes s)
texts_more (t ∷ ss) s = rw (texts_more ss s, append_assoc) refl

-- the words of one entry more
pub entries_more : (a : ℕ) (es : List ModuleEntry) (e : ModuleEntry) → entries a (es ++ (e ∷ [])) ≡ entries a es ++ entry_words (a + texts_size (map text_of es)) e
unfolding entries texts_size
entries_more a [] e = rw (append-nil, add-zero) refl
entries_more a (x ∷ es) e =
    let q : a + (text_size x.text + texts_size (map text_of es)) ≡ a + text_size x.text + texts_size (map text_of es) = omega arith in
    rw (entries_more (a + text_size x.text) es e, q, append_assoc) refl

pub length_entries : (es : List ModuleEntry) (a : ℕ) → length (entries a es) ≡ 4 * length es
unfolding entries entry_words
length_entries [] a = refl
length_entries (e ∷ es) a = omega (arith, length_entries es (a + text_size e.text))

module _ (l : Layout) where
  pub length-string_lengths : (n : ℕ) → length (string_lengths l n) ≡ n
  unfolding string_lengths
  length-string_lengths n = length_listed (λ i. (module_no l i).string.len) n

  -- the bytes of one string more
  strings_suc : (n : ℕ) → texts_size (string_lengths l (suc n)) ≡ texts_size (string_lengths l n) + text_size (module_no l n).string.len
  unfolding string_lengths listed
  strings_suc n = texts_size_more (string_lengths l n) (module_no l n).string.len

  pub strings_more : (n : ℕ) → texts_size (string_lengths l (n + 1)) ≡ texts_size (string_lengths l n) + text_size (module_no l n).string.len
  strings_more n = rw add-one (strings_suc n)

  -- fewer strings have no more bytes
  pub strings_fewer : (n i : ℕ) → i ≤ n → texts_size (string_lengths l i) ≤ texts_size (string_lengths l n)
  strings_fewer zero i h = let e : i ≡ 0 = omega arith in rw e (omega arith)
  strings_fewer (suc n) i h =
      ⊎_elim
      (λ (e : i ≡ suc n). rw e (omega arith))
      (λ (u : suc i ≤ suc n). omega (arith, strings_fewer n i (le_of_suc-le-suc u), strings_suc n))
      (eq-or-lt_of_le h)

  -- the length of a block with the first n strings
  pub block_length_lem : (n map_length line_length : ℕ) → block_length (string_lengths l n) map_length line_length ≡ strings_offset n map_length line_length + texts_size (string_lengths l n)
  unfolding block_length
  block_length_lem n map_length line_length = ap (λ (k : ℕ). strings_offset k map_length line_length + texts_size (string_lengths l n)) (length-string_lengths n)

  -- a loop over the first n modules at its turn i: one string more; it has room where all have, with its zero or without
  pub strings_turn : (n i : ℕ) → i < n
      → (texts_size (string_lengths l (i + 1)) ≡ texts_size (string_lengths l i) + text_size (get_or (take n l.modules) i no_module).string.len)
      × (texts_size (string_lengths l (i + 1)) ≤ texts_size (string_lengths l n))
      × (texts_size (string_lengths l i) + (get_or (take n l.modules) i no_module).string.len ≤ texts_size (string_lengths l n))
  strings_turn n i h =
      let all : texts_size (string_lengths l (i + 1)) ≤ texts_size (string_lengths l n) = strings_fewer n (i + 1) (omega arith) in
      rw get_or-take (strings_more i, all, omega (arith, strings_more i, size_low (module_no l i).string.len))
