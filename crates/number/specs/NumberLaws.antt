-- Laws of little-endian numbers, over the width.
--     number_bound, number_fits                                    how large a number of so many bytes is
--     length-number_bytes, length_word_bytes, word_bytes_append    the bytes of numbers and of rows of words
--     number_written                                               reading back what was written gives the number
--     number_at_before, number_at_inside, number_at_behind         a read before, inside and behind a patched part
--     word_at                                                      reading back one of a row of words
-- Assumes nothing.
use Rattle.std.specs.Prelude.{◌≡◌, refl, List, [], ◌∷◌, ◌++◌, ℕ, zero, suc, ◌+◌, ◌*◌, ◌^◌, ◌-◌, ◌/◌, ◌≤◌, ◌<◌, length, take, drop, get_or}
use Rattle.std.proofs.Common.{ap, ◌∙◌, append_assoc, le_trans, arith, length-append, length-take, length-drop, drop_of_length-le, get_or-drop, pow_pos, pow-add, pow_mono}
use Rattle.std.proofs.Math.Seq.{drop-nil, drop-append-add}
use Rattle.buffer.specs.Patched.{patched}
use Rattle.buffer.specs.PatchedLaws.{patched-nil, patched_past, take-patched, drop-patched, drop_inside}
use Rattle.number.specs.Number.{number, number_at, number_bytes, word_bytes}

-- every element is a byte
abbrev pub Bytes : List ℕ → Type 0
Bytes s = (i : ℕ) → get_or s i 0 < 256

pub bytes_drop : (n : ℕ) (s : List ℕ) → Bytes s → Bytes (drop n s)
bytes_drop n s b i = rw get_or-drop (b (n + i))

byte_power : (w : ℕ) → 2 ^ (8 * suc w) ≡ 256 * 2 ^ (8 * w)
byte_power w =
    let e : 8 * suc w ≡ 8 + 8 * w = omega arith in
    ap (λ (n : ℕ). 2 ^ n) e ∙ pow-add 2 8 (8 * w)

-- a number of w bytes is below 256 to the w
pub number_bound : (w : ℕ) (s : List ℕ) → Bytes s → number w s < 2 ^ (8 * w)
unfolding number
number_bound zero s b = omega arith
number_bound (suc w) [] b = pow_pos (8 * suc w)
number_bound (suc w) (x ∷ s) b = omega (arith, b 0, number_bound w s (λ i. b (suc i)), byte_power w)

-- a number of at most k bytes is below 256 to the k
pub number_fits : (w k : ℕ) (s : List ℕ) → w ≤ k → Bytes s → number w s < 2 ^ (8 * k)
number_fits w k s h b = le_trans (number_bound w s b) (pow_mono (omega arith))

number_nil : (w : ℕ) → number w [] ≡ 0
unfolding number
number_nil zero = refl
number_nil (suc w) = refl

-- the byte at a place, and the number of the bytes behind it
pub number_more : (w at : ℕ) (s : List ℕ) → number (suc w) (drop at s) ≡ get_or s at 0 + 256 * number w (drop (suc at) s)
unfolding number
number_more w at [] = rw drop-nil (omega (arith, number_nil w))
number_more w zero (x ∷ s) = refl
number_more w (suc at) (x ∷ s) = number_more w at s

-- only the first w bytes count
pub number_take : (w n : ℕ) (s : List ℕ) → w ≤ n → number w (take n s) ≡ number w s
unfolding number
number_take zero n s h = refl
number_take (suc w) zero s h = absurd (omega arith)
number_take (suc w) (suc n) [] h = refl
number_take (suc w) (suc n) (x ∷ s) h = ap (λ (m : ℕ). x + 256 * m) (number_take w n s (omega arith))

pub length-number_bytes : (w n : ℕ) → length (number_bytes w n) ≡ w
unfolding number_bytes
length-number_bytes zero n = refl
length-number_bytes (suc w) n = ap suc (length-number_bytes w (n / 256))

pub length_word_bytes : (ws : List ℕ) → length (word_bytes ws) ≡ 4 * length ws
unfolding word_bytes
length_word_bytes [] = refl
length_word_bytes (x ∷ ws) = length-append (number_bytes 4 x) (word_bytes ws) ∙ omega (arith, length-number_bytes 4 x, length_word_bytes ws)

-- the bytes of two rows of words
pub word_bytes_append : (ws vs : List ℕ) → word_bytes (ws ++ vs) ≡ word_bytes ws ++ word_bytes vs
unfolding word_bytes
word_bytes_append [] vs = refl
word_bytes_append (x ∷ ws) vs = rw (word_bytes_append ws vs, append_assoc) refl

-- reading back what was written gives the number, whatever stands behind it
pub number_written : (w n : ℕ) (t : List ℕ) → n < 2 ^ (8 * w) → number w (number_bytes w n ++ t) ≡ n
unfolding number number_bytes
number_written zero n t h = omega arith
number_written (suc w) n t h =
    let h' : n / 256 < 2 ^ (8 * w) = omega (arith, byte_power w) in
    omega (arith, number_written w (n / 256) t h')

-- the number at the front of a buffer whose front was written
number_front : (w : ℕ) (d s : List ℕ) → w ≤ length d → w ≤ length s → number w (patched d 0 s) ≡ number w s
unfolding number patched
number_front zero d s h k = refl
number_front (suc w) [] s h k = absurd (omega arith)
number_front (suc w) (y ∷ d) [] h k = absurd (omega arith)
number_front (suc w) (y ∷ d) (x ∷ s) h k = ap (λ (m : ℕ). x + 256 * m) (number_front w d s (omega arith) (omega arith))

module _ (w : ℕ) (d : List ℕ) (at : ℕ) (s : List ℕ) where
  -- a read that ends before the patched part
  pub number_at_before : (i : ℕ) → i + w ≤ at → number_at w (patched d at s) i ≡ number_at w d i
  number_at_before i h =
      let e : at ≡ i + (at - i) = omega arith in
      let p : patched (take w (drop i d)) (at - i) s ≡ take w (drop i d) = patched_past (take w (drop i d)) (at - i) s (simp length-take (omega arith)) in
      rw (e, drop-patched i d (at - i) s, ← number_take w w (patched (drop i d) (at - i) s) (omega arith), take-patched, p) (number_take w w (drop i d) (omega arith))

  -- a read inside the patched part
  pub number_at_inside : (i : ℕ) → i + w ≤ length s → at + length s ≤ length d → number_at w (patched d at s) (at + i) ≡ number_at w s i
  number_at_inside i h k =
      rw (drop_inside i d at s)
      (number_front w (drop (at + i) d) (drop i s) (simp length-drop (omega arith)) (simp length-drop (omega arith)))

  -- a read that begins behind the patched part
  pub number_at_behind : (i : ℕ) → at + length s ≤ i → number_at w (patched d at s) i ≡ number_at w d i
  number_at_behind i h =
      let e : i ≡ at + (i - at) = omega arith in
      let n : drop (i - at) s ≡ [] = drop_of_length-le s {i = i - at} (omega arith) in
      rw (e, drop_inside (i - at) d at s, n, patched-nil) refl

-- reading back one of a row of words
pub word_at : (ws t : List ℕ) (i : ℕ) → i < length ws → get_or ws i 0 < 2 ^ 32 → number_at 4 (word_bytes ws ++ t) (4 * i) ≡ get_or ws i 0
unfolding word_bytes
word_at [] t i l h = absurd (omega arith)
word_at (x ∷ ws) t zero l h = rw append_assoc (number_written 4 x (word_bytes ws ++ t) h)
word_at (x ∷ ws) t (suc i) l h =
    let e : 4 * suc i ≡ length (number_bytes 4 x) + 4 * i = omega (arith, length-number_bytes 4 x) in
    rw (e, append_assoc, drop-append-add (number_bytes 4 x) (word_bytes ws ++ t) (4 * i)) (word_at ws t i (omega arith) h)
