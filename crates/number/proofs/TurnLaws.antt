-- One turn of each loop: a byte more read, a word more written.
-- Assumes nothing.
use mathlib.Core.Path.{◌≡◌, refl, sym, ap, ◌∙◌}
use mathlib.Core.List.{List, [], ◌∷◌, ◌++◌, append_assoc, append-nil}
use Prim.Native.Nat.{ℕ, zero, suc, ◌+◌, ◌*◌, ◌-◌, ◌^◌, ◌≤◌, ◌<◌}
use Rattle.std.proofs.Common.{Fits, w8}
use native.Mathlib.Numerals.{add-one}
use native.Mathlib.Omega.{arith}
use lib.ListN.{length, take, drop, get_or}
use lib.Seq.{length-take-le}
use Rattle.buffer.specs.Patched.{patched}
use Rattle.buffer.specs.PatchedLaws.{patched-nil, patched-append}
use Rattle.number.specs.Number.{number, number_bytes, word_bytes}
use Rattle.number.specs.NumberLaws.{number_more, number_bound, number_fits, length_word_bytes, bytes_drop}

-- the read goes from the highest byte to the lowest; `value` is what the bytes from the place p on make
module _ (s : List ℕ) (at width p value : ℕ) (e : value ≡ number (width - p) (drop (at + p) s)) where
  pub read_more : {b : ℕ} → b ≡ get_or s (at + (p - 1)) 0 → 1 ≤ p → p ≤ width → value * 256 + b ≡ number (width - (p - 1)) (drop (at + (p - 1)) s)
  read_more f h l =
      let n : width - (p - 1) ≡ suc (width - p) = omega arith in
      let m : suc (at + (p - 1)) ≡ at + p = omega arith in
      rw (n, number_more, m, e, f) (omega arith)

  -- with a byte to come, the value has room for one more
  pub read_room : ((i : ℕ) → Fits w8 (get_or s i 0)) → width ≤ 8 → 1 ≤ p → value < 2 ^ 56
  read_room b h l = rw e (number_fits (width - p) 7 (drop (at + p) s) (omega arith) (bytes_drop (at + p) s (λ i. omega (arith, b i))))

  pub read_all : ((i : ℕ) → Fits w8 (get_or s i 0)) → p ≤ 0 → (value ≡ number width (drop at s)) × (value < 2 ^ (8 * width))
  read_all b h =
      let n : width - p ≡ width = omega arith in
      let m : at + p ≡ at = omega arith in
      let v : value ≡ number width (drop at s) = rw (n, m) at e in
      (v, rw v (number_bound width (drop at s) (bytes_drop at s (λ i. omega (arith, b i)))))

-- no byte is read yet
pub read_none : (w : ℕ) (s : List ℕ) → 0 ≡ number (w - w) s
unfolding number
read_none w s =
    let z : w - w ≡ 0 = omega arith in
    rw z refl

words_more : (ws : List ℕ) (i : ℕ) → i < length ws → word_bytes (take (suc i) ws) ≡ word_bytes (take i ws) ++ number_bytes 4 (get_or ws i 0)
unfolding word_bytes
words_more [] i h = absurd (omega arith)
words_more (x ∷ ws) zero h = append-nil (number_bytes 4 x)
words_more (x ∷ ws) (suc i) h = rw append_assoc (ap (λ (l : List ℕ). number_bytes 4 x ++ l) (words_more ws i (omega arith)))

-- no word is written yet
pub write_none : (d ws : List ℕ) (at : ℕ) → d ≡ patched d at (word_bytes (take 0 ws))
unfolding word_bytes
write_none d ws at = sym (patched-nil d at)

-- a word more, behind those written
pub write_more : (d ws : List ℕ) (at i : ℕ) → i < length ws
    → patched (patched d at (word_bytes (take i ws))) (at + 4 * i) (number_bytes 4 (get_or ws i 0)) ≡ patched d at (word_bytes (take (i + 1) ws))
write_more d ws at i h =
    let e : length (word_bytes (take i ws)) ≡ 4 * i = length_word_bytes (take i ws) ∙ ap (λ (n : ℕ). 4 * n) (length-take-le i ws (omega arith)) in
    rw (← e, patched-append, add-one, words_more ws i h) refl
