-- Laws of the header search, step by step.
--     words_two, words_three            the first words of a list
--     length_words                      how many words there are at most
--     found_at, passed_at, none_left    a header at a place, none there, and too few bytes left
--     whole_image                       a short image is searched whole
--     by_sum                            the sum of three words
--     two_sums                          the sums of a header
-- Assumes nothing.
use Rattle.std.specs.Prelude.{◌≡◌, ℕ, ◌+◌, ◌*◌, ◌%◌, ◌^◌, ◌<◌, ◌≤◌, true, false, ◌⊎◌, ◌↔◌, List, [], ◌∷◌, length, drop, ◌==◌, refl, Some, None}
use Rattle.std.proofs.Common.{ap, sym, ⊎_elim, inl, inr, arith, eqb-true, eq-eqb, length-drop, drop-drop, take_all}
use Rattle.laws.proofs.TestLaws.{lt_or_le}
use Rattle.number.specs.Number.{number, number_at}
use Rattle.header.specs.Header.{header_magic, search_limit, short_header, words, sum_is_zero, is_header, header_from, header}

words_cons : (s : List ℕ) → 4 ≤ length s → words s ≡ number 4 s ∷ words (drop 4 s)
unfolding words number
words_cons [] h = absurd (omega arith)
words_cons (a ∷ []) h = absurd (omega arith)
words_cons (a ∷ b ∷ []) h = absurd (omega arith)
words_cons (a ∷ b ∷ c ∷ []) h = absurd (omega arith)
words_cons (a ∷ b ∷ c ∷ d ∷ s) h = refl

pub words_two : (s : List ℕ) → short_header ≤ length s → words (drop 4 s) ≡ number 4 (drop 4 s) ∷ number 4 (drop 8 s) ∷ words (drop 12 s)
words_two s h =
    let h4 : 4 ≤ length (drop 4 s) = simp length-drop (omega arith) in
    let h8 : 4 ≤ length (drop 8 s) = simp length-drop (omega arith) in
    rw (words_cons (drop 4 s), drop-drop 4 4 s, words_cons (drop 8 s), drop-drop 4 8 s)

-- 12 bytes are three words
pub words_three : (s : List ℕ) → short_header ≤ length s → words s ≡ number 4 s ∷ number 4 (drop 4 s) ∷ number 4 (drop 8 s) ∷ words (drop 12 s)
words_three s h = rw (words_cons s (omega arith)) (ap (λ (l : List ℕ). number 4 s ∷ l) (words_two s h))

header_here : (at m f k : ℕ) (ws : List ℕ) → is_header m f k ≡ true → header_from at (m ∷ f ∷ k ∷ ws) ≡ Some (record { 0 = at })
unfolding header_from
header_here at m f k ws e = rw e

header_on : (at m f k : ℕ) (ws : List ℕ) → is_header m f k ≡ false → header_from at (m ∷ f ∷ k ∷ ws) ≡ header_from (at + 4) (f ∷ k ∷ ws)
unfolding header_from
header_on at m f k ws e = rw e

module _ (at : ℕ) (s : List ℕ) (h : short_header ≤ length s) where
  found_here : is_header (number 4 s) (number 4 (drop 4 s)) (number 4 (drop 8 s)) ≡ true → header_from at (words s) ≡ Some (record { 0 = at })
  found_here e = rw (words_three s h) (header_here at _ _ _ _ e)

  passed : is_header (number 4 s) (number 4 (drop 4 s)) (number 4 (drop 8 s)) ≡ false → header_from at (words s) ≡ header_from (at + 4) (words (drop 4 s))
  passed e = rw (words_three s h, words_two s h) (header_on at _ _ _ _ e)

module _ (at : ℕ) (s : List ℕ) (h : at + short_header ≤ length s) where
  -- a header at a place is found there
  pub found_at : is_header (number_at 4 s at) (number_at 4 s (at + 4)) (number_at 4 s (at + 8)) ≡ true → header_from at (words (drop at s)) ≡ Some (record { 0 = at })
  found_at e = found_here at (drop at s) (simp length-drop (omega arith)) (simp drop-drop e)

  -- a place with no header is passed
  pub passed_at : is_header (number_at 4 s at) (number_at 4 s (at + 4)) (number_at 4 s (at + 8)) ≡ false → header_from at (words (drop at s)) ≡ header_from (at + 4) (words (drop (at + 4) s))
  passed_at e = rw (← drop-drop 4 at s) (passed at (drop at s) (simp length-drop (omega arith)) (simp drop-drop e))

pub length_words : (s : List ℕ) → 4 * length (words s) ≤ length s
unfolding words
length_words [] = omega arith
length_words (a ∷ []) = omega arith
length_words (a ∷ b ∷ []) = omega arith
length_words (a ∷ b ∷ c ∷ []) = omega arith
length_words (a ∷ b ∷ c ∷ d ∷ s) = omega (arith, length_words s)

too_few : (at : ℕ) (ws : List ℕ) → length ws < 3 → header_from at ws ≡ None
unfolding header_from
too_few at [] h = refl
too_few at (m ∷ []) h = refl
too_few at (m ∷ f ∷ []) h = refl
too_few at (m ∷ f ∷ k ∷ ws) h = absurd (omega arith)

-- fewer than 12 bytes hold no header
pub none_left : (at : ℕ) (s : List ℕ) → length s < short_header → header_from at (words s) ≡ None
none_left at s h = too_few at (words s) (omega (arith, length_words s))

-- an image that is no longer than the searched part is searched whole
pub whole_image : (s : List ℕ) → length s ≤ search_limit → header_from 0 (words s) ≡ header s
unfolding header
whole_image s h = ap (λ (l : List ℕ). header_from 0 (words l)) (sym (take_all search_limit s h))

-- t is the sum of the three, added one by one modulo 2^32
pub by_sum : (m f k s t : ℕ) → s ≡ (m + f) % 2 ^ 32 → t ≡ (s + k) % 2 ^ 32 → (t == 0) ≡ sum_is_zero m f k
by_sum m f k s t p q =
    let z : t ≡ (m + f + k) % 2 ^ 32 = omega arith in
    rw z

-- two words make a header with the magic exactly where the sum is 2^32 or, as high flags have it, 2^33
pub two_sums : (f k : ℕ) → f < 2 ^ 32 → k < 2 ^ 32 → (is_header header_magic f k ≡ true) ↔ ((header_magic + f + k ≡ 2 ^ 32) ⊎ (header_magic + f + k ≡ 2 ^ 33))
unfolding is_header
two_sums f k l m = (
  λ t.
      let z : (header_magic + f + k) % 2 ^ 32 ≡ 0 = eqb-true _ _ t in
      ⊎_elim
      (λ (n : header_magic + f + k < 2 ^ 33). inl (omega arith))
      (λ (n : 2 ^ 33 ≤ header_magic + f + k). inr (omega arith))
      (lt_or_le (header_magic + f + k) (2 ^ 33)),
  λ e. eq-eqb ((header_magic + f + k) % 2 ^ 32) 0 (⊎_elim (λ (n : header_magic + f + k ≡ 2 ^ 32). omega arith) (λ (n : header_magic + f + k ≡ 2 ^ 33). omega arith) e),
)
