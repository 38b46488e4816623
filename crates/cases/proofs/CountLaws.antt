-- The count of false headers as a function that computes, for examples: it gives what the definition gives.
--     counted_up_to, count_computes    the words of the searched part, from the front
-- Assumes nothing.
use Rattle.std.specs.Prelude.{◌≡◌, Bool, cond, List, [], ◌∷◌, take}
use Rattle.std.proofs.Math.Path.{refl, sym, ap}
use Rattle.std.proofs.Common.{◌∙◌, length-take}
use Rattle.std.proofs.Math.Bool.{true, false}
use Rattle.std.proofs.Math.Logic.{⊎_elim}
use Prim.Native.Nat.{ℕ, zero, suc, ◌+◌, ◌*◌, ◌≤◌, ◌<◌}
use native.Mathlib.Omega.{arith}
use borrow.Author.Tests.{le-leb}
use Rattle.std.proofs.Math.ListN.{length, drop, length-drop}
use Rattle.std.proofs.Math.Seq.{drop-drop}
use Rattle.laws.specs.Passing.{passing}
use Rattle.laws.proofs.PassingLaws.{passing_past, passing_front, passing_same}
use Rattle.laws.proofs.TestLaws.{true_or_false, lt_or_le}
use Rattle.number.specs.Number.{number_at}
use Rattle.header.specs.declared.Searched.{Searched}
use Rattle.header.specs.Header.{search_limit, short_header, words, header}
use Rattle.header.specs.FalseHeader.{is_false_header, is_false_header_at, is_false_place, places_passed, false_headers}
use Rattle.header.proofs.FalseHeaderLaws.{no_room, searched_part}
use Rattle.header.proofs.WalkLaws.{words_two, words_three, length_words}

-- how many of the first n places have a false header
unfoldable pub counted_up_to : ℕ → List ℕ → ℕ
counted_up_to zero ws = 0
counted_up_to (suc n) [] = 0
counted_up_to (suc n) (m ∷ []) = 0
counted_up_to (suc n) (m ∷ f ∷ []) = 0
counted_up_to (suc n) (m ∷ f ∷ c ∷ ws) = let r = counted_up_to n (f ∷ c ∷ ws) in cond (is_false_header m f c) (suc r) r

too_few : (n : ℕ) (ws : List ℕ) → length ws < 3 → counted_up_to n ws ≡ 0
unfolding counted_up_to
too_few zero ws l = refl
too_few (suc n) [] l = refl
too_few (suc n) (m ∷ []) l = refl
too_few (suc n) (m ∷ f ∷ []) l = refl
too_few (suc n) (m ∷ f ∷ c ∷ ws) l = absurd (omega arith)

module _ (s : List ℕ) (short : length s ≤ search_limit) where
  -- the test of the places from j on
  abbrev test : ℕ → ℕ → Bool
  test j k = is_false_place s (j + k)

  -- the first of them, where there is room
  first_is : (j : ℕ) → 4 * j + short_header ≤ length s → test j 0 ≡ is_false_header (number_at 4 s (4 * j)) (number_at 4 s (4 * j + 4)) (number_at 4 s (4 * j + 8))
  unfolding is_false_header_at
  first_is j l =
      let e : 4 * (j + 0) ≡ 4 * j = omega arith in
      rw (e, le-leb (4 * j + short_header) (length s) l, le-leb (4 * j + short_header) search_limit (omega arith))

  -- the words there, and those of the next place
  words_at : (j n : ℕ) → 4 * j + short_header ≤ length s
      → counted_up_to (suc n) (words (drop (4 * j) s)) ≡ cond (test j 0) (suc (counted_up_to n (words (drop (4 * suc j) s)))) (counted_up_to n (words (drop (4 * suc j) s)))
  unfolding counted_up_to
  words_at j n l =
      let d = drop (4 * j) s in
      let m : short_header ≤ length d = simp length-drop (omega arith) in
      let e : 4 * suc j ≡ 4 * j + 4 = omega arith in
      rw (words_three d m, first_is j l, e, ← drop-drop 4 (4 * j) s, words_two d m, drop-drop, drop-drop)

  -- no place from j on has room
  none_from : (n j : ℕ) → length s < 4 * j + short_header → length (passing (test j) n) ≡ counted_up_to n (words (drop (4 * j) s))
  unfolding passing
  none_from n j l =
      let few : length (words (drop (4 * j) s)) < 3 = omega (arith, length_words (drop (4 * j) s), length-drop (4 * j) s) in
      ap length (passing_past (test j) 0 n (omega arith) (λ k m. no_room s (4 * (j + k)) (omega arith))) ∙ sym (too_few n (words (drop (4 * j) s)) few)

  one_is : (j : ℕ) (t : Bool) → test j 0 ≡ t → length (passing (test j) 1) ≡ cond t 1 0
  unfolding passing
  one_is j true e = rw e refl
  one_is j false e = rw e refl

  counted_from : (n j : ℕ) → length (passing (test j) n) ≡ counted_up_to n (words (drop (4 * j) s))
  unfolding counted_up_to passing
  counted_from zero j = refl
  counted_from (suc n) j =
      ⊎_elim
      (λ (l : length s < 4 * j + short_header). none_from (suc n) j l)
      (λ (l : 4 * j + short_header ≤ length s).
      let same = ap length (passing_same (λ k. test j (suc k)) (test (suc j)) (λ k. ap (is_false_header_at s) (omega arith)) n) in
      let rest = counted_from n (suc j) in
      ⊎_elim
      (λ (t : test j 0 ≡ true). rw (words_at j n l, t) (omega (arith, passing_front (test j) n, one_is j true t, same, rest)))
      (λ (t : test j 0 ≡ false). rw (words_at j n l, t) (omega (arith, passing_front (test j) n, one_is j false t, same, rest)))
      (true_or_false (test j 0)))
      (lt_or_le (length s) (4 * j + short_header))

-- the count of an image, by the words of its searched part
pub count_computes : (image : List ℕ) → false_headers image ≡ counted_up_to (places_passed (header image)) (words (take search_limit image))
unfolding false_headers
count_computes image =
    let part = take search_limit image in
    let n = places_passed (header image) in
    let short : length part ≤ search_limit = simp length-take (omega arith) in
    let h = ap (λ (r : Searched). r.header) (searched_part image) in
    let same = passing_same (is_false_place part) (λ k. is_false_place part (0 + k)) (λ k. ap (is_false_header_at part) (omega arith)) n in
    ap (λ (r : Searched). r.false_headers) (sym (searched_part image)) ∙ rw h (ap length same ∙ counted_from part short n 0)
