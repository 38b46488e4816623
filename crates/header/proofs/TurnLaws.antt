-- A turn of the header search.
--     Passed                        what is known where the search has come to an offset
--     passed_start                  before the first turn
--     passed_other, passed_false    a place without the magic, and one with a false header
--     magic_cut, sum_cut            the tests of a place, made on the bytes cut out there
--     passed_few                    how many false headers there are at most
--     passed_found, passed_all      what the search answers
-- Assumes nothing.
use Rattle.std.specs.Prelude.{Some, None}
use Rattle.std.proofs.Common.{◌≡◌, ℕ, ◌+◌, ◌-◌, ◌*◌, ◌/◌, ◌%◌, ◌<◌, ◌≤◌, Bool, true, false, eqb, List, [], ◌∷◌, length, take, drop, sym, refl, ap, ◌∙◌, arith, length-append, length-drop, drop-drop}
use Rattle.laws.specs.Passing.{passing}
use Rattle.laws.proofs.PassingLaws.{passing_taken, passing_left, passing_most, passing_past}
use Rattle.laws.proofs.CheckLaws.{and_both, and_fails_left, and_fails_right}
use Rattle.number.specs.Number.{number, number_at}
use Rattle.header.specs.declared.Searched.{Searched}
use Rattle.header.specs.Header.{header_magic, search_limit, short_header, sum_is_zero, words, is_header, header_from, header}
use Rattle.header.specs.FalseHeader.{is_false_header_at, is_false_place, false_headers, searched}
use Rattle.header.proofs.HeaderLaws.{word_take}
use Rattle.header.proofs.FalseHeaderLaws.{false_here, no_magic, no_room}
use Rattle.header.proofs.WalkLaws.{found_at, passed_at, none_left, whole_image}

module _ (s : List ℕ) (at : ℕ) where
  -- the bytes of a header at the offset `at`, in the form that the search's slice has
  abbrev cut : List ℕ
  cut = take (at + short_header - at) (drop at s)

  cut_first : number_at 4 cut 0 ≡ number_at 4 s at
  cut_first = word_take (at + short_header - at) (drop at s) 0 (omega arith)

  cut_word : (o : ℕ) → o + 4 ≤ short_header → number_at 4 cut o ≡ number_at 4 s (at + o)
  cut_word o l = word_take (at + short_header - at) (drop at s) o (omega arith) ∙ ap (number 4) (drop-drop o at s)

  pub magic_cut : (b : Bool) → b ≡ eqb (number_at 4 cut 0) header_magic → eqb (number_at 4 s at) header_magic ≡ b
  magic_cut b e = sym (rw cut_first at e)

  pub sum_cut : (b : Bool) → b ≡ sum_is_zero (number_at 4 cut 0) (number_at 4 cut 4) (number_at 4 cut 8) → sum_is_zero (number_at 4 s at) (number_at 4 s (at + 4)) (number_at 4 s (at + 8)) ≡ b
  sum_cut b e = sym (rw (cut_first, cut_word 4 (omega arith), cut_word 8 (omega arith)) at e)

-- how many of the first n places have a false header
abbrev false_among : List ℕ → ℕ → ℕ
false_among s n = length (passing (is_false_place s) n)

-- the search has come to the offset `at`: it finds from there on what it finds from the start, and has passed so many false headers
pub record Passed (s : List ℕ) (at passed : ℕ) : Type 0 where
  pub inside : at ≤ length s
  pub multiple : at % 4 ≡ 0
  pub ahead : header_from 0 (words s) ≡ header_from at (words (drop at s))
  pub count : passed ≡ false_among s (at / 4)

pub passed_start : (s : List ℕ) → Passed s 0 0
unfolding passing
passed_start s = record { inside = omega arith; multiple = refl; ahead = refl; count = refl }

module _ {s : List ℕ} {at passed : ℕ} (p : Passed s at passed) (short : length s ≤ search_limit) where
  pub passed_few : passed ≤ 2048
  passed_few = omega (arith, p.count, passing_most (is_false_place s) (at / 4), p.inside)

  header_is : header s ≡ header_from at (words (drop at s))
  header_is = sym (whole_image s short) ∙ p.ahead

  -- too few bytes are left
  pub passed_all : length s < at + short_header → ◌≡◌ {A = Searched} (record { header = None; false_headers = passed }) (searched s)
  unfolding false_headers
  passed_all l =
      let e : header s ≡ None = header_is ∙ none_left at (drop at s) (simp length-drop (omega (arith, p.inside))) in
      let f = passing_past (is_false_place s) (at / 4) 2048 (omega (arith, p.inside)) (λ k m. no_room s (4 * k) (omega (arith, p.multiple))) in
      rw (e, f, p.count)

  module _ (room : at + short_header ≤ length s) where
    -- where the next place begins, with n false headers passed
    next : (n : ℕ) → n ≡ false_among s (at / 4 + 1) → is_header (number_at 4 s at) (number_at 4 s (at + 4)) (number_at 4 s (at + 8)) ≡ false → Passed s (at + 4) n
    next n e t =
        let q : at / 4 + 1 ≡ (at + 4) / 4 = omega arith in
        record {
          inside = omega arith;
          multiple = omega (arith, p.multiple);
          ahead = p.ahead ∙ passed_at at s room t;
          count = e ∙ ap (false_among s) q;
        }

    -- the test of this place
    test_is : is_false_place s (at / 4) ≡ is_false_header_at s at
    test_is = ap (is_false_header_at s) (omega (arith, p.multiple))

    pub passed_other : eqb (number_at 4 s at) header_magic ≡ false → Passed s (at + 4) passed
    unfolding is_header
    passed_other e =
        let t = passing_left (is_false_place s) (at / 4) (test_is ∙ no_magic s at e) in
        next passed (p.count ∙ ap length (sym t)) (and_fails_left _ _ e)

    module _ (e : eqb (number_at 4 s at) header_magic ≡ true) where
      pub passed_false : sum_is_zero (number_at 4 s at) (number_at 4 s (at + 4)) (number_at 4 s (at + 8)) ≡ false → Passed s (at + 4) (passed + 1)
      unfolding is_header
      passed_false w =
          let t = passing_taken (is_false_place s) (at / 4) (test_is ∙ false_here s at room (omega arith) e w) in
          let n = length-append (passing (is_false_place s) (at / 4)) (at / 4 ∷ []) in
          next (passed + 1) (rw t (omega (arith, p.count, n))) (and_fails_right (eqb (number_at 4 s at) header_magic) _ w)

      -- a header stands here
      pub passed_found : sum_is_zero (number_at 4 s at) (number_at 4 s (at + 4)) (number_at 4 s (at + 8)) ≡ true → ◌≡◌ {A = Searched} (record { header = Some (record { 0 = at }); false_headers = passed }) (searched s)
      unfolding false_headers is_header
      passed_found z =
          let h : header s ≡ Some (record { 0 = at }) = header_is ∙ found_at at s room (and_both _ _ e z) in
          rw (h, p.count)
