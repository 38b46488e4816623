-- What the header search answers, in propositions.
--     word_take                       a word of the first bytes
--     answers                         what the search says of all offsets
--     header_lowest, lowest_header    the search finds o exactly where o is the lowest offset of a header
--     header_early                    the header found lies in the searched part
--     header_none, none_header        it finds nothing exactly where there is no header
-- Assumes nothing.
use Rattle.std.specs.Prelude.{◌≡◌, ℕ, zero, suc, ◌+◌, ◌-◌, ◌*◌, ◌/◌, ◌%◌, ◌^◌, ◌<◌, ◌≤◌, min, Bool, true, false, List, [], ◌∷◌, length, take, drop, nat_eq, refl, Option, Some, None}
use Rattle.std.proofs.Common.{sym, ◌∙◌, subst, ⊎_elim, zero-add, suc-add, arith, eqb-true, eq-eqb, length-drop}
use Rattle.std.proofs.lemmas.Bool.{false≢true}
use Rattle.std.proofs.Math.ListN.{length-take}
use Rattle.std.proofs.Math.Seq.{take-nil}
use Rattle.laws.proofs.TestLaws.{true_or_false, lt_or_le, and_left, and_right}
use Rattle.laws.proofs.CheckLaws.{and_both}
use Rattle.number.specs.Number.{number_at}
use Rattle.number.specs.NumberLaws.{number_take}
use Rattle.address.specs.declared.ImageOffset.{ImageOffset}
use Rattle.header.specs.Header.{header_magic, search_limit, short_header, words, is_header, header_from, header}
use Rattle.header.proofs.WalkLaws.{found_at, passed_at, none_left}
use Rattle.header.specs.HeaderAt.{HeaderAt}
use Rattle.header.proofs.SearchLaws.{Answers, one_answer}

is_header_lem : (m f k : ℕ) → is_header m f k ≡ true → (m ≡ header_magic) × ((m + f + k) % 2 ^ 32 ≡ 0)
unfolding is_header
is_header_lem m f k t =
    let p = nat_eq m header_magic in
    let q = nat_eq ((m + f + k) % 2 ^ 32) 0 in
    (eqb-true _ _ (and_left p q t), eqb-true _ _ (and_right p q t))

-- the test of the words at an offset
abbrev test : List ℕ → ℕ → Bool
test s at = is_header (number_at 4 s at) (number_at 4 s (at + 4)) (number_at 4 s (at + 8))

-- what the search from the offset `at` on says of the places four bytes apart
abbrev Says : List ℕ → ℕ → Option ImageOffset → Type 0
Says s at None = (i : ℕ) → at + 4 * i + short_header ≤ length s → test s (at + 4 * i) ≡ false
Says s at (Some o) = (i : ℕ) × (o.0 ≡ at + 4 * i) × (o.0 + short_header ≤ length s) × (test s o.0 ≡ true) × ((j : ℕ) → j < i → test s (at + 4 * j) ≡ false)

module _ (s : List ℕ) where
  -- the place `at`, or a later one
  each : (at i : ℕ) → test s at ≡ false → ((j : ℕ) → i ≡ suc j → test s (at + 4 + 4 * j) ≡ false) → test s (at + 4 * i) ≡ false
  each at zero e h = let q : at + 4 * 0 ≡ at = omega arith in rw q e
  each at (suc j) e h = let q : at + 4 * suc j ≡ at + 4 + 4 * j = omega arith in rw q (h j refl)

  after : (at : ℕ) → test s at ≡ false → (r : Option ImageOffset) → Says s (at + 4) r → Says s at r
  after at e None h = λ i l. each at i e (λ j q. h j (omega arith))
  after at e (Some o) h = (suc h.0, omega arith, h.2, h.3, λ i l. each at i e (λ j q. h.4 j (omega arith)))

  short : (at : ℕ) → length s < at + short_header → Says s at (header_from at (words (drop at s)))
  short at l =
      let e : header_from at (words (drop at s)) ≡ None = none_left at (drop at s) (simp length-drop (omega arith)) in
      rw e (λ i m. absurd (omega arith))

  walk : (k at : ℕ) → length s ≤ at + 4 * k → Says s at (header_from at (words (drop at s)))
  walk zero at l = short at (omega arith)
  walk (suc k) at l =
      ⊎_elim
      (λ m. short at m)
      (λ m.
      ⊎_elim
      (λ t. rw (found_at at s m t) (0, omega arith, m, t, λ j z. absurd (omega arith)))
      (λ t. rw (passed_at at s m t) (after at t (header_from (at + 4) (words (drop (at + 4) s))) (walk k (at + 4) (omega arith))))
      (true_or_false (test s at)))
      (lt_or_le (length s) (at + short_header))

drop-take : (at n : ℕ) (s : List ℕ) → drop at (take (at + n) s) ≡ take n (drop at s)
drop-take zero n s = rw zero-add
drop-take (suc at) n [] = rw (take-nil, take-nil)
drop-take (suc at) n (x ∷ s) = rw suc-add (drop-take at n s)

-- a word of the first n bytes is the image's
pub word_take : (n : ℕ) (s : List ℕ) (at : ℕ) → at + 4 ≤ n → number_at 4 (take n s) at ≡ number_at 4 s at
word_take n s at l =
    let e : n ≡ at + (n - at) = omega arith in
    rw (e, drop-take at (n - at) s) (number_take 4 (n - at) (drop at s) (omega arith))

module _ (s : List ℕ) where
  test_searched : (at : ℕ) → at + short_header ≤ search_limit → test (take search_limit s) at ≡ test s at
  test_searched at l = rw (word_take search_limit s at (omega arith), word_take search_limit s (at + 4) (omega arith), word_take search_limit s (at + 8) (omega arith))

  from_test : (o : ℕ) → test s o ≡ true → o % 4 ≡ 0 → o + short_header ≤ length s → o + short_header ≤ search_limit → HeaderAt s o
  from_test o t m w e = let f = is_header_lem _ _ _ t in record { magic = record { multiple = m; whole = w; early = e; marked = f.0 }; sum = f.1 }

  to_test : (o : ℕ) → HeaderAt s o → test s o ≡ true
  unfolding is_header
  to_test o h = and_both _ _ (eq-eqb _ _ h.magic.marked) (eq-eqb _ _ h.sum)

  -- a header stands at a place of the search, and passes its test there
  placed : (p : ℕ) → HeaderAt s p → test (take search_limit s) (0 + 4 * (p / 4)) ≡ true
  placed p a =
      let q : 0 + 4 * (p / 4) ≡ p = omega (arith, a.magic.multiple) in
      rw (q, test_searched p a.magic.early) (to_test p a)

  -- what the search over the searched part says of the image
  told : (r : Option ImageOffset) → Says (take search_limit s) 0 r → Answers (HeaderAt s) r
  told None h = λ p a. false≢true (sym (h (p / 4) (simp length-take (omega (arith, a.magic.multiple, a.magic.whole, a.magic.early)))) ∙ placed p a)
  told (Some o) h =
      let e : o.0 ≡ 0 + 4 * h.0 = h.1 in
      let l : o.0 + short_header ≤ min search_limit (length s) = simp length-take at h.2 in
      let t : test s o.0 ≡ true = sym (test_searched o.0 (omega arith)) ∙ h.3 in (
        from_test o.0 t (omega arith) (omega arith) (omega arith),
        λ p m a. false≢true (sym (h.4 (p / 4) (omega (arith, a.magic.multiple))) ∙ placed p a),
      )

  -- what the search answers
  pub answers : Answers (HeaderAt s) (header s)
  unfolding header
  answers = told (header_from 0 (words (take search_limit s))) (walk (take search_limit s) (length s) 0 (simp length-take (omega arith)))

-- a header that was found is the lowest
pub header_lowest : (s : List ℕ) (o : ImageOffset) → header s ≡ Some o → HeaderAt s o.0 × ((p : ℕ) → p < o.0 → HeaderAt s p → ⊥)
header_lowest s o e = subst (Answers (HeaderAt s)) e (answers s)

-- and lies in the searched part
pub header_early : (s : List ℕ) (o : ImageOffset) → header s ≡ Some o → o.0 + short_header ≤ search_limit
header_early s o e = (header_lowest s o e).0.magic.early

-- nothing is found only where there is no header
pub header_none : (s : List ℕ) → header s ≡ None → (o : ℕ) → HeaderAt s o → ⊥
header_none s e = subst (Answers (HeaderAt s)) e (answers s)

-- the lowest header is found
pub lowest_header : (s : List ℕ) (o : ℕ) → HeaderAt s o → ((p : ℕ) → p < o → HeaderAt s p → ⊥) → header s ≡ Some (record { 0 = o })
lowest_header s o a low = one_answer (HeaderAt s) (header s) (Some (record { 0 = o })) (answers s) (a, low)

-- where there is no header nothing is found
pub none_header : (s : List ℕ) → ((o : ℕ) → HeaderAt s o → ⊥) → header s ≡ None
none_header s none = one_answer (HeaderAt s) (header s) None (answers s) none
