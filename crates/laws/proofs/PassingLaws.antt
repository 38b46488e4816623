-- Laws of the numbers chosen by a test.
--     passing_taken, passing_left    one number more, which passes or does not
--     passing_most                   no more pass than there are
--     passing_at                     each of them is below the bound and passes
--     passing_rising                 they rise
--     passing_every                  every number that passes is among them
--     passing_past                   no number passes from m on
--     passing_front                  the first number, and those behind it
--     passing_same                   tests that agree
-- Assumes nothing.
use Rattle.std.specs.Prelude.{◌≡◌, refl, Bool, false, List, [], ◌∷◌, ◌++◌}
use Rattle.std.proofs.Common.{ap, sym, ◌∙◌, eq-or-lt_of_le, le_of_suc-le-suc, add-one, length-append}
use Rattle.std.proofs.Math.Bool.{true}
use Rattle.std.proofs.lemmas.Bool.{false≢true}
use Rattle.std.proofs.Math.Logic.{⊎_elim}
use Prim.Native.Nat.{ℕ, zero, suc, ◌+◌, ◌≤◌, ◌<◌}
use native.Mathlib.Omega.{arith}
use Rattle.std.proofs.Math.ListN.{length, get_or, get_or-append}
use Rattle.std.proofs.lemmas.List.{get_or_at}
use Rattle.laws.specs.Passing.{passing}
use Rattle.laws.proofs.TestLaws.{true_or_false}

-- a list with one number more
module _ (xs : List ℕ) (x : ℕ) where
  length_more : length (xs ++ (x ∷ [])) ≡ suc (length xs)
  length_more = length-append xs (x ∷ []) ∙ omega arith

  at_end : get_or (xs ++ (x ∷ [])) (length xs) 0 ≡ x
  at_end = get_or_at xs x [] 0 (length xs) refl

  before_end : (i : ℕ) → i < length xs → get_or (xs ++ (x ∷ [])) i 0 ≡ get_or xs i 0
  before_end i l = get_or-append xs (x ∷ []) 0 i l

  -- what holds of each number of the list and of one more holds of each of both
  each_more : (P : ℕ → ℕ → Type 0) → ((i : ℕ) → i < length xs → P i (get_or xs i 0)) → P (length xs) x → (i : ℕ) → i < length (xs ++ (x ∷ [])) → P i (get_or (xs ++ (x ∷ [])) i 0)
  each_more P h p i l =
      ⊎_elim
      (λ (e : i ≡ length xs). rw (e, at_end) p)
      (λ (m : i < length xs). rw (before_end i m) (h i m))
      (eq-or-lt_of_le (le_of_suc-le-suc (omega (arith, length_more))))

module _ (f : ℕ → Bool) where
  pub passing_taken : (n : ℕ) → f n ≡ true → passing f (n + 1) ≡ passing f n ++ (n ∷ [])
  unfolding passing
  passing_taken n e = rw (add-one, e)

  pub passing_left : (n : ℕ) → f n ≡ false → passing f (n + 1) ≡ passing f n
  unfolding passing
  passing_left n e = rw (add-one, e)

  -- what holds of the numbers below n holds of those below n + 1
  by_test : (P : ℕ → List ℕ → Type 0) (n : ℕ) → (f n ≡ true → P (suc n) (passing f n ++ (n ∷ []))) → (f n ≡ false → P (suc n) (passing f n)) → P (suc n) (passing f (suc n))
  unfolding passing
  by_test P n p q =
      ⊎_elim
      (λ (e : f n ≡ true). rw e (p e))
      (λ (e : f n ≡ false). rw e (q e))
      (true_or_false (f n))

  pub passing_most : (n : ℕ) → length (passing f n) ≤ n
  unfolding passing
  passing_most zero = omega arith
  passing_most (suc n) =
      by_test (λ m xs. length xs ≤ m) n
      (λ e. omega (arith, passing_most n, length_more (passing f n) n))
      (λ e. omega (arith, passing_most n))

  pub passing_at : (n i : ℕ) → i < length (passing f n) → (get_or (passing f n) i 0 < n) × (f (get_or (passing f n) i 0) ≡ true)
  unfolding passing
  passing_at zero i l = absurd (omega arith)
  passing_at (suc n) i l =
      by_test (λ m xs. (i : ℕ) → i < length xs → (get_or xs i 0 < m) × (f (get_or xs i 0) ≡ true)) n
      (λ e. each_more (passing f n) n (λ i m. (m < suc n) × (f m ≡ true)) (λ i l. let r = passing_at n i l in (omega arith, r.1)) (omega arith, e))
      (λ e i l. let r = passing_at n i l in (omega arith, r.1))
      i l

  pub passing_rising : (n i j : ℕ) → i < j → j < length (passing f n) → get_or (passing f n) i 0 < get_or (passing f n) j 0
  unfolding passing
  passing_rising zero i j l m = absurd (omega arith)
  passing_rising (suc n) i j l m =
      by_test (λ k xs. j < length xs → get_or xs i 0 < get_or xs j 0) n
      (λ e u.
      let xs = passing f n in
      let v : i < length xs = omega (arith, length_more xs n) in
      ⊎_elim
      (λ (z : j ≡ length xs). rw (z, at_end xs n, before_end xs n i v) (passing_at n i v).0)
      (λ (w : j < length xs). rw (before_end xs n i v, before_end xs n j w) (passing_rising n i j l w))
      (eq-or-lt_of_le (le_of_suc-le-suc (omega (arith, length_more xs n)))))
      (λ e u. passing_rising n i j l u)
      m

  pub passing_every : (n m : ℕ) → m < n → f m ≡ true → (i : ℕ) × (i < length (passing f n)) × (get_or (passing f n) i 0 ≡ m)
  unfolding passing
  passing_every zero m l e = absurd (omega arith)
  passing_every (suc n) m l e =
      by_test (λ k xs. (i : ℕ) × (i < length xs) × (get_or xs i 0 ≡ m)) n
      (λ t.
      let xs = passing f n in
      ⊎_elim
      (λ (z : m ≡ n). (length xs, omega (arith, length_more xs n), rw z (at_end xs n)))
      (λ (u : m < n). let r = passing_every n m u e in (r.0, omega (arith, length_more xs n, r.1), before_end xs n r.0 r.1 ∙ r.2))
      (eq-or-lt_of_le (le_of_suc-le-suc l)))
      (λ t.
      ⊎_elim
      (λ (z : m ≡ n). let u : f n ≡ true = rw z at e in absurd (false≢true (rw t at u)))
      (λ (u : m < n). passing_every n m u e)
      (eq-or-lt_of_le (le_of_suc-le-suc l)))

  pub passing_past : (m n : ℕ) → m ≤ n → ((k : ℕ) → m ≤ k → f k ≡ false) → passing f n ≡ passing f m
  passing_past m zero l h = ap (passing f) (omega arith)
  passing_past m (suc n) l h =
      ⊎_elim
      (λ (e : m ≡ suc n). ap (passing f) (sym e))
      (λ (u : m < suc n). rw (← add-one n, passing_left n (h n (omega arith))) (passing_past m n (omega arith) h))
      (eq-or-lt_of_le l)

  pub passing_front : (n : ℕ) → length (passing f (suc n)) ≡ length (passing f 1) + length (passing (λ k. f (suc k)) n)
  unfolding passing
  passing_front zero = omega arith
  passing_front (suc n) =
      let xs = passing f (suc n) in
      let ys = passing (λ k. f (suc k)) n in
      ⊎_elim
      (λ (e : f (suc n) ≡ true). rw e (omega (arith, passing_front n, length_more xs (suc n), length_more ys n)))
      (λ (e : f (suc n) ≡ false). rw e (passing_front n))
      (true_or_false (f (suc n)))

pub passing_same : (f g : ℕ → Bool) → ((k : ℕ) → f k ≡ g k) → (n : ℕ) → passing f n ≡ passing g n
unfolding passing
passing_same f g e zero = refl
passing_same f g e (suc n) = rw (e n, passing_same f g e n) refl
