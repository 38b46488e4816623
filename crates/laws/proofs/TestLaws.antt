-- Laws of tests, and of tests over a range of numbers.
--     true_or_false, or_cases, lt_or_le                  what is decided
--     or_none_left, or_none_right                        neither of two tests passes
--     and_left, and_right                                both of two tests pass
--     eqb_is, ltb_is, not_is, false_is, or_is, and_is    what a test says
--     any_here, any_at, any_none, none_any, none_is      some number passes, or none does
--     any_more, any_none_more, any_same, any_past        one number more; tests that agree; no number passes from n on
--     all_intro, all_elim, all_not                       each number passes, or one does not
--     all_zero, all_more                                 no number, and one number more
--     run_is, run_says                                   where a run ends
-- Assumes nothing.
use Rattle.std.specs.Prelude.{◌≡◌, Bool, true, false, not, ◌&&◌, ◌||◌, ◌↔◌, ◌⊎◌, eqb, leb, ltb}
use Rattle.std.proofs.Math.Path.{refl}
use Rattle.std.proofs.Common.{sym, ap, ◌∙◌, inl, inr, eq-or-lt_of_le, le_of_suc-le-suc, add-zero, leb-true, leb-false, ltb-true, lt-ltb, eqb-true, eq-eqb}
use Rattle.std.proofs.Math.Bool.{or-true, or-false}
use Rattle.std.proofs.lemmas.Bool.{false≢true}
use Rattle.std.proofs.Math.Logic.{⊎_elim}
use Prim.Native.Nat.{ℕ, zero, suc, ◌+◌, ◌≤◌, ◌<◌}
use Rattle.std.proofs.Math.Numerals.{add-one}
use native.Mathlib.Omega.{arith}
use Rattle.laws.specs.Tests.{any, all_from, run}

-- a test is true or false
pub true_or_false : (t : Bool) → (t ≡ true) ⊎ (t ≡ false)
true_or_false true = inl refl
true_or_false false = inr refl

pub or_cases : (s t : Bool) → s || t ≡ true → (s ≡ true) ⊎ (t ≡ true)
or_cases true t e = inl refl
or_cases false t e = inr e

pub or_none_left : (s t : Bool) → s || t ≡ false → s ≡ false
or_none_left true t e = e
or_none_left false t e = refl

pub or_none_right : (s t : Bool) → s || t ≡ false → t ≡ false
or_none_right true true e = e
or_none_right true false e = refl
or_none_right false t e = e

pub and_left : (s t : Bool) → s && t ≡ true → s ≡ true
and_left true t e = refl
and_left false t e = e

pub and_right : (s t : Bool) → s && t ≡ true → t ≡ true
and_right true t e = e
and_right false true e = refl
and_right false false e = e

-- an order of two numbers, decided
pub lt_or_le : (a b : ℕ) → (a < b) ⊎ (b ≤ a)
lt_or_le a b = ⊎_elim (λ t. inr (leb-true b a t)) (λ t. inl (leb-false b a t)) (true_or_false (leb b a))

-- what tests say: of two numbers, of a test that fails, of one of two, and of both
pub eqb_is : (a b : ℕ) → (eqb a b ≡ true) ↔ (a ≡ b)
eqb_is a b = (eqb-true a b, eq-eqb a b)

pub ltb_is : (a b : ℕ) → (ltb a b ≡ true) ↔ (a < b)
ltb_is a b = (ltb-true a b, lt-ltb a b)

module _ {P : Type 0} where
  pub not_is : (t : Bool) → (t ≡ true) ↔ P → (not t ≡ true) ↔ (P → ⊥)
  not_is true h = (λ e. absurd (false≢true e), λ n. absurd (n (h.0 refl)))
  not_is false h = (λ e p. false≢true (h.1 p), λ n. refl)

  pub false_is : (t : Bool) → (t ≡ false) ↔ P → (t ≡ true) ↔ (P → ⊥)
  false_is true h = (λ e p. false≢true (sym (h.1 p)), λ n. refl)
  false_is false h = (λ e. absurd (false≢true e), λ n. absurd (n (h.0 refl)))

  pub or_is : {Q : Type 0} (s t : Bool) → (s ≡ true) ↔ P → (t ≡ true) ↔ Q → (s || t ≡ true) ↔ (P ⊎ Q)
  or_is true t f g = (λ e. inl (f.0 refl), λ h. refl)
  or_is false t f g = (λ e. inr (g.0 e), λ h. ⊎_elim (λ p. absurd (false≢true (f.1 p))) (λ q. g.1 q) h)

  pub and_is : {Q : Type 0} (s t : Bool) → (s ≡ true) ↔ P → (t ≡ true) ↔ Q → (s && t ≡ true) ↔ (P × Q)
  and_is true t f g = (λ e. (f.0 refl, g.0 e), λ h. g.1 h.1)
  and_is false t f g = (λ e. absurd (false≢true e), λ h. absurd (false≢true (f.1 h.0)))

-- a number below suc k is below k, or is k
below_suc : (i k : ℕ) → i < suc k → (i ≡ k) ⊎ (i < k)
below_suc i k l = eq-or-lt_of_le (le_of_suc-le-suc l)

module _ (f : ℕ → Bool) where
  pub any-zero : any f 0 ≡ false
  unfolding any
  any-zero = refl

  -- one index more, as a loop counts
  pub any_more : (k : ℕ) → any f (k + 1) ≡ any f k || f k
  unfolding any
  any_more k = rw add-one

  -- one index more, and it does not pass either
  pub any_none_more : (k : ℕ) → any f k ≡ false → f k ≡ false → any f (k + 1) ≡ false
  any_none_more k e g = any_more k ∙ rw (e, g)

  pub any_here : (k i : ℕ) → i < k → f i ≡ true → any f k ≡ true
  unfolding any
  any_here zero i l e = absurd (omega arith)
  any_here (suc k) i l e = ⊎_elim (λ q. rw (← q, e) (or-true (any f i))) (λ m. rw (any_here k i m e)) (below_suc i k l)

  pub any_at : (k : ℕ) → any f k ≡ true → (i : ℕ) × (i < k) × (f i ≡ true)
  unfolding any
  any_at zero e = absurd (false≢true e)
  any_at (suc k) e = ⊎_elim (λ p. let r = any_at k p in (r.0, omega arith, r.2)) (λ p. (k, omega arith, p)) (or_cases (any f k) (f k) e)

  pub any_none : (k : ℕ) → ((i : ℕ) → i < k → f i ≡ false) → any f k ≡ false
  unfolding any
  any_none zero h = refl
  any_none (suc k) h = rw (any_none k (λ i l. h i (omega arith))) (h k (omega arith))

  pub none_any : (k : ℕ) → any f k ≡ false → (i : ℕ) → i < k → f i ≡ false
  unfolding any
  none_any zero e i l = absurd (omega arith)
  none_any (suc k) e i l =
      ⊎_elim (λ q. rw q (or_none_right (any f k) (f k) e)) (λ m. none_any k (or_none_left (any f k) (f k) e) i m) (below_suc i k l)

-- no number below n passes exactly where what the test says holds of none
pub none_is : (f : ℕ → Bool) {P : ℕ → Type 0} (n : ℕ) → ((i : ℕ) → i < n → (f i ≡ true) ↔ P i) → (any f n ≡ false) ↔ ((i : ℕ) → i < n → P i → ⊥)
none_is f n is = (
  λ e i l p. false≢true (sym (none_any f n e i l) ∙ (is i l).1 p),
  λ h. any_none f n (λ i l. ⊎_elim (λ (t : f i ≡ true). absurd (h i l ((is i l).0 t))) (λ (t : f i ≡ false). t) (true_or_false (f i))),
)

-- tests that agree below k
pub any_same : (f g : ℕ → Bool) (k : ℕ) → ((i : ℕ) → i < k → f i ≡ g i) → any f k ≡ any g k
unfolding any
any_same f g zero h = refl
any_same f g (suc k) h = rw (any_same f g k (λ i l. h i (omega arith)), h k (omega arith))

-- where no number from n on passes, the first n decide
pub any_past : (f : ℕ → Bool) (n k : ℕ) → n ≤ k → ((i : ℕ) → n ≤ i → i < k → f i ≡ false) → any f k ≡ any f n
unfolding any
any_past f n zero l h = let e : n ≡ 0 = omega arith in rw e
any_past f n (suc k) l h =
    ⊎_elim (λ (e : n ≡ suc k). rw e) (λ (m : n < suc k). rw (h k (omega arith) (omega arith), or-false) (any_past f n k (omega arith) (λ i u v. h i u (omega arith)))) (eq-or-lt_of_le l)

module _ (f : ℕ → Bool) (a : ℕ) where
  pub all_intro : (n : ℕ) → ((y : ℕ) → a ≤ y → y < a + n → f y ≡ true) → all_from f a n ≡ true
  unfolding all_from
  all_intro zero h = refl
  all_intro (suc n) h = rw (all_intro n (λ y l m. h y l (omega arith))) (h (a + n) (omega arith) (omega arith))

  pub all_elim : (n : ℕ) → all_from f a n ≡ true → (y : ℕ) → a ≤ y → y < a + n → f y ≡ true
  unfolding all_from
  all_elim zero e y l m = absurd (omega arith)
  all_elim (suc n) e y l m =
      ⊎_elim
      (λ q. rw q (and_right (all_from f a n) (f (a + n)) e))
      (λ r. all_elim n (and_left (all_from f a n) (f (a + n)) e) y l r)
      (below_suc y (a + n) (omega arith))

  pub all_zero : all_from f a 0 ≡ true
  unfolding all_from
  all_zero = refl

  -- one number more, as a loop counts
  pub all_more : (n : ℕ) → all_from f a (n + 1) ≡ all_from f a n && f (a + n)
  unfolding all_from
  all_more n = rw add-one

  -- a number of the range that does not pass
  pub all_not : (n y : ℕ) → a ≤ y → y < a + n → f y ≡ false → all_from f a n ≡ false
  all_not n y l m e = ⊎_elim (λ t. absurd (false≢true (sym e ∙ all_elim n t y l m))) (λ t. t) (true_or_false (all_from f a n))

-- the run is c long where the c first pass and the next, if there is one, does not
pub run_is : (f : ℕ → Bool) (k a c : ℕ) → c ≤ k → ((y : ℕ) → a ≤ y → y < a + c → f y ≡ true) → (c < k → f (a + c) ≡ false) → run f a k ≡ c
unfolding run
run_is f zero a c l p q = omega arith
run_is f (suc k) a zero l p q = let e : f a ≡ false = rw add-zero at (q (omega arith)) in rw e
run_is f (suc k) a (suc c) l p q = rw (p a (omega arith) (omega arith)) (ap suc (run_is f k (suc a) c (omega arith) (λ y u v. p y (omega arith) (omega arith)) (λ u. let e : suc a + c ≡ a + suc c = omega arith in rw e (q (omega arith)))))

-- what the length of a run says: its numbers pass, and the next, if there is one, does not
pub record Run (f : ℕ → Bool) (a k n : ℕ) : Type 0 where
  pub low : n ≤ k
  pub passed : (y : ℕ) → a ≤ y → y < a + n → f y ≡ true
  pub next : n < k → f (a + n) ≡ false

pub run_says : (f : ℕ → Bool) (a k : ℕ) → Run f a k (run f a k)
unfolding run
run_says f a zero = record { low = omega arith; passed = λ y l m. absurd (omega arith); next = λ l. absurd (omega arith) }
run_says f a (suc k) =
    ⊎_elim
    (λ (t : f a ≡ true).
    let r = run_says f (suc a) k in
    rw t
    (record {
      low = omega (arith, r.low);
      passed = λ y l m. ⊎_elim (λ q. rw (← q) t) (λ u. r.passed y u (omega arith)) (eq-or-lt_of_le l);
      next = λ l. let e : a + suc (run f (suc a) k) ≡ suc a + run f (suc a) k = omega arith in rw e (r.next (omega arith));
    }))
    (λ (t : f a ≡ false). rw t (record { low = omega arith; passed = λ y l m. absurd (omega arith); next = λ l. rw add-zero t }))
    (true_or_false (f a))
