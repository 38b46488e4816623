-- Laws of the search for the lowest number that passes a test.
--     first_none, first_at                    what the search answers
--     first_lowest, at_lowest, none_lowest    what its answer says of all numbers of the range
-- Assumes nothing.
use Rattle.std.specs.Prelude.{◌≡◌, Bool, false}
use Rattle.std.proofs.Math.Path.{refl, ap}
use Rattle.std.proofs.Common.{◌∙◌, subst, eq-or-lt_of_le}
use Rattle.std.proofs.Math.Logic.{⊎_elim}
use Rattle.std.proofs.Math.Bool.{true}
use Prim.Native.Nat.{ℕ, zero, suc, ◌+◌, ◌≤◌, ◌<◌}
use native.Mathlib.Omega.{arith}
use Rattle.laws.proofs.TestLaws.{true_or_false}
use Rattle.laws.specs.First.{Found, none, at, first}

abbrev pub Lowest : (ℕ → Bool) → ℕ → ℕ → Found → Type 0
Lowest p k lo none = (s : ℕ) → lo ≤ s → s < lo + k → p s ≡ false
Lowest p k lo (at a) = (lo ≤ a) × (a < lo + k) × (p a ≡ true) × ((s : ℕ) → lo ≤ s → s < a → p s ≡ false)

module _ (p : ℕ → Bool) where
  pub first_none : (k lo : ℕ) → ((s : ℕ) → lo ≤ s → s < lo + k → p s ≡ false) → first p k lo ≡ none
  unfolding first
  first_none zero lo h = refl
  first_none (suc k) lo h = rw (h lo (omega arith) (omega arith)) (first_none k (suc lo) (λ s l m. h s (omega arith) (omega arith)))

  pub first_at : (k lo a : ℕ) → lo ≤ a → a < lo + k → p a ≡ true → ((s : ℕ) → lo ≤ s → s < a → p s ≡ false) → first p k lo ≡ at a
  unfolding first
  first_at zero lo a l m e h = absurd (omega arith)
  first_at (suc k) lo a l m e h =
      ⊎_elim
      (λ q. let t : p lo ≡ true = ap p q ∙ e in rw t (ap at q))
      (λ lt. rw (h lo (omega arith) lt) (first_at k (suc lo) a lt (omega arith) e (λ s u v. h s (omega arith) v)))
      (eq-or-lt_of_le l)

module _ (p : ℕ → Bool) where
  after : (k lo : ℕ) → p lo ≡ false → (r : Found) → Lowest p k (suc lo) r → Lowest p (suc k) lo r
  after k lo e none h = λ s l m. ⊎_elim (λ q. rw (← q) e) (λ lt. h s lt (omega arith)) (eq-or-lt_of_le l)
  after k lo e (at a) h =
      (omega arith, omega arith, h.2, λ s l m. ⊎_elim (λ q. rw (← q) e) (λ lt. h.3 s lt m) (eq-or-lt_of_le l))

  -- the search gives the lowest number that passes, and none only where no number of the range does
  pub first_lowest : (k lo : ℕ) → Lowest p k lo (first p k lo)
  unfolding first
  first_lowest zero lo = λ s l m. absurd (omega arith)
  first_lowest (suc k) lo =
      ⊎_elim
      (λ t. rw t (omega arith, omega arith, t, λ s l m. absurd (omega arith)))
      (λ t. rw t (after k lo t (first p k (suc lo)) (first_lowest k (suc lo))))
      (true_or_false (p lo))

  pub at_lowest : (k lo a : ℕ) → first p k lo ≡ at a → Lowest p k lo (at a)
  at_lowest k lo a e = subst (Lowest p k lo) e (first_lowest k lo)

  pub none_lowest : (k lo : ℕ) → first p k lo ≡ none → Lowest p k lo none
  none_lowest k lo e = subst (Lowest p k lo) e (first_lowest k lo)
