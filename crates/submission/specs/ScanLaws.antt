-- What the scans say, byte by byte.
--     no_zero, zero_free    no byte is zero, as a test and for each index
--     same_is               two rows are the same, as a test and as lists
-- Assumes nothing.
use Rattle.std.specs.Prelude.{◌≡◌, refl, true, false, List, [], ◌∷◌, ◌↔◌, ℕ, zero, suc, ◌<◌, eqb, length, get_or}
use Rattle.std.proofs.lemmas.Bool.{false≢true, eqb-false}
use Rattle.std.proofs.Common.{arith, eqb-true, eq-eqb, ne_eqb}
use Rattle.laws.proofs.TestLaws.{or_none_left, or_none_right, and_left, and_right}
use Rattle.submission.specs.Scan.{has_zero, same_bytes}

pub no_zero : (s : List ℕ) → has_zero s ≡ false → (i : ℕ) → i < length s → get_or s i 0 ≡ 0 → ⊥
unfolding has_zero
no_zero [] h i l e = omega arith
no_zero (x ∷ s) h zero l e = eqb-false x 0 (or_none_left (eqb x 0) (has_zero s) h) e
no_zero (x ∷ s) h (suc i) l e = no_zero s (or_none_right (eqb x 0) (has_zero s) h) i (omega arith) e

pub zero_free : (s : List ℕ) → ((i : ℕ) → i < length s → get_or s i 0 ≡ 0 → ⊥) → has_zero s ≡ false
unfolding has_zero
zero_free [] h = refl
zero_free (x ∷ s) h = rw (ne_eqb x 0 (h 0 (omega arith))) (zero_free s (λ i l. h (suc i) (omega arith)))

same : (s t : List ℕ) → same_bytes s t ≡ true → s ≡ t
unfolding same_bytes
same [] [] e = refl
same [] (y ∷ t) e = absurd (false≢true e)
same (x ∷ s) [] e = absurd (false≢true e)
same (x ∷ s) (y ∷ t) e = rw (eqb-true x y (and_left (eqb x y) (same_bytes s t) e), same s t (and_right (eqb x y) (same_bytes s t) e)) refl

itself : (s : List ℕ) → same_bytes s s ≡ true
unfolding same_bytes
itself [] = refl
itself (x ∷ s) = rw (eq-eqb x x refl) (itself s)

pub same_is : (s t : List ℕ) → (same_bytes s t ≡ true) ↔ (s ≡ t)
same_is s t = (same s t, λ e. rw e (itself t))
