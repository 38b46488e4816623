-- Laws of lists joined one behind the other, and of numbers stored so.
--     stored                         stores in a row are one write
--     joined_more                    a list more
--     length_joined, joined_short    lists of k numbers each, or of k at most
--     joined_written                 a list more, behind those written
-- Assumes nothing.
use Rattle.std.specs.Prelude.{◌≡◌, List, [], ◌∷◌, ◌++◌, length, set}
use Rattle.std.proofs.Math.Path.{refl}
use Rattle.std.proofs.Common.{sym, ◌∙◌}
use Prim.Native.Nat.{ℕ, zero, suc, ◌+◌, ◌*◌, ◌≤◌}
use Rattle.std.proofs.Math.Nat.{mul-suc}
use Rattle.std.proofs.Math.Numerals.{add-one}
use native.Mathlib.Omega.{arith}
use Rattle.std.proofs.Math.ListN.{length-append}
use Rattle.std.proofs.lemmas.List.Edits.{sets}
use Rattle.buffer.specs.Patched.{patched}
use Rattle.buffer.specs.PatchedLaws.{patched-nil, patched_one, patched-append}
use Rattle.viertompu.specs.Joined.{joined}

pub stored : (d : List ℕ) (at : ℕ) (s : List ℕ) → sets d at s ≡ patched d at s
stored d at [] = sym (patched-nil d at)
stored d at (y ∷ s) = stored (set d at y) (suc at) s ∙ rw (patched_one, ← add-one at) (patched-append d at (y ∷ []) s)

module _ (f : ℕ → List ℕ) where
  pub joined_more : (n : ℕ) → joined f (n + 1) ≡ joined f n ++ f n
  unfolding joined
  joined_more n = rw add-one refl

  pub length_joined : (k : ℕ) → ((i : ℕ) → length (f i) ≡ k) → (n : ℕ) → length (joined f n) ≡ k * n
  unfolding joined
  length_joined k e zero = omega arith
  length_joined k e (suc n) = omega (arith, length-append (joined f n) (f n), length_joined k e n, e n, mul-suc k n)

  pub joined_short : (k : ℕ) → ((i : ℕ) → length (f i) ≤ k) → (n : ℕ) → length (joined f n) ≤ k * n
  unfolding joined
  joined_short k e zero = omega arith
  joined_short k e (suc n) =
      omega (arith, length-append (joined f n) (f n), joined_short k e n, e n, mul-suc k n)

  -- a list more, behind those written
  pub joined_written : (w : List ℕ) (at n m : ℕ) (u v : List ℕ) → m ≡ at + length (joined f n) → u ≡ patched w at (joined f n) → v ≡ patched u m (f n)
      → v ≡ patched w at (joined f (n + 1))
  joined_written w at n m u v e p q = rw (q, p, e, patched-append, joined_more) refl
