-- The lowest number of a range that passes a test.
--     first p k lo    at the lowest of the k numbers from lo on that passes p, or none
-- Assumes nothing.
use Rattle.std.specs.Prelude.{Bool, cond, ℕ, zero, suc}

pub data Found : Type 0 where
  none : Found
  at : ℕ → Found

unfoldable pub first : (ℕ → Bool) → ℕ → ℕ → Found
first p zero lo = none
first p (suc k) lo = let r = first p k (suc lo) in cond (p lo) (at lo) r
