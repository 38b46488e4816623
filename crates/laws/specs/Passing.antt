-- Numbers chosen by a test.
--     passing f n    the numbers below n at which f passes, in rising order
-- Assumes nothing.
use Rattle.std.specs.Prelude.{Bool, cond, List, [], ◌∷◌, ◌++◌, ℕ, zero, suc}

unfoldable pub passing : (ℕ → Bool) → ℕ → List ℕ
passing f zero = []
passing f (suc n) = let below = passing f n in cond (f n) (below ++ (n ∷ [])) below
