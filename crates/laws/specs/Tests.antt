-- Tests over a range of numbers.
--     any f k           f passes at some number below k
--     all_from f a n    f passes at each of the n numbers from a on
--     run f a k         how many of the k numbers from a on pass one after the other, from the first
-- Proofs go by the laws of these, so that no check walks through a range of addresses; only worked examples open them.
-- Assumes nothing.
use Rattle.std.specs.Prelude.{Bool, true, false, cond, ◌&&◌, ◌||◌, ℕ, zero, suc, ◌+◌}

unfoldable pub any : (ℕ → Bool) → ℕ → Bool
any f zero = false
any f (suc k) = any f k || f k

unfoldable pub all_from : (ℕ → Bool) → ℕ → ℕ → Bool
all_from f a zero = true
all_from f a (suc n) = all_from f a n && f (a + n)

unfoldable pub run : (ℕ → Bool) → ℕ → ℕ → ℕ
run f a zero = 0
run f a (suc k) = let r = run f (suc a) k in cond (f a) (suc r) 0
