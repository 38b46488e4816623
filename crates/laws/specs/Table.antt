-- Lists by index.
--     listed f n       the values of f at 0 up to but not including n
--     table f n k z    the same, with z behind them up to k places: an array that a loop fills
-- Assumes nothing.
use Rattle.std.specs.Prelude.{List, [], ◌∷◌, ◌++◌, ℕ, zero, suc, ◌-◌, replicate}

unfoldable pub listed : {A : Type 0} → (ℕ → A) → ℕ → List A
listed f zero = []
listed f (suc n) = listed f n ++ (f n ∷ [])

abbrev pub table : {A : Type 0} → (ℕ → A) → ℕ → ℕ → A → List A
table f n k z = listed f n ++ replicate (k - n) z
