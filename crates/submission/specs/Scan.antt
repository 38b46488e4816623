-- Bytes, looked at one after the other.
--     has_zero      a byte is zero
--     same_bytes    two rows of bytes are the same
-- Assumes nothing.
use Rattle.std.specs.Prelude.{Bool, true, false, ◌&&◌, ◌||◌, List, [], ◌∷◌, ℕ, eqb}

unfoldable pub has_zero : List ℕ → Bool
has_zero [] = false
has_zero (x ∷ s) = eqb x 0 || has_zero s

unfoldable pub same_bytes : List ℕ → List ℕ → Bool
same_bytes [] [] = true
same_bytes [] (y ∷ t) = false
same_bytes (x ∷ s) [] = false
same_bytes (x ∷ s) (y ∷ t) = eqb x y && same_bytes s t
