-- What a buffer holds after a write.
--     patched    the buffer with new bytes from an offset on
--     zeros      so many zero bytes
-- Assumes nothing.
use Rattle.std.specs.Prelude.{List, [], ◌∷◌, ℕ, zero, suc, replicate}

-- the list with `bytes` in the place of its own from the offset `at` on; what would stand past its end is left out
unfoldable pub patched : List ℕ → ℕ → List ℕ → List ℕ
patched [] at bytes = []
patched (x ∷ s) zero [] = x ∷ s
patched (x ∷ s) zero (y ∷ bytes) = y ∷ patched s zero bytes
patched (x ∷ s) (suc at) bytes = x ∷ patched s at bytes

abbrev pub zeros : ℕ → List ℕ
zeros n = replicate n 0
