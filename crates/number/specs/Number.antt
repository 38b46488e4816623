-- Little-endian numbers, at any width.                                                rule: NUMBERS
--     number, number_at    the number that bytes make
--     number_bytes         the bytes of a number
--     word_bytes           the bytes of a row of 32-bit words
-- Assumes nothing.
use Rattle.std.specs.Prelude.{List, [], ◌∷◌, ◌++◌, ℕ, zero, suc, ◌+◌, ◌*◌, ◌/◌, ◌%◌, drop}

-- the number that the first `width` bytes of a list make, lowest byte first; where the list ends early, a byte is 0
unfoldable pub number : ℕ → List ℕ → ℕ
number zero s = 0
number (suc width) [] = 0
number (suc width) (x ∷ s) = x + 256 * number width s

-- the number of `width` bytes at the offset `at`
abbrev pub number_at : ℕ → List ℕ → ℕ → ℕ
number_at width s at = number width (drop at s)

-- the `width` lowest bytes of a number, lowest byte first
unfoldable pub number_bytes : ℕ → ℕ → List ℕ
number_bytes zero n = []
number_bytes (suc width) n = n % 256 ∷ number_bytes width (n / 256)

-- the bytes of a row of words, four each
unfoldable pub word_bytes : List ℕ → List ℕ
word_bytes [] = []
word_bytes (x ∷ words) = number_bytes 4 x ++ word_bytes words
