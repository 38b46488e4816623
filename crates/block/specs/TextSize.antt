-- How many bytes texts take with their zeros.                                           rule: BLOCK
--     text_size       a text and its zero; an empty text has none
--     strings_size    the strings of the first modules of a submission
-- Assumes nothing.
use Rattle.std.specs.Prelude.{List, ℕ, zero, suc, ◌+◌}
use Rattle.submission.specs.Format.{string_length}

unfoldable pub text_size : ℕ → ℕ
text_size zero = 0
text_size (suc n) = suc n + 1

-- the bytes of the first i strings of a submission
unfoldable pub strings_size : List ℕ → ℕ → ℕ
strings_size s zero = 0
strings_size s (suc i) = strings_size s i + text_size (string_length s i)
