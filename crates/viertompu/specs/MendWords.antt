-- The answer of a mend as words.                                                                     rule: MENDING
--     mend_words    whether a checksum was mended, the header's offset, the old checksum, the new one
-- Assumes nothing.
use Rattle.std.specs.Prelude.{List, [], ◌∷◌, ℕ, Some, None, Ok, Err}
use Rattle.buffer.specs.Patched.{zeros}
use Rattle.mend.specs.Mending.{Mending}
use Rattle.viertompu.specs.Words.{word_of}

-- zeros where nothing was mended; the offset of a change is below 2^32
unfoldable pub mend_words : Mending → List ℕ
mend_words (Ok None) = zeros 4
mend_words (Ok (Some c)) = 1 ∷ word_of c.offset.0 ∷ c.old ∷ c.new ∷ []
mend_words (Err e) = zeros 4
