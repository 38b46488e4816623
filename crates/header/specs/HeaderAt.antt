-- Where headers and false headers stand, in propositions.                              rule: HEADER
--     MagicAt          the magic stands at an offset of the image, with room for a header
--     HeaderAt         a header stands there
--     FalseHeaderAt    a false header stands there
-- Assumes nothing.
use Rattle.std.specs.Prelude.{◌≡◌, ℕ, ◌+◌, ◌%◌, ◌^◌, ◌≤◌, List, length}
use Rattle.number.specs.Number.{number_at}

-- the magic stands at the offset o: a multiple of 4, with 12 bytes inside both the image and its first 8,192 bytes
pub record MagicAt (image : List ℕ) (o : ℕ) : Type 0 where
  pub multiple : o % 4 ≡ 0
  pub whole : o + 12 ≤ length image
  pub early : o + 12 ≤ 8192
  pub marked : number_at 4 image o ≡ 0x1BADB002

-- a header stands at the offset o: the magic, and a sum of magic, flags and checksum that is 0 modulo 2^32
pub record HeaderAt (image : List ℕ) (o : ℕ) : Type 0 where
  pub magic : MagicAt image o
  pub sum : (number_at 4 image o + number_at 4 image (o + 4) + number_at 4 image (o + 8)) % 2 ^ 32 ≡ 0

-- a false header stands at the offset o: the magic, and a sum that is not 0 modulo 2^32
pub record FalseHeaderAt (image : List ℕ) (o : ℕ) : Type 0 where
  pub magic : MagicAt image o
  pub sum : (number_at 4 image o + number_at 4 image (o + 4) + number_at 4 image (o + 8)) % 2 ^ 32 ≡ 0 → ⊥
