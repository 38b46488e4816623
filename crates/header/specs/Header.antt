-- The Multiboot header of an image.                                                    rule: HEADER
--     header_magic, search_limit, short_header       the numbers of the rule
--     has_room                                       whether 12 bytes fit at an offset
--     words                                          the numbers that bytes make, four by four
--     sum_is_zero, is_header, header_from, header    the search, word by word from the front
-- What a header is in propositions stands in HeaderAt, and that the search finds the lowest in HeaderLaws; how many false
-- headers it passes over stands in FalseHeader.
-- Assumes nothing.
use Rattle.std.specs.Prelude.{ℕ, ◌+◌, ◌%◌, ◌^◌, Bool, cond, ◌&&◌, List, [], ◌∷◌, length, take, ◌==◌, nat_le, Option, Some, None}
use Rattle.number.specs.Number.{number}
use Rattle.address.specs.declared.ImageOffset.{ImageOffset}

-- a header begins with this number
abbrev pub header_magic : ℕ
header_magic = 0x1BADB002

-- it lies wholly in so many bytes from the image's start
abbrev pub search_limit : ℕ
search_limit = 8192

-- magic, flags and checksum
abbrev pub short_header : ℕ
short_header = 12

-- 12 bytes fit at the offset o, inside both the image and its first 8,192 bytes
abbrev pub has_room : List ℕ → ℕ → Bool
has_room image o = nat_le (o + short_header) (length image) && nat_le (o + short_header) search_limit

-- the numbers that a list's bytes make, four by four; what is left of fewer than four is no number
unfoldable pub words : List ℕ → List ℕ
words [] = []
words (a ∷ []) = []
words (a ∷ b ∷ []) = []
words (a ∷ b ∷ c ∷ []) = []
words (a ∷ b ∷ c ∷ d ∷ s) = number 4 (a ∷ b ∷ c ∷ d ∷ []) ∷ words s

-- magic, flags and checksum, summed modulo 2^32, give 0
abbrev pub sum_is_zero : ℕ → ℕ → ℕ → Bool
sum_is_zero m flags checksum = (m + flags + checksum) % 2 ^ 32 == 0

-- the first word is the magic, and the sum is 0
unfoldable pub is_header : ℕ → ℕ → ℕ → Bool
is_header m flags checksum = m == header_magic && sum_is_zero m flags checksum

-- the lowest of three words in a row that are a header's; the first word stands at the offset `at`
unfoldable pub header_from : ℕ → List ℕ → Option ImageOffset
header_from at [] = None
header_from at (m ∷ []) = None
header_from at (m ∷ f ∷ []) = None
header_from at (m ∷ f ∷ c ∷ ws) = let r = header_from (at + 4) (f ∷ c ∷ ws) in cond (is_header m f c) (Some (record { 0 = at })) r

-- the header of an image: the lowest in its searched part
unfoldable pub header : List ℕ → Option ImageOffset
header image = header_from 0 (words (take search_limit image))
