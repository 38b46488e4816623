-- The false headers of an image.                                                       rule: HEADER
--     is_false_header, is_false_header_at, is_false_place    the magic with a wrong sum
--     places_passed, false_headers                           how many the search passes over, offset by offset
--     searched                                               what the search answers: the header, and that count
-- What a false header is in propositions stands in HeaderAt, and that so many are counted in FalseHeaderLaws.
-- Assumes nothing.
use Rattle.std.specs.Prelude.{ℕ, ◌+◌, ◌*◌, ◌/◌, Bool, not, ◌&&◌, List, length, ◌==◌, Option, Some, None}
use Rattle.laws.specs.Passing.{passing}
use Rattle.number.specs.Number.{number_at}
use Rattle.address.specs.declared.ImageOffset.{ImageOffset}
use Rattle.header.specs.declared.Searched.{Searched}
use Rattle.header.specs.Header.{header_magic, search_limit, has_room, sum_is_zero, header}

-- the first word is the magic, and the sum is not 0
unfoldable pub is_false_header : ℕ → ℕ → ℕ → Bool
is_false_header m flags checksum = m == header_magic && not (sum_is_zero m flags checksum)

-- such words stand at the offset o, with room for a header
unfoldable pub is_false_header_at : List ℕ → ℕ → Bool
is_false_header_at image o = has_room image o && is_false_header (number_at 4 image o) (number_at 4 image (o + 4)) (number_at 4 image (o + 8))

-- the multiples of 4 are places: place k is the offset 4k
abbrev pub is_false_place : List ℕ → ℕ → Bool
is_false_place image k = is_false_header_at image (4 * k)

-- how many places lie below the header found, or in the searched part where there is none
abbrev pub places_passed : Option ImageOffset → ℕ
places_passed None = search_limit / 4
places_passed (Some o) = o.0 / 4

-- how many of them have a false header
unfoldable pub false_headers : List ℕ → ℕ
false_headers image = length (passing (is_false_place image) (places_passed (header image)))

abbrev pub searched : List ℕ → Searched
searched image = record { header = header image; false_headers = false_headers image }
