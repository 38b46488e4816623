-- Mending the checksum of an image.                                                    rule: MENDING
--     is_magic_at, is_magic_place, place_offset, lowest_magic    the lowest magic where a header may stand
--     right_checksum, change_at                                  the checksum that makes it one, and the one that stands there
--     mending_by, mending_of, mend_number                        what is answered, and its number
--     image_with, image_after                                    the image afterwards
-- What all this promises of the bytes stands in Promises.
-- Assumes nothing.
use Rattle.std.specs.Prelude.{ℕ, ◌+◌, ◌-◌, ◌*◌, ◌/◌, ◌%◌, ◌^◌, Bool, ◌&&◌, List, ◌==◌, Option, Some, None, Result, Ok, Err}
use Rattle.laws.specs.First.{Found, none, at, first}
use Rattle.buffer.specs.Patched.{patched}
use Rattle.number.specs.Number.{number_at, number_bytes}
use Rattle.address.specs.declared.ImageOffset.{ImageOffset}
use Rattle.header.specs.Header.{header_magic, search_limit, has_room, header}
use Rattle.mend.specs.declared.Change.{Change}
use Rattle.mend.specs.declared.NoMagic.{NoMagic}
use Rattle.mend.specs.Mending.{Mending}

-- the magic stands at the offset o, with room for a header
unfoldable pub is_magic_at : List ℕ → ℕ → Bool
is_magic_at image o = has_room image o && number_at 4 image o == header_magic

-- the multiples of 4 are places: place k is the offset 4k
abbrev pub is_magic_place : List ℕ → ℕ → Bool
is_magic_place image k = is_magic_at image (4 * k)

-- the offset of a place, if there is one
abbrev pub place_offset : Found → Option ImageOffset
place_offset none = None
place_offset (at k) = Some (record { 0 = 4 * k })

-- the lowest place of the searched part where the magic stands
unfoldable pub lowest_magic : List ℕ → Option ImageOffset
lowest_magic image = place_offset (first (is_magic_place image) (search_limit / 4) 0)

-- the number below 2^32 with which magic and flags give 0 modulo 2^32; the outer remainder turns 2^32 into 0
unfoldable pub right_checksum : ℕ → ℕ
right_checksum flags = (2 ^ 32 - (header_magic + flags) % 2 ^ 32) % 2 ^ 32

-- the checksum of the header at an offset, as it stands and as it has to be
abbrev pub change_at : List ℕ → ImageOffset → Change
change_at image o = record { offset = o; old = number_at 4 image (o.0 + 8); new = right_checksum (number_at 4 image (o.0 + 4)) }

-- what is answered by the header found and the lowest magic: a header is left alone
abbrev pub mending_by : List ℕ → Option ImageOffset → Option ImageOffset → Mending
mending_by image (Some o) magic = Ok None
mending_by image None (Some o) = Ok (Some (change_at image o))
mending_by image None None = Err (record {})

-- the answer for an image
unfoldable pub mending_of : List ℕ → Mending
mending_of image = mending_by image (header image) (lowest_magic image)

-- 26 where the magic stands nowhere
abbrev pub mend_number : Mending → ℕ
mend_number (Ok c) = 0
mend_number (Err e) = 26

-- a checksum that is mended is written, and nothing else
abbrev pub image_with : List ℕ → Mending → List ℕ
image_with image (Ok None) = image
image_with image (Ok (Some c)) = patched image (c.offset.0 + 8) (number_bytes 4 c.new)
image_with image (Err e) = image

-- the image after its mend
unfoldable pub image_after : List ℕ → List ℕ
image_after image = image_with image (mending_of image)
