-- What mending promises of the bytes of an image, in propositions.                     rule: MENDING
--     RightChecksum    the one checksum with which magic and flags give 0
--     MendedAt         what is promised where a checksum is mended
--     MendPromised     what is promised of the answer r and the image v afterwards
-- The proof is in PromisesLaws; so is that the header search on v finds the offset mended, and that a second run finds a header
-- and changes nothing.
-- Assumes nothing.
use Rattle.std.specs.Prelude.{◌≡◌, ℕ, ◌+◌, ◌%◌, ◌^◌, ◌<◌, ◌≤◌, ◌↔◌, List, length, ◌≢◌, slice_index, Some, None, Ok, Err}
use Rattle.number.specs.Number.{number_at}
use Rattle.header.specs.HeaderAt.{MagicAt, HeaderAt}
use Rattle.mend.specs.declared.Change.{Change}
use Rattle.mend.specs.Mending.{Mending}

-- k is the one number below 2^32 with which magic and flags give 0 modulo 2^32
pub record RightChecksum (flags k : ℕ) : Type 0 where
  pub below : k < 2 ^ 32
  pub sum : (0x1BADB002 + flags + k) % 2 ^ 32 ≡ 0
  pub only : (n : ℕ) → n < 2 ^ 32 → (0x1BADB002 + flags + n) % 2 ^ 32 ≡ 0 → n ≡ k

-- the image without a header has its checksum mended by the change c, and becomes v
pub record MendedAt (image : List ℕ) (c : Change) (v : List ℕ) : Type 0 where
  -- the change stands at the lowest magic
  pub headless : (o : ℕ) → HeaderAt image o → ⊥
  pub magic : MagicAt image c.offset.0
  pub lowest : (o : ℕ) → o < c.offset.0 → MagicAt image o → ⊥
  -- it tells the checksum before, and the right one
  pub old : number_at 4 image (c.offset.0 + 8) ≡ c.old
  pub new : number_at 4 v (c.offset.0 + 8) ≡ c.new
  pub right : RightChecksum (number_at 4 image (c.offset.0 + 4)) c.new
  -- every other byte is as it was
  pub kept : (i : ℕ) → (c.offset.0 + 8 ≤ i → i < c.offset.0 + 12 → ⊥) → slice_index v i ≡ slice_index image i
  pub size : length v ≡ length image
  -- a header stands there now, and no magic below it
  pub header : HeaderAt v c.offset.0
  pub first : (o : ℕ) → o < c.offset.0 → MagicAt v o → ⊥

-- the answer r and the image v afterwards
pub record MendPromised (image : List ℕ) (r : Mending) (v : List ℕ) : Type 0 where
  -- a header is found exactly where there is one, and a mend is refused exactly where the magic stands nowhere
  pub found : (r ≡ Ok None) ↔ ((o : ℕ) × HeaderAt image o)
  pub none : (r ≡ Err (record {})) ↔ ((o : ℕ) → MagicAt image o → ⊥)
  pub mended : (c : Change) → r ≡ Ok (Some c) → MendedAt image c v
  -- nothing else changes the image
  pub left : ((c : Change) → r ≢ Ok (Some c)) → v ≡ image
