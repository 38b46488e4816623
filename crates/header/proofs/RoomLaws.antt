-- Laws of the room for a header at an offset.
--     room_is                 12 bytes fit exactly where they do in the image and in its first 8,192 bytes
--     past_end, past_limit    where they do not
-- Assumes nothing.
use Rattle.std.specs.Prelude.{◌≡◌, ℕ, ◌+◌, ◌<◌, ◌≤◌, Bool, true, false, ◌↔◌, List, length, nat_le}
use Rattle.std.proofs.Common.{leb-true, le-leb}
use Rattle.std.proofs.lemmas.Bool.{lt-leb}
use Rattle.laws.proofs.TestLaws.{and_is}
use Rattle.laws.proofs.CheckLaws.{and_fails_left, and_fails_right}
use Rattle.header.specs.Header.{search_limit, short_header, has_room}

module _ (image : List ℕ) (o : ℕ) where
  abbrev whole : Bool
  whole = nat_le (o + short_header) (length image)

  abbrev early : Bool
  early = nat_le (o + short_header) search_limit

  pub room_is : (has_room image o ≡ true) ↔ ((o + short_header ≤ length image) × (o + short_header ≤ search_limit))
  room_is = and_is whole early (leb-true _ _, le-leb _ _) (leb-true _ _, le-leb _ _)

  pub past_end : length image < o + short_header → has_room image o ≡ false
  past_end l = and_fails_left whole early (lt-leb _ _ l)

  pub past_limit : search_limit < o + short_header → has_room image o ≡ false
  past_limit l = and_fails_right whole early (lt-leb _ _ l)
