-- Why a load with load_end_addr 0 is never empty.
--     not-cut_off      where 9 does not apply, the whole header lies in the image and in its searched part
--     offset_inside    the load begins inside the image
--     header_loaded    so that all of the image from there on has the bytes of the header at least
-- h are the address fields of the header at o, n is the length of its image.
-- Assumes nothing.
use Rattle.std.specs.Prelude.{◌≡◌, false, ℕ, ◌+◌, ◌≤◌, ◌<◌, ltb}
use Rattle.std.proofs.Common.{arith, ltb-false, eq-eqb}
use Rattle.laws.proofs.TestLaws.{or_none_left, or_none_right}
use Rattle.header.specs.Header.{search_limit}
use Rattle.image.specs.declared.load.AddressFields.{AddressFields}
use Rattle.image.specs.Load.{full_header, load_offset, load_length}
use Rattle.image.specs.Judged.{cut_off}

pub not-cut_off : (o n : ℕ) → cut_off o n ≡ false → (o + full_header ≤ search_limit) × (o + full_header ≤ n)
not-cut_off o n e =
    let p = ltb search_limit (o + full_header) in
    let q = ltb n (o + full_header) in
    (ltb-false _ _ (or_none_left p q e), ltb-false _ _ (or_none_right p q e))

module _ (h : AddressFields) (o n : ℕ) (whole : cut_off o n ≡ false) where
  -- the load begins at the header or before it; where 10 applies there is no such offset, and the law holds of what load_offset gives
  pub offset_inside : load_offset h o < n
  offset_inside = omega (arith, not-cut_off o n whole)

  pub header_loaded : h.load_end_addr.0 ≡ 0 → full_header ≤ load_length h (load_offset h o) n
  unfolding load_length
  header_loaded z = rw (eq-eqb h.load_end_addr.0 0 z) (omega (arith, not-cut_off o n whole))
