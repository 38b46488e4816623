-- Laws of the segments of a table.
--     among_taken, among_left    one entry more, which is a segment or is not
--     among_most                 there are no more segments than entries
--     among_at                   the segment of an index, by the entry that it stands in
-- Assumes nothing.
use Rattle.std.specs.Prelude.{◌≡◌, true, false, List, [], ◌∷◌, ◌++◌, ℕ, ◌+◌, ◌≤◌, ◌<◌, length, get_or}
use Rattle.std.proofs.lemmas.List.{map-append, get_or-map}
use Rattle.std.proofs.Common.{arith}
use Rattle.std.proofs.Math.ListN.{length-map}
use Rattle.laws.specs.Passing.{passing}
use Rattle.laws.proofs.PassingLaws.{passing_taken, passing_left, passing_most}
use Rattle.kernel.specs.Kernel.{no_segment}
use Rattle.elf.specs.Segments.{is_segment_no, table_segment, segments_among}

module _ (image : List ℕ) where
  pub among_taken : (n : ℕ) → is_segment_no image n ≡ true → segments_among image (n + 1) ≡ segments_among image n ++ (table_segment image n ∷ [])
  unfolding segments_among
  among_taken n e = rw (passing_taken (is_segment_no image) n e) (map-append (table_segment image) (passing (is_segment_no image) n) (n ∷ []))

  pub among_left : (n : ℕ) → is_segment_no image n ≡ false → segments_among image (n + 1) ≡ segments_among image n
  unfolding segments_among
  among_left n e = rw (passing_left (is_segment_no image) n e)

  pub among_length : (n : ℕ) → length (segments_among image n) ≡ length (passing (is_segment_no image) n)
  unfolding segments_among
  among_length n = length-map (passing (is_segment_no image) n) (table_segment image)

  pub among_most : (n : ℕ) → length (segments_among image n) ≤ n
  among_most n = omega (arith, among_length n, passing_most (is_segment_no image) n)

  pub among_at : (n i : ℕ) → i < length (segments_among image n) → get_or (segments_among image n) i no_segment ≡ table_segment image (get_or (passing (is_segment_no image) n) i 0)
  unfolding segments_among
  among_at n i l = get_or-map (table_segment image) (passing (is_segment_no image) n) i 0 no_segment (omega (arith, length-map (passing (is_segment_no image) n) (table_segment image)))
