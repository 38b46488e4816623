-- Laws of a kernel of segments.
--     places_at                 what stands at an index is the segment of that index, zeros past the last
--     places_more               one segment more, stored where the next goes
--     kernel_at, kernel_past    what stands at an index of the kernel of these segments
--     GoodSegment               what is known of a segment that no check refuses
-- Assumes nothing.
use Rattle.std.specs.Prelude.{◌≡◌, refl, List, [], ◌∷◌, ◌++◌, ℕ, zero, suc, ◌+◌, ◌-◌, ◌≤◌, ◌<◌, length, get_or, set, replicate}
use Rattle.std.proofs.Common.{◌∙◌, append_assoc, arith, length-append}
use Rattle.std.proofs.Math.ListN.{get_or-eq_default}
use Rattle.std.proofs.lemmas.List.{set_at}
use Rattle.laws.proofs.TableLaws.{replicate_at}
use Rattle.address.specs.declared.PhysAddr.{PhysAddr}
use Rattle.kernel.specs.declared.Segment.{Segment}
use Rattle.kernel.specs.declared.FoundHeader.{FoundHeader}
use Rattle.kernel.specs.Kernel.{max_segments, no_segment, places_of, kernel_with, segment_no}

padded_at : (ss : List Segment) (n i : ℕ) → get_or (ss ++ replicate n no_segment) i no_segment ≡ get_or ss i no_segment
padded_at [] n i = replicate_at n i no_segment
padded_at (s ∷ ss) n zero = refl
padded_at (s ∷ ss) n (suc i) = padded_at ss n i

pub places_at : (ss : List Segment) (i : ℕ) → get_or (places_of ss) i no_segment ≡ get_or ss i no_segment
places_at ss i = padded_at ss (max_segments - length ss) i

pub places_more : (ss : List Segment) (s : Segment) → length ss < max_segments → set (places_of ss) (length ss) s ≡ places_of (ss ++ (s ∷ []))
places_more ss s l =
    let e : max_segments - length ss ≡ suc (max_segments - suc (length ss)) = omega arith in
    let f : max_segments - length (ss ++ (s ∷ [])) ≡ max_segments - suc (length ss) = omega (arith, length-append ss (s ∷ [])) in
    rw (e, f, append_assoc) (set_at ss no_segment (replicate (max_segments - suc (length ss)) no_segment) s (length ss) refl)

module _ (found : FoundHeader) (entry : PhysAddr) (ss : List Segment) where
  pub kernel_at : (i : ℕ) → segment_no (kernel_with found entry ss) i ≡ get_or ss i no_segment
  unfolding kernel_with
  kernel_at i = places_at ss i

  pub kernel_past : (i : ℕ) → length ss ≤ i → segment_no (kernel_with found entry ss) i ≡ no_segment
  kernel_past i l = kernel_at i ∙ get_or-eq_default ss no_segment l

-- the load bytes come first and stand in the image, and there is an address
pub record GoodSegment (image : List ℕ) (s : Segment) : Type 0 where
  pub loaded : s.start.0 ≤ s.load_end.0
  pub end : s.load_end.0 ≤ s.extent_end.0
  pub some : s.start.0 < s.extent_end.0
  pub inside : (j : ℕ) → j < s.load_end.0 - s.start.0 → s.offset.0 + j < length image
