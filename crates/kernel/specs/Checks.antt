-- What the checks ask of a kernel of segments.                               rule: ANSWERS (14 and 20)
--     entry_in, entry_outside, entry_checks            the entry among a segment's load bytes; among none: 14
--     overlap_no, overlaps_earlier, extents_overlap    two extents that share an address
-- Assumes nothing.
use Rattle.std.specs.Prelude.{Bool, not, List, [], ◌∷◌, ℕ}
use Rattle.laws.specs.Tests.{any}
use Rattle.laws.specs.Checks.{Check, ◌gives◌}
use Rattle.address.specs.Address.{inside}
use Rattle.address.specs.Span.{overlap}
use Rattle.answer.specs.declared.Refusal.{Refusal}
use Rattle.answer.specs.declared.Refusal.TheVariants.{EntryOutsideLoad}
use Rattle.kernel.specs.declared.Kernel.{Kernel}
use Rattle.kernel.specs.Kernel.{segment_no, extent_no}

-- the entry lies in the load bytes of segment i
unfoldable pub entry_in : Kernel → ℕ → Bool
entry_in k i = inside (segment_no k i).start.0 (segment_no k i).load_end.0 k.entry.0

-- 14: the entry lies in no segment's load bytes
unfoldable pub entry_outside : Kernel → Bool
entry_outside k = not (any (entry_in k) k.count)

unfoldable pub entry_checks : Kernel → List (Check Refusal)
entry_checks k = entry_outside k gives EntryOutsideLoad ∷ []

-- the extents j and i share an address
unfoldable pub overlap_no : Kernel → ℕ → ℕ → Bool
overlap_no k j i = overlap (extent_no k i) (extent_no k j)

-- the extent j shares an address with one before it
unfoldable pub overlaps_earlier : Kernel → ℕ → Bool
overlaps_earlier k j = any (overlap_no k j) j

-- 20: two extents share an address
unfoldable pub extents_overlap : Kernel → Bool
extents_overlap k = any (overlaps_earlier k) k.count
