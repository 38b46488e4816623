-- What the checks of a kernel's segments say.
--     entered, entry_outside_is       the entry lies among the load bytes of some segment, or of none
--     extents_apart, apart_extents    no two extents share an address
-- Assumes nothing.
use Rattle.std.specs.Prelude.{◌≡◌, true, false, ◌↔◌, ℕ, ◌≤◌, ◌<◌}
use Rattle.std.proofs.Math.Logic.{⊎_elim}
use Rattle.std.proofs.Common.{arith}
use Rattle.std.proofs.lemmas.Bool.{not-false, not-true}
use Rattle.laws.proofs.TestLaws.{true_or_false, any_at, any_none, none_any, none_is}
use Rattle.laws.proofs.CheckLaws.{not_to_true}
use Rattle.address.specs.InsideLaws.{inside_is, overlap_is, overlap_none}
use Rattle.address.specs.Span.{Holds, overlap}
use Rattle.kernel.specs.declared.Kernel.{Kernel}
use Rattle.kernel.specs.Kernel.{segment_no, extent_no}
use Rattle.kernel.specs.Checks.{entry_in, entry_outside, overlap_no, overlaps_earlier, extents_overlap}

module _ (k : Kernel) where
  -- the entry lies among the load bytes of some segment
  pub entered : entry_outside k ≡ false → (i : ℕ) × (i < k.count) × ((segment_no k i).start.0 ≤ k.entry.0) × (k.entry.0 < (segment_no k i).load_end.0)
  unfolding entry_outside entry_in
  entered e =
      let r = any_at (entry_in k) k.count (not-false _ e) in
      let h = (inside_is (segment_no k r.0).start.0 (segment_no k r.0).load_end.0 k.entry.0).0 r.2 in
      (r.0, r.1, h.0, h.1)

  pub entry_outside_is : (entry_outside k ≡ true) ↔ ((i : ℕ) → i < k.count → ((segment_no k i).start.0 ≤ k.entry.0) × (k.entry.0 < (segment_no k i).load_end.0) → ⊥)
  unfolding entry_outside entry_in
  entry_outside_is =
      let n = none_is (entry_in k) k.count (λ i l. inside_is (segment_no k i).start.0 (segment_no k i).load_end.0 k.entry.0) in
      (λ e. n.0 (not-true _ e), λ h. not_to_true _ (n.1 h))

  -- no two extents share an address
  pub extents_apart : extents_overlap k ≡ false → (i j : ℕ) → i < j → j < k.count → (a : ℕ) → Holds (extent_no k i) a → Holds (extent_no k j) a → ⊥
  unfolding extents_overlap overlaps_earlier overlap_no
  extents_apart e i j l m a =
      overlap_none (extent_no k i) (extent_no k j) (none_any (overlap_no k j) j (none_any (overlaps_earlier k) k.count e j m) i l) a

  -- and the test is false where none do
  pub apart_extents : ((i : ℕ) → i < k.count → (extent_no k i).start.0 < (extent_no k i).end.0)
      → ((i j : ℕ) → i < j → j < k.count → (a : ℕ) → Holds (extent_no k i) a → Holds (extent_no k j) a → ⊥)
      → extents_overlap k ≡ false
  unfolding extents_overlap overlaps_earlier overlap_no
  apart_extents n h =
      any_none (overlaps_earlier k) k.count
      (λ j m.
      any_none (overlap_no k j) j
      (λ i l.
      ⊎_elim
      (λ (t : overlap (extent_no k i) (extent_no k j) ≡ true). let r = (overlap_is (extent_no k i) (extent_no k j) (n i (omega arith)) (n j m)).0 t in absurd (h i j l m r.0 r.1 r.2))
      (λ (t : overlap (extent_no k i) (extent_no k j) ≡ false). t)
      (true_or_false (overlap (extent_no k i) (extent_no k j)))))
