-- Usable addresses in propositions.
--     covers_is              a pair covers the addresses from its base up to base + length, which never wraps: covers_exact
--     UsableOn, usable_is    some pair of type 1 covers the address below 2^32, and no pair of another type does
--     usable_bytes           the same by the bytes of the map
-- Assumes nothing.
use Rattle.std.specs.Prelude.{List, ◌≡◌, refl, not, ◌&&◌, ◌↔◌, ℕ, ◌+◌, ◌-◌, ◌^◌, ◌≤◌, ◌<◌}
use Rattle.std.proofs.Common.{sym, ◌∙◌}
use Rattle.std.proofs.Math.Bool.{Bool, true, false, false≢true}
use Rattle.std.proofs.Math.Logic.{⊎_elim}
use borrow.Author.Tests.{lt-ltb, ltb-true, eq-eqb, eqb-true, eqb-false, ne_eqb, not-true}
use Rattle.std.proofs.Math.Dec.{ltb, eqb}
use Rattle.laws.specs.Tests.{any}
use Rattle.laws.proofs.TestLaws.{true_or_false, and_left, and_right, any_at, any_here, any_none, none_any}
use Rattle.address.specs.Address.{inside}
use Rattle.address.specs.InsideLaws.{inside_is}
use Rattle.memory_map.specs.declared.Pair.{Pair}
use Rattle.memory_map.specs.declared.MemoryMap.{MemoryMap}
use Rattle.memory_map.specs.Map.{pair_no, pair_count, pair_at, map_of, first_pairs}
use Rattle.memory_map.specs.Pairs.{pair_offset}
use Rattle.memory_map.specs.PairsLaws.{pair_listed, count_begins, begins_count}
use Rattle.usable.specs.Usable.{ram, address_space, covers, usable_by, barred_by, is_usable}
use Rattle.usable.specs.UsableAddress.{Usable}

abbrev pub Covers : Pair → ℕ → Type 0
Covers p a = (p.base ≤ a) × (a < p.base + p.length)

pub covers_is : (p : Pair) (a : ℕ) → (covers p a ≡ true) ↔ Covers p a
unfolding covers
covers_is p a = inside_is p.base (p.base + p.length) a

-- base + length never wraps: a pair at the end of 64 bits does not cover address 0
pub covers_exact : covers (record { base = 2 ^ 64 - 1; length = 2; kind = ram }) 0 ≡ false
unfolding covers inside
covers_exact = refl

pub record UsableOn (m : MemoryMap) (a : ℕ) : Type 0 where
  pub below : a < address_space
  pub some : (i : ℕ) × (i < m.count) × ((pair_no m i).kind ≡ ram) × Covers (pair_no m i) a
  pub none : (i : ℕ) → i < m.count → ((pair_no m i).kind ≡ ram → ⊥) → Covers (pair_no m i) a → ⊥

module _ (m : MemoryMap) (a : ℕ) where
  pub by_usable : (i : ℕ) → (usable_by m a i ≡ true) ↔ (((pair_no m i).kind ≡ ram) × Covers (pair_no m i) a)
  unfolding usable_by
  by_usable i =
      let K : Bool = eqb (pair_no m i).kind ram in (
        λ e. (eqb-true _ _ (and_left K (covers (pair_no m i) a) e), (covers_is (pair_no m i) a).0 (and_right K (covers (pair_no m i) a) e)),
        λ h. rw (eq-eqb _ _ h.0, (covers_is (pair_no m i) a).1 h.1),
      )

  pub by_barred : (i : ℕ) → (barred_by m a i ≡ true) ↔ (((pair_no m i).kind ≡ ram → ⊥) × Covers (pair_no m i) a)
  unfolding barred_by
  by_barred i =
      let K : Bool = eqb (pair_no m i).kind ram in (
        λ e. (eqb-false _ _ (not-true K (and_left (not K) (covers (pair_no m i) a) e)), (covers_is (pair_no m i) a).0 (and_right (not K) (covers (pair_no m i) a) e)),
        λ h. rw (ne_eqb _ _ h.0, (covers_is (pair_no m i) a).1 h.1),
      )

  pub usable_is : (is_usable m a ≡ true) ↔ UsableOn m a
  unfolding is_usable
  usable_is =
      let A : Bool = ltb a address_space in
      let U : Bool = any (usable_by m a) m.count in
      let B : Bool = any (barred_by m a) m.count in (
        λ e.
            let r = any_at (usable_by m a) m.count (and_right A U (and_left (A && U) (not B) e)) in
            let q = (by_usable r.0).0 r.2 in
            record {
              below = ltb-true a address_space (and_left A U (and_left (A && U) (not B) e));
              some = (r.0, r.1, q.0, q.1);
              none = λ i l u c. false≢true (sym (none_any (barred_by m a) m.count (not-true B (and_right (A && U) (not B) e)) i l) ∙ (by_barred i).1 (u, c));
            },
        λ h.
            let r = h.some in
            let p : A ≡ true = lt-ltb a address_space h.below in
            let q : U ≡ true = any_here (usable_by m a) m.count r.0 r.1 ((by_usable r.0).1 (r.2, r.3)) in
            let o : B ≡ false = any_none (barred_by m a) m.count (λ i l. ⊎_elim (λ t. let k = (by_barred i).0 t in absurd (h.none i l k.0 k.1)) (λ t. t) (true_or_false (barred_by m a i))) in
            rw (p, q, o),
      )

-- the pairs of a map by their bytes
module _ (m : List ℕ) (a : ℕ) where
  pair_is : (i : ℕ) → i < pair_count m → pair_no (map_of m) i ≡ pair_at m (pair_offset m i)
  pair_is i l = pair_listed m (pair_count m) i l

  pub usable_bytes : UsableOn (map_of m) a ↔ Usable m a
  unfolding pair_at first_pairs
  usable_bytes = (
    λ u.
        let s = u.some in
        let e = pair_is s.0 s.1 in
        record {
          below = u.below;
          some = (s.0, count_begins m s.0 s.1, rw e at s.2, rw e at s.3);
          none = λ i b k c. let q = pair_is i (begins_count m i b) in u.none i (begins_count m i b) (rw q k) (rw q c);
        },
    λ u.
        let s = u.some in
        let l = begins_count m s.0 s.1 in
        let e = pair_is s.0 l in
        record {
          below = u.below;
          some = (s.0, l, rw e s.2, rw e s.3);
          none = λ i l k c. let q = pair_is i l in u.none i (count_begins m i l) (rw q at k) (rw q at c);
        },
  )
