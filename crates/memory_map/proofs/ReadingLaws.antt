-- What the loop of `memory_map::parse` has read so far.
--     Reading                the pairs of the map are read, and the next would begin at `at`
--     none_read, one_more    no pair is read; one pair more
--     too_many, is_broken    what refuses the map
--     all_read               no pair is left
-- Assumes nothing.
use Rattle.std.specs.Prelude.{Ok, ◌≡◌, true, false, ◌||◌}
use Rattle.std.proofs.Math.Path.{refl}
use mathlib.Core.List.{List}
use Prim.Native.Nat.{ℕ, ◌+◌, ◌≤◌, ◌<◌}
use Rattle.std.proofs.Math.Numerals.{add-one}
use native.Mathlib.Omega.{arith}
use Rattle.std.proofs.Math.ListN.{length, set}
use Rattle.std.proofs.lemmas.Bool.{true_from_ne_false}
use Rattle.laws.specs.Table.{listed, table}
use Rattle.laws.proofs.TableLaws.{table_more}
use Rattle.memory_map.specs.declared.Pair.{Pair}
use Rattle.memory_map.specs.declared.MemoryMap.{MemoryMap}
use Rattle.memory_map.specs.Map.{max_pairs, no_pair, max_map, pair_count, pair_at, too_small, past_end, bad_map, first_pairs}
use Rattle.memory_map.specs.Parse.{no_map, parsed_map}
use Rattle.memory_map.specs.Pairs.{next_offset, pair_offset}
use Rattle.memory_map.specs.PairsLaws.{Whole, whole_zero, whole_more, whole_all, unbroken, counted_good, many_bad, broken_bad, parsed_good}

-- the pairs of the map are read, and the next would begin at `at`
pub record Reading (m : List ℕ) (map : MemoryMap) (at : ℕ) : Type 0 where
  pub inside : at ≤ length m
  pub few : map.count ≤ max_pairs
  pub place : at ≡ pair_offset m map.count
  pub read : map.pairs ≡ table (λ i. pair_at m (pair_offset m i)) map.count max_pairs no_pair
  pub whole : Whole m map.count

pub none_read : (m : List ℕ) (map : MemoryMap) → map ≡ no_map → Reading m map 0
unfolding pair_offset listed
none_read m map h = rw h (record { inside = omega arith; few = omega arith; place = refl; read = refl; whole = whole_zero m })

module _ (m : List ℕ) (map : MemoryMap) (at : ℕ) (r : Reading m map at) where
  -- a pair begins past the last that has room, or is broken
  pub too_many : at < length m → map.count ≡ max_pairs → bad_map m ≡ true
  too_many l e = many_bad m (rw e at r.whole) (let h : pair_offset m map.count < length m = omega (arith, r.place) in rw e at h)

  pub is_broken : at < length m → (too_small m at || past_end m at ≡ false → ⊥) → bad_map m ≡ true
  is_broken l t = broken_bad m map.count r.whole (omega (arith, r.place)) (rw r.place at (true_from_ne_false _ t))

  -- one pair more, and where the next would begin
  pub one_more : (map.count ≡ max_pairs → ⊥) → too_small m at || past_end m at ≡ false
      → (p : Pair) → p ≡ pair_at m at → (next : ℕ) → next ≡ next_offset m at
      → Reading m (record { pairs = set map.pairs map.count p; count = map.count + 1 }) next
  unfolding pair_offset next_offset
  one_more f t p e next d =
      let u = unbroken m at t in
      let l : map.count < max_pairs = omega (arith, r.few) in
      record {
        inside = omega arith;
        few = omega arith;
        place = rw (add-one, ← r.place) d;
        read = rw (r.read, e, r.place) (table_more (λ i. pair_at m (pair_offset m i)) max_pairs no_pair map.count l);
        whole = whole_more m map.count r.whole (rw r.place at t);
      }

  -- no pair is left
  pub all_read : (length m ≡ 0 → ⊥) → length m ≤ max_map → length m ≤ at → Ok map ≡ parsed_map m
  unfolding first_pairs
  all_read z k l =
      let e : pair_count m ≡ map.count = whole_all m map.count r.whole (omega (arith, r.place)) in
      let g : bad_map m ≡ false = counted_good m (record { some = omega arith; short = k; few = omega (arith, r.few); whole = rw e r.whole }) in
      rw (parsed_good m g, e, ← r.read) refl
