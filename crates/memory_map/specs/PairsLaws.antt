-- Laws of the pairs of a map.
--     Whole, CountedMap                                 pairs that keep their rules; the rules of a map by their count
--     pair_on, count_begins, count_end                  where pairs begin, and that all of them count
--     whole_more, whole_count, whole_next, whole_all    whole pairs, one more, and how many there are
--     broken_bad, empty_bad, long_bad, many_bad         what refuses a map
--     counted_good, good_counted, map_good_is           a map is accepted exactly where it keeps all its rules
--     good_some, good_fills                             an accepted map has a pair, and its pairs fill it
--     parsed_bad, parsed_good, load_good                what reading a map answers
--     pair_listed, pair_past, length_pairs              which pair stands at which index
--     pair_fits, pairs_fit                              the ranges of a pair's fields
--     parsed_pairs, parsed_length, parsed_fits          the same of what reading a map gives, refused or not
-- Assumes nothing.
use Rattle.std.specs.Prelude.{Ok, Err, ◌≡◌, true, false, ◌||◌, ◌↔◌}
use Rattle.std.proofs.Math.Path.{refl, ap}
use Rattle.std.proofs.Common.{sym, ◌∙◌, zero-add, eq-or-lt_of_le, le_of_suc-le-suc}
use Rattle.std.proofs.lemmas.Bool.{false≢true}
use mathlib.Core.List.{List, []}
use Rattle.std.proofs.Math.Logic.{⊎_elim}
use Prim.Native.Nat.{ℕ, zero, suc, ◌+◌, ◌-◌, ◌^◌, ◌≤◌, ◌<◌}
use Rattle.std.proofs.Math.Numerals.{add-one}
use native.Mathlib.Omega.{arith}
use borrow.Author.Tests.{lt-ltb, le-ltb, ltb-true, ltb-false, eqb-false}
use Rattle.std.proofs.Math.Dec.{ltb, eqb}
use Rattle.std.proofs.Math.ListN.{length}
use Rattle.laws.specs.Tests.{any}
use Rattle.laws.proofs.TestLaws.{Run, run_says, any_here, any_none, none_any, or_cases, or_none_left, or_none_right, lt_or_le, true_or_false}
use Rattle.laws.proofs.TableLaws.{length_table, table_at, table_past, replicate_at}
use Rattle.laws.specs.Checks.{first_of, passes}
use Rattle.laws.proofs.CheckLaws.{chain}
use Rattle.number.specs.NumberLaws.{Bytes, bytes_drop, number_bound}
use Rattle.answer.specs.declared.Refusal.TheVariants.{BadMemoryMap}
use Rattle.laws.proofs.CheckLaws.{check_passed}
use Rattle.memory_map.specs.declared.Pair.{Pair}
use Rattle.memory_map.specs.Pairs.{base_offset, length_offset, kind_offset, size_at, next_offset, pair_offset}
use Rattle.memory_map.specs.Map.{max_map, min_pair_size, begins, pair_count, too_small, past_end, bad_map, map_checks, pair_at, first_pairs, map_of, max_pairs, no_pair, pair_no}
use Rattle.memory_map.specs.Parse.{parsed_map, pairs_read}
use Rattle.memory_map.specs.GoodMap.{Begins, GoodMap}

-- the first n pairs keep their rules: none is too small, and none runs past the end
pub record Whole (m : List ℕ) (n : ℕ) : Type 0 where
  pub large : (i : ℕ) → i < n → min_pair_size ≤ size_at m (pair_offset m i)
  pub within : (i : ℕ) → i < n → pair_offset m (suc i) ≤ length m

-- the rules of a map by the count of its pairs
pub record CountedMap (m : List ℕ) : Type 0 where
  pub some : 1 ≤ length m
  pub short : length m ≤ max_map
  pub few : pair_count m ≤ max_pairs
  pub whole : Whole m (pair_count m)

pub whole_zero : (m : List ℕ) → Whole m 0
whole_zero m = record { large = λ i l. absurd (omega arith); within = λ i l. absurd (omega arith) }

module _ (m : List ℕ) where
  -- a pair begins past the one before it
  pub pair_on : (i : ℕ) → pair_offset m i < pair_offset m (suc i)
  unfolding pair_offset next_offset
  pair_on i = omega arith

  index_low : (i : ℕ) → i ≤ pair_offset m i
  unfolding pair_offset
  index_low zero = omega arith
  index_low (suc i) = omega (arith, index_low i, pair_on i)

  pub begins_here : (i : ℕ) → pair_offset m i < length m → begins m i ≡ true
  unfolding begins
  begins_here i l = lt-ltb _ _ l

  begins_is : (i : ℕ) → begins m i ≡ true → pair_offset m i < length m
  unfolding begins
  begins_is i t = ltb-true _ _ t

  counted : Run (begins m) 0 (length m) (pair_count m)
  unfolding pair_count
  counted = run_says (begins m) 0 (length m)

  -- a pair counted begins before the end
  pub count_begins : (i : ℕ) → i < pair_count m → pair_offset m i < length m
  count_begins i l = begins_is i (counted.passed i (omega arith) (omega arith))

  -- no pair begins past the last
  pub count_end : length m ≤ pair_offset m (pair_count m)
  count_end =
      ⊎_elim
      (λ (l : pair_count m < length m).
      ⊎_elim
      (λ (u : pair_offset m (pair_count m) < length m).
      absurd (false≢true (sym (rw zero-add at (counted.next l)) ∙ begins_here (pair_count m) u)))
      (λ u. u)
      (lt_or_le (pair_offset m (pair_count m)) (length m)))
      (λ u. omega (arith, index_low (pair_count m)))
      (lt_or_le (pair_count m) (length m))

  -- a pair that is not broken is large enough and ends within the map
  pub unbroken : (at : ℕ) → too_small m at || past_end m at ≡ false → (min_pair_size ≤ size_at m at) × (next_offset m at ≤ length m)
  unfolding too_small past_end
  unbroken at t = (ltb-false _ _ (or_none_left (too_small m at) (past_end m at) t), ltb-false _ _ (or_none_right (too_small m at) (past_end m at) t))

  module _ (n : ℕ) (w : Whole m n) where
    -- one pair more
    pub whole_more : too_small m (pair_offset m n) || past_end m (pair_offset m n) ≡ false → Whole m (n + 1)
    unfolding pair_offset
    whole_more t =
        let u = unbroken (pair_offset m n) t in
        record {
          large = λ i l. ⊎_elim (λ (q : i ≡ n). rw q u.0) (w.large i) (eq-or-lt_of_le (le_of_suc-le-suc (rw add-one at l)));
          within = λ i l. ⊎_elim (λ (q : i ≡ n). rw q u.1) (w.within i) (eq-or-lt_of_le (le_of_suc-le-suc (rw add-one at l)));
        }

    -- whole pairs count
    pub whole_count : n ≤ pair_count m
    whole_count = ⊎_elim (λ l. absurd (omega (arith, w.within _ l, pair_on (pair_count m), count_end))) (λ l. l) (lt_or_le (pair_count m) n)

    -- a pair that begins behind them counts too
    pub whole_next : pair_offset m n < length m → n < pair_count m
    whole_next l = ⊎_elim (λ u. u) (λ (u : pair_count m ≤ n). let e : pair_count m ≡ n = omega (arith, whole_count) in absurd (omega (arith, ap (pair_offset m) e, count_end))) (lt_or_le n (pair_count m))

    -- with nothing behind them, they are all
    pub whole_all : length m ≤ pair_offset m n → pair_count m ≡ n
    whole_all l = ⊎_elim (λ u. absurd (omega (arith, count_begins n u))) (λ u. omega (arith, whole_count)) (lt_or_le n (pair_count m))

    -- what refuses a map
    pub broken_bad : pair_offset m n < length m → too_small m (pair_offset m n) || past_end m (pair_offset m n) ≡ true → bad_map m ≡ true
    unfolding bad_map
    broken_bad l t =
        let k = whole_next l in
        ⊎_elim
        (λ (q : too_small m (pair_offset m n) ≡ true). let h = any_here (λ i. too_small m (pair_offset m i)) (pair_count m) n k q in search chain depth 20)
        (λ (q : past_end m (pair_offset m n) ≡ true). let h = any_here (λ i. past_end m (pair_offset m i)) (pair_count m) n k q in search chain depth 20)
        (or_cases (too_small m (pair_offset m n)) (past_end m (pair_offset m n)) t)

  pub empty_bad : length m ≡ 0 → bad_map m ≡ true
  unfolding bad_map
  empty_bad e = search chain depth 20

  pub long_bad : max_map < length m → bad_map m ≡ true
  unfolding bad_map
  long_bad l = search chain depth 20

  pub many_bad : Whole m max_pairs → pair_offset m max_pairs < length m → bad_map m ≡ true
  unfolding bad_map
  many_bad w l = let h = lt-ltb _ _ (whole_next max_pairs w l) in search chain depth 20

  -- a map is not refused exactly where it keeps all its rules
  pub counted_good : CountedMap m → bad_map m ≡ false
  unfolding bad_map too_small past_end pair_offset
  counted_good g =
      let a : length m ≡ 0 → ⊥ = λ e. omega (arith, g.some) in
      let b = le-ltb max_map (length m) g.short in
      let c = le-ltb max_pairs (pair_count m) g.few in
      let d = any_none (λ i. too_small m (pair_offset m i)) (pair_count m) (λ i l. le-ltb _ _ (g.whole.large i l)) in
      let e = any_none (λ i. past_end m (pair_offset m i)) (pair_count m) (λ i l. le-ltb _ _ (g.whole.within i l)) in
      search chain depth 20

  pub good_counted : bad_map m ≡ false → CountedMap m
  unfolding bad_map too_small past_end pair_offset
  good_counted t =
      let a = eqb (length m) 0 in
      let b = ltb max_map (length m) in
      let c = ltb max_pairs (pair_count m) in
      let d = any (λ i. too_small m (pair_offset m i)) (pair_count m) in
      let e = any (λ i. past_end m (pair_offset m i)) (pair_count m) in
      let t2 = or_none_left (a || b || c || d) e t in
      let t1 = or_none_left (a || b || c) d t2 in
      let t0 = or_none_left (a || b) c t1 in
      let z : length m ≡ 0 → ⊥ = eqb-false (length m) 0 (or_none_left a b t0) in
      record {
        some = omega arith;
        short = ltb-false _ _ (or_none_right a b t0);
        few = ltb-false _ _ (or_none_right (a || b) c t1);
        whole = record {
          large = λ i l. ltb-false _ _ (none_any (λ i. too_small m (pair_offset m i)) (pair_count m) (or_none_right (a || b || c) d t2) i l);
          within = λ i l. ltb-false _ _ (none_any (λ i. past_end m (pair_offset m i)) (pair_count m) (or_none_right (a || b || c || d) e t) i l);
        };
      }

  -- a pair that begins before the end counts
  pair_order : (i k : ℕ) → pair_offset m i ≤ pair_offset m (i + k)
  pair_order i zero = let e : i + 0 ≡ i = omega arith in rw e (omega arith)
  pair_order i (suc k) = let e : i + suc k ≡ suc (i + k) = omega arith in rw e (omega (arith, pair_order i k, pair_on (i + k)))

  pub begins_count : (i : ℕ) → Begins m i → i < pair_count m
  begins_count i b =
      ⊎_elim
      (λ l. l)
      (λ (l : pair_count m ≤ i). let e : pair_count m + (i - pair_count m) ≡ i = omega arith in absurd (omega (arith, count_end, pair_order (pair_count m) (i - pair_count m), ap (pair_offset m) e)))
      (lt_or_le i (pair_count m))

  -- the rules of a map, as a test and pair by pair
  pub map_good_is : (bad_map m ≡ false) ↔ GoodMap m
  map_good_is = (
    λ t.
        let g = good_counted t in
        record {
          some = g.some;
          short = g.short;
          few = λ i b. omega (arith, begins_count i b, g.few);
          large = λ i b. g.whole.large i (begins_count i b);
          within = λ i b. g.whole.within i (begins_count i b);
        },
    λ g.
        counted_good
        (record {
          some = g.some;
          short = g.short;
          few = ⊎_elim (λ (l : max_pairs < pair_count m). absurd (omega (arith, g.few max_pairs (count_begins max_pairs l)))) (λ l. l) (lt_or_le max_pairs (pair_count m));
          whole = record { large = λ i l. g.large i (count_begins i l); within = λ i l. g.within i (count_begins i l) };
        }),
  )

  -- what reading a map answers
  pub parsed_bad : bad_map m ≡ true → parsed_map m ≡ Err BadMemoryMap
  unfolding parsed_map map_checks first_of
  parsed_bad t = rw t refl

  pub parsed_good : bad_map m ≡ false → parsed_map m ≡ Ok (map_of m)
  unfolding parsed_map map_checks first_of
  parsed_good t = rw t refl

  -- a map that is not refused by the order of checks is good
  pub load_good : passes (map_checks m) ≡ true → bad_map m ≡ false
  unfolding map_checks
  load_good h = (check_passed (bad_map m) BadMemoryMap [] h).0

  -- an accepted map has a pair, and its pairs fill it
  pub good_some : bad_map m ≡ false → 1 ≤ pair_count m
  unfolding pair_offset
  good_some t =
      let g = good_counted t in
      ⊎_elim (λ u. u) (λ (u : pair_count m ≤ 0). let e : pair_count m ≡ 0 = omega arith in absurd (omega (arith, g.some, ap (pair_offset m) e, count_end))) (lt_or_le 0 (pair_count m))

  pub good_fills : bad_map m ≡ false → pair_offset m (pair_count m) ≡ length m
  good_fills t =
      let s = good_some t in
      let e : suc (pair_count m - 1) ≡ pair_count m = omega arith in
      let h : pair_offset m (pair_count m) ≤ length m = rw e at ((good_counted t).whole.within (pair_count m - 1) (omega arith)) in
      omega (arith, count_end)

-- the entries of a map of n pairs
module _ (m : List ℕ) (n : ℕ) where
  -- the pair of an index stands where the steps before it lead
  pub pair_listed : (i : ℕ) → i < n → pair_no (first_pairs m n) i ≡ pair_at m (pair_offset m i)
  unfolding first_pairs
  pair_listed i l = table_at (λ j. pair_at m (pair_offset m j)) max_pairs no_pair n i l

  -- past the last the entries are zero
  pub pair_past : (i : ℕ) → n ≤ i → pair_no (first_pairs m n) i ≡ no_pair
  unfolding first_pairs
  pair_past i l = table_past (λ j. pair_at m (pair_offset m j)) max_pairs no_pair n i l

  pub length_pairs : n ≤ max_pairs → length (first_pairs m n).pairs ≡ max_pairs
  unfolding first_pairs
  length_pairs l = length_table (λ j. pair_at m (pair_offset m j)) max_pairs no_pair n l

-- the ranges of a pair's fields
pub record PairFits (p : Pair) : Type 0 where
  pub base : p.base < 2 ^ 64
  pub length : p.length < 2 ^ 64
  pub kind : p.kind < 2 ^ 32

pub pair_fits : (m : List ℕ) → Bytes m → (at : ℕ) → PairFits (pair_at m at)
unfolding pair_at
pair_fits m b at = record {
  base = number_bound 8 _ (bytes_drop (at + base_offset) m b);
  length = number_bound 8 _ (bytes_drop (at + length_offset) m b);
  kind = number_bound 4 _ (bytes_drop (at + kind_offset) m b);
}

pub pairs_fit : (m : List ℕ) → Bytes m → (n i : ℕ) → PairFits (pair_no (first_pairs m n) i)
pairs_fit m b n i =
    ⊎_elim
    (λ (l : i < n). rw (pair_listed m n i l) (pair_fits m b (pair_offset m i)))
    (λ (l : n ≤ i). rw (pair_past m n i l) (record { base = omega arith; length = omega arith; kind = omega arith }))
    (lt_or_le i n)

-- what reading a map gives, refused or not
module _ (m : List ℕ) where
  pub parsed_pairs : (pairs_read m).count ≤ max_pairs
  unfolding parsed_map first_pairs first_of map_checks
  parsed_pairs = ⊎_elim (λ (t : bad_map m ≡ true). rw t (omega arith)) (λ (t : bad_map m ≡ false). rw t (good_counted m t).few) (true_or_false (bad_map m))

  pub parsed_length : length (pairs_read m).pairs ≡ max_pairs
  unfolding parsed_map first_of map_checks
  parsed_length =
      ⊎_elim (λ (t : bad_map m ≡ true). rw t refl) (λ (t : bad_map m ≡ false). rw t (length_pairs m (pair_count m) (good_counted m t).few)) (true_or_false (bad_map m))

  pub parsed_fits : Bytes m → (i : ℕ) → PairFits (pair_no (pairs_read m) i)
  unfolding parsed_map first_of map_checks
  parsed_fits b i =
      ⊎_elim
      (λ (t : bad_map m ≡ true). rw (t, replicate_at max_pairs i no_pair) (record { base = omega arith; length = omega arith; kind = omega arith }))
      (λ (t : bad_map m ≡ false). rw t (pairs_fit m b (pair_count m) i))
      (true_or_false (bad_map m))
