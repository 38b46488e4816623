-- What a scan of the pairs has shown of the address a after i of them.
--     usable_covered, usable_missed    the pair i is of usable memory and covers a; it does not cover a
--     usable_barred, usable_end        the pair i is of another type and covers a; no pair is left
--     usable_above                     the address is not below 2^32
--     pair_there                       the pair at a place of those that are there
--     with_pair, fold_more_pair        the edge of one pair more, and a fold of it
--     edge_end                         the nearest edge of all pairs
-- Assumes nothing.
use mathlib.Core.Path.{◌≡◌, refl, sym, ap, ◌∙◌}
use mathlib.Core.Bool.{Bool, true, false, ◌&&◌, and-true, and-false, or-true, or-false}
use Prim.Native.Nat.{ℕ, ◌+◌, ◌≤◌, ◌<◌, min}
use native.Mathlib.Omega.{arith}
use borrow.Author.Tests.{lt-ltb, le-ltb, eq-eqb, ne_eqb}
use lib.Dec.{ltb}
use Rattle.std.proofs.Common.{List, [], ◌∷◌, ◌++◌, length, take, fold, zero, suc, get_or}
use Rattle.std.proofs.lemmas.List.{length-take, get_or-take, take_min}
use Rattle.std.proofs.lemmas.List.Sums.{fold_more, fold_push}
use Rattle.std.proofs.Math.Numerals.{add-one}
use lib.ListN.{get_or-eq_default}
use Rattle.laws.specs.Tests.{any}
use Rattle.laws.proofs.TestLaws.{any_more, any_here, any_past}
use Rattle.address.specs.Address.{inside}
use Rattle.edge.specs.Edge.{nearest, span_edge, edge_up_to}
use Rattle.edge.specs.EdgeLaws.{edges_past}
use Rattle.memory_map.specs.declared.MemoryMap.{MemoryMap}
use Rattle.memory_map.specs.declared.Pair.{Pair}
use Rattle.memory_map.specs.Map.{no_pair, pair_no}
use Rattle.usable.specs.Usable.{ram, address_space, covers, usable_by, barred_by, is_usable}
use Rattle.usable.specs.MapEdge.{map_edge}

-- the edge of one pair more
abbrev pub with_pair : ℕ → ℕ → Pair → ℕ
with_pair x f p = span_edge p.base (p.base + p.length) x f

-- what is known after i pairs, none of another type having covered the address
pub record Scanned (m : MemoryMap) (a i : ℕ) (found : Bool) : Type 0 where
  pub within : i ≤ m.count
  pub some : found ≡ any (usable_by m a) i
  pub none : any (barred_by m a) i ≡ false

-- a place of the pairs that are there is a place of the array
pub pair_there : (m : MemoryMap) (ps : List Pair) (i : ℕ) → ps ≡ take m.count m.pairs → i < length ps → (i < m.count) × (get_or ps i no_pair ≡ pair_no m i)
pair_there m ps i e l =
    let h : i < m.count = omega (arith, length-take m.count m.pairs, ap length e) in
    (h, rw (e, get_or-take m.count m.pairs i no_pair h) refl)

pub usable_above : (m : MemoryMap) (a : ℕ) → address_space ≤ a → false ≡ is_usable m a
unfolding is_usable
usable_above m a l = rw (le-ltb a address_space l)

module _ (m : MemoryMap) (a i : ℕ) where
  -- past the array's end no pair covers an address
  past_covers : (j : ℕ) → length m.pairs ≤ j → covers (pair_no m j) a ≡ false
  unfolding covers inside
  past_covers j l = rw (get_or-eq_default m.pairs no_pair l, le-ltb a 0 (omega arith), and-false)

  past_usable : (j : ℕ) → length m.pairs ≤ j → usable_by m a j ≡ false
  unfolding usable_by
  past_usable j l = rw (past_covers j l, and-false)

  past_barred : (j : ℕ) → length m.pairs ≤ j → barred_by m a j ≡ false
  unfolding barred_by
  past_barred j l = rw (past_covers j l, and-false)

  -- so that the pairs that are there decide
  pub usable_end : (found : Bool) → a < address_space → length (take m.count m.pairs) ≤ i → Scanned m a i found → found ≡ is_usable m a
  unfolding is_usable
  usable_end found l e h =
      let past : (j : ℕ) → i ≤ j → j < m.count → length m.pairs ≤ j = λ j u v. omega (arith, length-take m.count m.pairs) in
      let p : any (usable_by m a) m.count ≡ found = any_past (usable_by m a) i m.count h.within (λ j u v. past_usable j (past j u v)) ∙ sym h.some in
      let q : any (barred_by m a) m.count ≡ false = any_past (barred_by m a) i m.count h.within (λ j u v. past_barred j (past j u v)) ∙ h.none in
      rw (lt-ltb a address_space l, p, q) (sym (and-true found))

  module _ (u : (pair_no m i).kind ≡ ram) where
    by_usable : covers (pair_no m i) a ≡ true → usable_by m a i ≡ true
    unfolding usable_by
    by_usable v = rw (eq-eqb _ _ u, v)

    not_barred : barred_by m a i ≡ false
    unfolding barred_by
    not_barred = rw (eq-eqb _ _ u)

    pub usable_covered : (found : Bool) → i < m.count → covers (pair_no m i) a ≡ true → Scanned m a i found → Scanned m a (i + 1) true
    usable_covered found l v h =
        record {
          within = omega arith;
          some = sym (rw (any_more, by_usable v, or-true));
          none = rw (any_more, h.none, not_barred);
        }

  by_barred : ((pair_no m i).kind ≡ ram → ⊥) → covers (pair_no m i) a ≡ true → barred_by m a i ≡ true
  unfolding barred_by
  by_barred u v = rw (ne_eqb _ _ u, v)

  pub usable_barred : i < m.count → ((pair_no m i).kind ≡ ram → ⊥) → covers (pair_no m i) a ≡ true → false ≡ is_usable m a
  unfolding is_usable
  usable_barred l u v =
      let h : any (barred_by m a) m.count ≡ true = any_here (barred_by m a) m.count i l (by_barred u v) in
      rw h (sym (and-false (ltb a address_space && any (usable_by m a) m.count)))

  module _ (v : covers (pair_no m i) a ≡ false) where
    missed : (usable_by m a i ≡ false) × (barred_by m a i ≡ false)
    unfolding usable_by barred_by
    missed = (rw (v, and-false), rw (v, and-false))

    pub usable_missed : (found : Bool) → i < m.count → Scanned m a i found → Scanned m a (i + 1) found
    usable_missed found l h =
        record {
          within = omega arith;
          some = h.some ∙ sym (rw (any_more, missed.0, or-false));
          none = rw (any_more, h.none, missed.1);
        }

-- folding over one pair more
pub fold_more_pair : (x f : ℕ) (ps : List Pair) (p : Pair) (a b : ℕ) → a ≡ fold (with_pair x) f ps → b ≡ span_edge p.base (p.base + p.length) x a → b ≡ fold (with_pair x) f (ps ++ (p ∷ []))
fold_more_pair x f ps p a b h g = rw (fold_push, ← h) g

-- folding over the pairs that are there comes to the nearest edge of all
module _ (m : MemoryMap) (x f : ℕ) where
  fold_edges : (k : ℕ) → k ≤ length m.pairs → fold (with_pair x) f (take k m.pairs) ≡ edge_up_to (λ j. (pair_no m j).base) (λ j. (pair_no m j).base + (pair_no m j).length) x f k
  unfolding edge_up_to
  fold_edges zero l = refl
  fold_edges (suc k) l = rw add-one at (fold_more (with_pair x) f m.pairs k no_pair (omega arith)) ∙ ap (span_edge _ _ x) (fold_edges k (omega arith))

  pub edge_end : (e r : ℕ) → f ≡ nearest x e address_space → r ≡ fold (with_pair x) f (take m.count m.pairs) → r ≡ map_edge m x e
  unfolding map_edge
  edge_end e r h g =
      let n : ℕ = min m.count (length m.pairs) in
      let past : (j : ℕ) → n ≤ j → j < m.count → pair_no m j ≡ no_pair = λ j u v. get_or-eq_default m.pairs no_pair (omega arith) in
      let all = edges_past (λ j. (pair_no m j).base) (λ j. (pair_no m j).base + (pair_no m j).length) x f n m.count (omega arith) (λ j u v. (ap (λ (p : Pair). p.base) (past j u v), ap (λ (p : Pair). p.base + p.length) (past j u v))) in
      rw (g, ← take_min m.count m.pairs, fold_edges n (omega arith), ← h) (sym all)
