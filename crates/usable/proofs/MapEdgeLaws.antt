-- Up to the nearest edge of a map all addresses are usable, or none is.
--     map_edge_is, map_edge_at    the edge of the map is an edge of the usable addresses, by name and as a call hands it over
-- Assumes nothing.
use Rattle.std.specs.Prelude.{◌≡◌, Bool, ◌&&◌, ℕ, ◌+◌, ◌<◌, leb}
use Rattle.std.proofs.Math.Path.{ap}
use Rattle.std.proofs.Math.Bool.{not}
use Rattle.std.proofs.Common.{arith}
use Rattle.std.proofs.Math.Dec.{ltb, eqb}
use Rattle.laws.specs.Tests.{any}
use Rattle.laws.proofs.TestLaws.{any_same}
use Rattle.edge.specs.Edge.{nearest}
use Rattle.edge.specs.EdgeLaws.{Edge, Edges, nearest_is, ltb_not, edges_are}
use Rattle.memory_map.specs.declared.MemoryMap.{MemoryMap}
use Rattle.memory_map.specs.Map.{pair_no}
use Rattle.usable.specs.Usable.{ram, address_space, covers, usable_by, barred_by, is_usable}
use Rattle.usable.specs.MapEdge.{map_edge}

module _ (m : MemoryMap) (x y k : ℕ) (h : (i : ℕ) → i < k → covers (pair_no m i) y ≡ covers (pair_no m i) x) where
  same_usable : any (usable_by m y) k ≡ any (usable_by m x) k
  unfolding usable_by
  same_usable = any_same _ _ k (λ i l. ap (λ (b : Bool). eqb (pair_no m i).kind ram && b) (h i l))

  same_barred : any (barred_by m y) k ≡ any (barred_by m x) k
  unfolding barred_by
  same_barred = any_same _ _ k (λ i l. ap (λ (b : Bool). not (eqb (pair_no m i).kind ram) && b) (h i l))

module _ (m : MemoryMap) (x e : ℕ) (l : x < e) where
  -- addresses end at 2^32, which is an edge too
  ends_same : Edge (leb address_space) x e (nearest x e address_space)
  ends_same = nearest_is x e address_space l

  covered_same : Edges (λ i. covers (pair_no m i)) m.count x (nearest x e address_space) (map_edge m x e)
  unfolding covers map_edge
  covered_same = edges_are (λ i. (pair_no m i).base) (λ i. (pair_no m i).base + (pair_no m i).length) x (nearest x e address_space) ends_same.past m.count

  pub map_edge_is : Edge (is_usable m) x e (map_edge m x e)
  unfolding is_usable
  map_edge_is =
      let g = ends_same in
      let h = covered_same in
      record {
        past = h.past;
        near = omega arith;
        same = λ y u v.
            let s : ltb y address_space ≡ ltb x address_space = rw (ltb_not y address_space, ltb_not x address_space) (ap not (g.same y u (omega arith))) in
            rw (s, same_usable m x y m.count (λ i n. h.same i n y u v), same_barred m x y m.count (λ i n. h.same i n y u v));
      }

  pub map_edge_at : (r : ℕ) → r ≡ map_edge m x e → Edge (is_usable m) x e r
  map_edge_at r q = rw q map_edge_is
