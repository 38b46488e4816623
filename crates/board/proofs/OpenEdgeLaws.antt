-- Up to the nearest edge of a board all addresses are open, or none is.
--     open_edge_is, open_edge_at    the edge of the board is an edge of the open addresses, by name and as a call hands it over
-- Assumes nothing.
use Rattle.std.specs.Prelude.{◌≡◌}
use Prim.Native.Nat.{ℕ, ◌<◌}
use Rattle.std.proofs.Common.{arith}
use borrow.Author.Tests.{lt-ltb}
use Rattle.address.specs.Address.{inside}
use Rattle.edge.specs.Edge.{nearest}
use Rattle.edge.specs.EdgeLaws.{Edge, nearest_is}
use Rattle.usable.proofs.MapEdgeLaws.{map_edge_is}
use Rattle.board.specs.declared.Board.{Board}
use Rattle.board.specs.Open.{bios_data_end, is_open}
use Rattle.board.specs.OpenEdge.{open_edge}

module _ (b : Board) (x : ℕ) (l : x < b.window.end.0) where
  pub open_edge_is : Edge (is_open b) x b.window.end.0 (open_edge b x)
  unfolding is_open open_edge inside
  open_edge_is =
      let e : ℕ = b.window.end.0 in
      let w : ℕ = nearest x e b.window.start.0 in
      let p = nearest_is x e b.window.start.0 l in
      let d = nearest_is x w bios_data_end p.past in
      let q = map_edge_is b.map x (nearest x w bios_data_end) d.past in
      record {
        past = q.past;
        near = omega arith;
        same = λ y u v. rw (q.same y u v, p.same y u (omega arith), d.same y u (omega arith), lt-ltb y e (omega arith), lt-ltb x e l);
      }

  pub open_edge_at : (r : ℕ) → r ≡ open_edge b x → Edge (is_open b) x b.window.end.0 r
  open_edge_at r q = rw q open_edge_is
