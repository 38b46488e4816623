-- Up to the nearest edge all addresses are free, or none is.
--     taken_edge_is                 for the spans taken
--     free_edge_is, free_edge_at    for free memory, by name and as a call hands it over
--     free_end                      from the window's end on no address is free
-- Assumes nothing.
use Rattle.std.specs.Prelude.{◌≡◌, false, ℕ, ◌≤◌, ◌<◌}
use Rattle.std.proofs.Common.{arith}
use Rattle.laws.proofs.TestLaws.{any_same}
use Rattle.address.specs.Span.{span_no}
use Rattle.edge.specs.EdgeLaws.{Edge, edges_are}
use Rattle.board.specs.declared.Board.{Board}
use Rattle.board.specs.Open.{is_open}
use Rattle.board.proofs.OpenLaws.{open_end}
use Rattle.board.specs.OpenEdge.{open_edge}
use Rattle.board.proofs.OpenEdgeLaws.{open_edge_is}
use Rattle.placement.specs.declared.Spans.{Spans}
use Rattle.placement.specs.Free.{taken_by, is_taken, is_free}
use Rattle.placement.specs.FreeEdge.{taken_edge, free_edge}

pub taken_edge_is : (t : Spans) (x e : ℕ) → x < e → Edge (is_taken t) x e (taken_edge t x e)
unfolding is_taken taken_by taken_edge
taken_edge_is t x e l =
    let h = edges_are (λ i. (span_no t.list i).start.0) (λ i. (span_no t.list i).end.0) x e l t.count in
    record { past = h.past; near = h.near; same = λ y u v. any_same _ _ t.count (λ i n. h.same i n y u v) }

module _ (b : Board) (t : Spans) (x : ℕ) where
  pub free_end : b.window.end.0 ≤ x → is_free (is_open b) t x ≡ false
  unfolding is_free
  free_end l = rw (open_end b x l)

  module _ (l : x < b.window.end.0) where
    pub free_edge_is : Edge (is_free (is_open b) t) x b.window.end.0 (free_edge b t x)
    unfolding is_free free_edge
    free_edge_is =
        let p = open_edge_is b x l in
        let q = taken_edge_is t x (open_edge b x) p.past in
        record { past = q.past; near = omega arith; same = λ y u v. rw (p.same y u (omega arith), q.same y u v) }

    pub free_edge_at : (r : ℕ) → r ≡ free_edge b t x → Edge (is_free (is_open b) t) x b.window.end.0 r
    free_edge_at r e = rw e free_edge_is
