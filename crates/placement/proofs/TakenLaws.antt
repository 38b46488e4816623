-- What is asked of the spans taken one after the other is what is asked of those below the count.
--     is_taken_lem             some span taken holds the address
--     further, taken_edge_lem  the nearest edge with one span more, and of all spans taken
-- Assumes nothing.
use Rattle.std.specs.Prelude.{◌≡◌, refl, false, ℕ, zero, suc, ◌<◌, ◌≤◌, take, length, fold}
use Rattle.std.specs.List.{list_any}
use Rattle.std.proofs.Common.{ap, ◌∙◌, ⊎_elim, arith, le-ltb}
use Rattle.std.proofs.Math.Bool.{or-false, and-false}
use Rattle.std.proofs.Math.ListN.{get_or-eq_default}
use Rattle.std.proofs.Math.Numerals.{add-one}
use Rattle.std.proofs.lemmas.List.{take_all}
use Rattle.std.proofs.lemmas.List.Sums.{fold_more}
use Rattle.std.proofs.lemmas.List.Folds.{list_any_more}
use Rattle.laws.specs.Tests.{any}
use Rattle.laws.proofs.TestLaws.{lt_or_le}
use Rattle.address.specs.Address.{inside}
use Rattle.address.specs.declared.PhysAddr.{PhysAddr}
use Rattle.address.specs.declared.Span.{Span}
use Rattle.address.specs.Span.{no_span, span_no}
use Rattle.edge.specs.Edge.{nearest, span_edge, edge_up_to}
use Rattle.placement.specs.declared.Spans.{Spans}
use Rattle.placement.specs.Free.{taken_by, is_taken}
use Rattle.placement.specs.FreeEdge.{taken_edge}

-- a span past the end of the array is of zeros, which nothing lies in
module _ (t : Spans) (a : ℕ) where
  nowhere : inside 0 0 a ≡ false
  unfolding inside
  nowhere = rw (le-ltb a 0 (omega arith), and-false)

  any_taken : (n : ℕ) → list_any (λ (s : Span). inside s.start.0 s.end.0 a) (take n t.list) ≡ any (taken_by t a) n
  unfolding any taken_by
  any_taken zero = refl
  any_taken (suc n) =
      let holds = λ (s : Span). inside s.start.0 s.end.0 a in
      ⊎_elim
      (λ (l : n < length t.list). rw (← add-one, list_any_more holds t.list n no_span l, any_taken n))
      (λ (l : length t.list ≤ n).
      let m : length t.list ≤ suc n = omega arith in
      rw (take_all (suc n) t.list m, get_or-eq_default t.list no_span l, nowhere, or-false) (rw (take_all n t.list l) at (any_taken n)))
      (lt_or_le n (length t.list))

  pub is_taken_lem : list_any (λ (s : Span). inside s.start.0 s.end.0 a) (take t.count t.list) ≡ is_taken t a
  unfolding is_taken
  is_taken_lem = any_taken t.count

-- the nearest edge with one span more
abbrev pub further : ℕ → PhysAddr → Span → PhysAddr
further x f s = record { 0 = span_edge s.start.0 s.end.0 x f.0 }

-- and which has no edge
module _ (t : Spans) (x : ℕ) (e : PhysAddr) where
  no_edge : (f : ℕ) → span_edge 0 0 x f ≡ f
  unfolding span_edge nearest
  no_edge f = rw (le-ltb x 0 (omega arith))

  fold_edges : (n : ℕ) → (fold (further x) e (take n t.list)).0 ≡ edge_up_to (λ i. (span_no t.list i).start.0) (λ i. (span_no t.list i).end.0) x e.0 n
  unfolding edge_up_to
  fold_edges zero = refl
  fold_edges (suc n) =
      ⊎_elim
      (λ (l : n < length t.list). ap (λ (f : PhysAddr). f.0) (rw add-one at (fold_more (further x) e t.list n no_span l)) ∙ ap (span_edge _ _ x) (fold_edges n))
      (λ (l : length t.list ≤ n).
      let m : length t.list ≤ suc n = omega arith in
      rw (take_all (suc n) t.list m, get_or-eq_default t.list no_span l, no_edge) (rw (take_all n t.list l) at (fold_edges n)))
      (lt_or_le n (length t.list))

  pub taken_edge_lem : (r : PhysAddr) → r ≡ fold (further x) e (take t.count t.list) → r.0 ≡ taken_edge t x e.0
  unfolding taken_edge
  taken_edge_lem r h = rw h (fold_edges t.count)
