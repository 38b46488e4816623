-- Up to the nearest edge past x a test of addresses answers as at x.
--     Edge, Edges                 the edge of a test, and of the tests 0 to k - 1
--     nearest_is, span_edge_is    the nearest edge of a span is an edge of lying in it
--     edges_are                   the same for each of several spans
--     edge_none, edge_more        no span, and one span more, as a loop counts
-- Assumes nothing.
use Rattle.std.specs.Prelude.{◌≡◌, Bool, not, leb, ltb}
use Rattle.std.proofs.Math.Path.{refl}
use Rattle.std.proofs.Common.{sym, ap, ◌∙◌, eq-or-lt_of_le, le-leb, lt-ltb, le-ltb, leb-true, leb-false}
use Rattle.std.proofs.Math.Bool.{and-false}
use Rattle.std.proofs.Math.Logic.{⊎_elim}
use Prim.Native.Nat.{ℕ, zero, suc, ◌+◌, ◌≤◌, ◌<◌}
use native.Mathlib.Omega.{arith}
use Rattle.std.proofs.Math.Numerals.{add-one}
use Rattle.std.proofs.lemmas.Bool.{lt-leb}
use borrow.Author.Count.{below_more}
use Rattle.laws.proofs.TestLaws.{true_or_false, lt_or_le}
use Rattle.address.specs.Address.{inside}
use Rattle.edge.specs.Edge.{nearest, span_edge, edge_up_to}

-- r lies past x and not past e, and from x up to it the test f answers as at x
pub record Edge (f : ℕ → Bool) (x e r : ℕ) : Type 0 where
  pub past : x < r
  pub near : r ≤ e
  pub same : (y : ℕ) → x ≤ y → y < r → f y ≡ f x

-- the same for each of the tests g 0 to g (k - 1)
pub record Edges (g : ℕ → ℕ → Bool) (k x e r : ℕ) : Type 0 where
  pub past : x < r
  pub near : r ≤ e
  pub same : (i : ℕ) → i < k → (y : ℕ) → x ≤ y → y < r → g i y ≡ g i x

-- whether an address has come to v changes at v alone
pub nearest_is : (x e v : ℕ) → x < e → Edge (leb v) x e (nearest x e v)
unfolding nearest
nearest_is x e v l =
    ⊎_elim
    (λ p. ⊎_elim
    (λ q. rw (lt-ltb x v p, lt-ltb v e q) (record { past = p; near = omega arith; same = λ y u m. lt-leb v y m ∙ sym (lt-leb v x p) }))
    (λ q. rw (le-ltb v e q, and-false) (record { past = l; near = omega arith; same = λ y u m. lt-leb v y (omega arith) ∙ sym (lt-leb v x p) }))
    (lt_or_le v e))
    (λ p. rw (le-ltb x v p) (record { past = l; near = omega arith; same = λ y u m. le-leb v y (omega arith) ∙ sym (le-leb v x p) }))
    (lt_or_le x v)

-- to be below b is not to have come to b
pub ltb_not : (a b : ℕ) → ltb a b ≡ not (leb b a)
ltb_not a b =
    ⊎_elim (λ t. le-ltb a b (leb-true b a t) ∙ sym (ap not t)) (λ t. lt-ltb a b (leb-false b a t) ∙ sym (ap not t)) (true_or_false (leb b a))

pub span_edge_is : (start end x e : ℕ) → x < e → Edge (inside start end) x e (span_edge start end x e)
unfolding inside span_edge
span_edge_is start end x e l =
    let p = nearest_is x e start l in
    let q = nearest_is x (nearest x e start) end p.past in
    record {
      past = q.past;
      near = omega arith;
      same = λ y u m. rw (p.same y u (omega arith), ltb_not y end, q.same y u m, ← ltb_not x end);
    }

-- an empty span at 0 has no edge past an address
empty_edge : (x e : ℕ) → span_edge 0 0 x e ≡ e
unfolding span_edge nearest
empty_edge x e = rw (le-ltb x 0 (omega arith))

module _ (start end : ℕ → ℕ) (x e : ℕ) where
  -- where all spans from n on are empty, the first n have the edges
  pub edges_past : (n k : ℕ) → n ≤ k → ((i : ℕ) → n ≤ i → i < k → (start i ≡ 0) × (end i ≡ 0)) → edge_up_to start end x e k ≡ edge_up_to start end x e n
  unfolding edge_up_to
  edges_past n zero l h = let z : n ≡ 0 = omega arith in rw z
  edges_past n (suc k) l h =
      ⊎_elim
      (λ (z : n ≡ suc k). rw z)
      (λ (m : n < suc k). rw ((h k (omega arith) (omega arith)).0, (h k (omega arith) (omega arith)).1, empty_edge) (edges_past n k (omega arith) (λ i u v. h i u (omega arith))))
      (eq-or-lt_of_le l)

  pub edge_none : edge_up_to start end x e 0 ≡ e
  unfolding edge_up_to
  edge_none = refl

  pub edge_more : (k : ℕ) → edge_up_to start end x e (k + 1) ≡ span_edge (start k) (end k) x (edge_up_to start end x e k)
  unfolding edge_up_to
  edge_more k = rw add-one

  pub edges_are : x < e → (k : ℕ) → Edges (λ i. inside (start i) (end i)) k x e (edge_up_to start end x e k)
  unfolding edge_up_to
  edges_are l zero = record { past = l; near = omega arith; same = λ i m. absurd (omega arith) }
  edges_are l (suc k) =
      let p = edges_are l k in
      let q = span_edge_is (start k) (end k) x (edge_up_to start end x e k) p.past in
      record {
        past = q.past;
        near = omega arith;
        same = λ i m y u v.
            below_more (λ (j : ℕ). inside (start j) (end j) y ≡ inside (start j) (end j) x) k (λ j n. p.same j n y u (omega arith)) (q.same y u v) i (omega arith);
      }
