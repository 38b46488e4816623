-- Lying in a span, and sharing an address, in propositions.
--     inside_is                                 the test is true exactly there
--     both_overlap, overlap_is, overlap_none    two spans share an address exactly where the test is true
-- Assumes nothing.
use Rattle.std.specs.Prelude.{◌≡◌, true, false, ◌↔◌, ℕ, ◌≤◌, ◌<◌, max, leb, ltb}
use Rattle.std.proofs.Common.{sym, ◌∙◌, arith, lt-ltb, ltb-true, le-leb, leb-true}
use Rattle.std.proofs.lemmas.Bool.{false≢true}
use Rattle.laws.proofs.TestLaws.{and_left, and_right}
use Rattle.address.specs.declared.Span.{Span}
use Rattle.address.specs.Address.{inside}
use Rattle.address.specs.Span.{overlap, Holds}

pub inside_is : (start end a : ℕ) → (inside start end a ≡ true) ↔ ((start ≤ a) × (a < end))
unfolding inside
inside_is start end a = (
  λ e. (leb-true start a (and_left (leb start a) (ltb a end) e), ltb-true a end (and_right (leb start a) (ltb a end) e)),
  λ h. rw (le-leb start a h.0, lt-ltb a end h.1),
)

-- an address of both shows that they share one
pub both_overlap : (s t : Span) (a : ℕ) → Holds s a → Holds t a → overlap s t ≡ true
unfolding overlap
both_overlap s t a h k = rw (lt-ltb s.start.0 t.end.0 (omega arith), lt-ltb t.start.0 s.end.0 (omega arith))

-- the greater of the starts belongs to both
pub overlap_is : (s t : Span) → s.start.0 < s.end.0 → t.start.0 < t.end.0 → (overlap s t ≡ true) ↔ ((a : ℕ) × Holds s a × Holds t a)
unfolding overlap
overlap_is s t u v = (
  λ e.
      let l = ltb-true s.start.0 t.end.0 (and_left (ltb s.start.0 t.end.0) (ltb t.start.0 s.end.0) e) in
      let m = ltb-true t.start.0 s.end.0 (and_right (ltb s.start.0 t.end.0) (ltb t.start.0 s.end.0) e) in
      (max s.start.0 t.start.0, (omega arith, omega arith), (omega arith, omega arith)),
  λ h. both_overlap s t h.0 h.1 h.2,
)

-- no address belongs to both where the test is false
pub overlap_none : (s t : Span) → overlap s t ≡ false → (a : ℕ) → Holds s a → Holds t a → ⊥
overlap_none s t e a h k = false≢true (sym e ∙ both_overlap s t a h k)
