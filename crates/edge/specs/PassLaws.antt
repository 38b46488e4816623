-- What a walk from edge to edge has passed, as long as the test holds.
--     AllPass                each address from a up to x passes the test
--     pass_start, pass_on    a walk begins, and goes on to the next edge
-- Assumes nothing.
use Rattle.std.specs.Prelude.{◌≡◌, Bool, true, ℕ, ◌≤◌, ◌<◌}
use Rattle.std.proofs.Common.{◌∙◌, ⊎_elim, arith}
use Rattle.laws.proofs.TestLaws.{lt_or_le}
use Rattle.edge.specs.EdgeLaws.{Edge}

pub record AllPass (f : ℕ → Bool) (a x : ℕ) : Type 0 where
  pub from : a ≤ x
  pub all : (y : ℕ) → a ≤ y → y < x → f y ≡ true

pub pass_start : (f : ℕ → Bool) (a : ℕ) → AllPass f a a
pass_start f a = record { from = omega arith; all = λ y l m. absurd (omega arith) }

pub pass_on : (f : ℕ → Bool) (a x : ℕ) {e r : ℕ} → AllPass f a x → Edge f x e r → f x ≡ true → AllPass f a r
pass_on f a x h g t =
    record {
      from = omega arith;
      all = λ y l m. ⊎_elim (λ lt. h.all y l lt) (λ le. g.same y le m ∙ t) (lt_or_le y x);
    }
