-- What a search for the lowest offset with a property answers.
--     Answers       what an answer says of all offsets
--     one_answer    there is one such answer
-- Assumes nothing.
use Rattle.std.specs.Prelude.{◌≡◌, ℕ, ◌<◌, ◌≤◌, refl, Option, Some, None}
use Rattle.std.proofs.Common.{ap, ⊎_elim, arith}
use Rattle.laws.proofs.TestLaws.{lt_or_le}
use Rattle.address.specs.declared.ImageOffset.{ImageOffset}

abbrev pub Answers : (ℕ → Type 0) → Option ImageOffset → Type 0
Answers P None = (o : ℕ) → P o → ⊥
Answers P (Some o) = P o.0 × ((p : ℕ) → p < o.0 → P p → ⊥)

module _ (P : ℕ → Type 0) where
  pub one_answer : (r s : Option ImageOffset) → Answers P r → Answers P s → r ≡ s
  one_answer None None h g = refl
  one_answer None (Some o) h g = absurd (h o.0 g.0)
  one_answer (Some o) None h g = absurd (g o.0 h.0)
  one_answer (Some o) (Some p) h g =
      let l : o.0 ≤ p.0 = ⊎_elim (λ m. absurd (h.1 p.0 m g.0)) (λ m. m) (lt_or_le p.0 o.0) in
      let m : p.0 ≤ o.0 = ⊎_elim (λ m. absurd (g.1 o.0 m h.0)) (λ m. m) (lt_or_le o.0 p.0) in
      let e : o.0 ≡ p.0 = omega arith in
      ap (λ (n : ℕ). Some (record { 0 = n })) e
