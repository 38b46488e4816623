-- Rounding up gives the lowest multiple of the boundary that is not below the address, for every boundary above 0.
--     Rounded, rounded    what rounding gives, and that it does
--     next_multiple       the library's word for the same number
--     boundary_some       every boundary is above 0 and at most a page
-- Assumes nothing.
use Rattle.std.specs.Prelude.{◌≡◌, refl, Bool, ℕ, ◌+◌, ◌-◌, ◌*◌, ◌/◌, ◌%◌, ◌≤◌, ◌<◌, eqb}
use Rattle.std.proofs.Math.Path.{ap}
use Rattle.std.proofs.Common.{◌∙◌, lt_of_mul-lt-mul_right, mul-le-mul_right, suc-mul}
use Rattle.std.proofs.Math.Bool.{true, false}
use Rattle.std.proofs.Math.Nat.{div-add-mod', mod-lt, mod_self, mod-eq_of_lt, mul-add-mod_self_right}
use Rattle.std.specs.Int.{next_multiple_of}
use Rattle.std.proofs.lemmas.Bool.Decides.{nat_tests}
use native.Mathlib.Omega.{arith}
use borrow.Author.Tests.{eqb-true, eqb-false}
use Rattle.address.specs.Address.{page, boundary_of, round_up}

-- r is the lowest multiple of b that is not below a
pub record Rounded (a b r : ℕ) : Type 0 where
  pub low : a ≤ r
  pub near : r < a + b
  pub multiple : r % b ≡ 0
  pub lowest : (s : ℕ) → a ≤ s → s % b ≡ 0 → r ≤ s

module _ (a b : ℕ) (pos : 0 < b) where
  -- behind q * b the next multiple is q * b + b
  none_between : (q s : ℕ) → q * b < s → s % b ≡ 0 → q * b + b ≤ s
  none_between q s l e =
      let d : s / b * b ≡ s = omega (arith, div-add-mod' s b) in
      let m : q < s / b = lt_of_mul-lt-mul_right b (omega arith) in
      omega (arith, mul-le-mul_right b m, suc-mul q b)

  by_test : (t : Bool) → eqb (a % b) 0 ≡ t → Rounded a b (round_up a b)
  unfolding round_up
  by_test true e =
      rw e (record { low = omega arith; near = omega arith; multiple = eqb-true _ _ e; lowest = λ s l m. l })
  by_test false e =
      let ne : a % b ≡ 0 → ⊥ = eqb-false _ _ e in
      let d : a / b * b + a % b ≡ a = div-add-mod' a b in
      let m : a % b < b = mod-lt a pos in
      let n : a + (b - a % b) ≡ a / b * b + b = omega arith in
      rw e
      (record {
        low = omega arith;
        near = omega arith;
        multiple = ap (λ (x : ℕ). x % b) n ∙ (mul-add-mod_self_right (a / b) b b ∙ mod_self b);
        lowest = λ s l z. omega (arith, none_between (a / b) s (omega arith) z);
      })

pub rounded : (a b : ℕ) → 0 < b → Rounded a b (round_up a b)
rounded a b pos = by_test a b pos (eqb (a % b) 0) refl

pub next_multiple : (a b : ℕ) → 0 < b → next_multiple_of a b ≡ round_up a b
unfolding round_up
next_multiple a b pos = grind (arith, nat_tests, mod-lt, mod_self, mod-eq_of_lt)

pub boundary_some : (pages : Bool) → (0 < boundary_of pages) × (boundary_of pages ≤ page)
boundary_some true = (omega arith, omega arith)
boundary_some false = (omega arith, omega arith)
