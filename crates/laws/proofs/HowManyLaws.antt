-- Laws of how many numbers have a property.
--     passing_how_many    the numbers that pass a test are those that have the property it stands for
--     how_many_one        there is one such count
-- Assumes nothing.
use Rattle.std.specs.Prelude.{◌≡◌, Bool, true, ◌↔◌, ℕ, zero, suc, ◌≤◌, ◌<◌, length, get_or}
use Rattle.std.proofs.Common.{ap, ⊎_elim, eq-or-lt_of_le, arith}
use Rattle.laws.proofs.TestLaws.{lt_or_le}
use Rattle.laws.specs.Passing.{passing}
use Rattle.laws.proofs.PassingLaws.{passing_at, passing_rising, passing_every}
use Rattle.laws.specs.HowMany.{HowMany}

pub passing_how_many : (f : ℕ → Bool) (P : ℕ → Type 0) (n : ℕ) → ((k : ℕ) → (f k ≡ true) ↔ P k) → HowMany P n (length (passing f n))
passing_how_many f P n is =
    record {
      number = λ i. get_or (passing f n) i 0;
      has = λ i l. let r = passing_at f n i l in (r.0, (is (get_or (passing f n) i 0)).0 r.1);
      rising = λ i j l m. omega (arith, passing_rising f n i j l m);
      every = λ k l p. passing_every f n k l ((is k).1 p);
    }

module _ (P : ℕ → Type 0) (n c d : ℕ) (a : HowMany P n c) (b : HowMany P n d) where
  -- the place in b of the number that stands at i in a
  abbrev place : (i : ℕ) → i < c → (j : ℕ) × (j < d) × (b.number j ≡ a.number i)
  place i l = b.every (a.number i) (a.has i l).0 (a.has i l).1

  -- a later number has a later place
  later : (i j : ℕ) (l : i < c) (m : j < c) → i < j → (place i l).0 < (place j m).0
  later i j l m u =
      let e = (place i l).2 in
      let f = (place j m).2 in
      let r = a.rising i j u m in
      ⊎_elim
      (λ (v : (place i l).0 < (place j m).0). v)
      (λ (v : (place j m).0 ≤ (place i l).0).
      ⊎_elim
      (λ (z : (place j m).0 ≡ (place i l).0). absurd (omega (arith, ap b.number z, e, f, r)))
      (λ (w : (place j m).0 < (place i l).0). absurd (omega (arith, b.rising (place j m).0 (place i l).0 w (place i l).1, e, f, r)))
      (eq-or-lt_of_le v))
      (lt_or_le (place i l).0 (place j m).0)

  not_before : (i : ℕ) (l : i < c) → i ≤ (place i l).0
  not_before zero l = omega arith
  not_before (suc i) l =
      let m : i < c = omega arith in
      omega (arith, not_before i m, later i (suc i) m l (omega arith))

  no_more : c ≤ d
  no_more = ⊎_elim (λ (l : d < c). absurd (omega (arith, not_before d l, (place d l).1))) (λ (l : c ≤ d). l) (lt_or_le d c)

pub how_many_one : (P : ℕ → Type 0) (n c d : ℕ) → HowMany P n c → HowMany P n d → c ≡ d
how_many_one P n c d a b = omega (arith, no_more P n c d a b, no_more P n d c b a)
