-- The numbers of a chain of checks: it answers with its first refusal.
--     numbers, distinct                       the numbers of a chain, each given once
--     place_here, place_later                 where a number stands in a list
--     applies_other, applies_front            a number that no check has, and one of a chain's first part
--     applies_for, answer_for                 whether the check of a number applies, and its answer
--     first_answer, answer_number             the first check that applies gives its answer
--     number_first                            a number is given only where its check is the first that applies
--     none_given, none_applies                0 is given exactly where none applies
--     number_load                             0 is given exactly where the chain passes
-- Assumes nothing.
use Rattle.std.specs.Prelude.{◌≡◌, refl, Bool, true, false, cond, ◌&&◌, List, [], ◌∷◌, ◌++◌, ℕ, suc, ◌≤◌, ◌<◌, length, Result, Ok, Err, is_ok}
use Rattle.std.proofs.Common.{sym, ap, ◌∙◌, arith}
use Rattle.std.proofs.lemmas.Bool.{false≢true}
use Rattle.std.proofs.Math.Logic.{⊎_elim}
use borrow.Author.Tests.{eqb-true, eq-eqb}
use Rattle.std.proofs.Math.Dec.{eqb}
use Rattle.laws.specs.Checks.{Check, first_of, passes}
use Rattle.laws.proofs.CheckLaws.{ok_is}
use Rattle.laws.proofs.TestLaws.{true_or_false, and_left, and_right}
use Rattle.answer.specs.Answer.{refusal_number, number_of}
use Rattle.answer.specs.AnswerLaws.{number_least}
use Rattle.answer.specs.declared.Refusal.{Refusal}
use Rattle.answer.specs.Chain.{place_in}

-- the numbers of a chain's checks, in their order
unfoldable pub numbers : List (Check Refusal) → List ℕ
numbers [] = []
numbers (c ∷ ks) = refusal_number c.refusal ∷ numbers ks

-- no number comes twice
unfoldable pub distinct : List ℕ → Bool
distinct [] = true
distinct (n ∷ ns) = eqb (place_in ns n) (length ns) && distinct ns

-- a number stands first in a list, or behind the first
pub place_here : (n k : ℕ) (ns : List ℕ) → eqb n k ≡ true → place_in (n ∷ ns) k ≡ 0
unfolding place_in
place_here n k ns e = rw e

pub place_later : (n k : ℕ) (ns : List ℕ) → eqb n k ≡ false → place_in (n ∷ ns) k ≡ suc (place_in ns k)
unfolding place_in
place_later n k ns e = rw e

place_most : (ns : List ℕ) (k : ℕ) → place_in ns k ≤ length ns
unfolding place_in
place_most [] k = omega arith
place_most (n ∷ ns) k =
    ⊎_elim
    (λ (t : eqb n k ≡ true). rw t (omega arith))
    (λ (t : eqb n k ≡ false). rw t (omega (arith, place_most ns k)))
    (true_or_false (eqb n k))

length_numbers : (ks : List (Check Refusal)) → length (numbers ks) ≡ length ks
unfolding numbers
length_numbers [] = refl
length_numbers (c ∷ ks) = omega (arith, length_numbers ks)

-- whether the check of the number k applies, and its answer
unfoldable pub applies_for : List (Check Refusal) → ℕ → Bool
applies_for [] k = false
applies_for (c ∷ ks) k = cond (eqb (refusal_number c.refusal) k) c.applies (applies_for ks k)

unfoldable pub answer_for : {A : Type 0} → List (Check Refusal) → A → ℕ → Result A Refusal
answer_for [] z k = Ok z
answer_for (c ∷ ks) z k = let r = answer_for ks z k in cond (eqb (refusal_number c.refusal) k) (Err c.refusal) r

pub answer_number : {A : Type 0} (ks : List (Check Refusal)) (z : A) (k : ℕ) → applies_for ks k ≡ true → number_of (answer_for ks z k) ≡ k
unfolding applies_for answer_for
answer_number [] z k e = absurd (false≢true e)
answer_number (c ∷ ks) z k e =
    ⊎_elim
    (λ (t : eqb (refusal_number c.refusal) k ≡ true). rw t (eqb-true _ _ t))
    (λ (t : eqb (refusal_number c.refusal) k ≡ false). rw t (answer_number ks z k (rw t at e)))
    (true_or_false (eqb (refusal_number c.refusal) k))

-- no check has the number k
pub applies_other : (ks : List (Check Refusal)) (k : ℕ) → length ks ≤ place_in (numbers ks) k → applies_for ks k ≡ false
unfolding applies_for numbers
applies_other [] k l = refl
applies_other (c ∷ ks) k l =
    ⊎_elim
    (λ (t : eqb (refusal_number c.refusal) k ≡ true). absurd (omega (arith, place_here (refusal_number c.refusal) k (numbers ks) t)))
    (λ (t : eqb (refusal_number c.refusal) k ≡ false). rw t (applies_other ks k (omega (arith, place_later (refusal_number c.refusal) k (numbers ks) t))))
    (true_or_false (eqb (refusal_number c.refusal) k))

-- a check of the first of two chains
pub applies_front : (ks ls : List (Check Refusal)) (k : ℕ) → place_in (numbers ks) k < length ks
    → (applies_for (ks ++ ls) k ≡ applies_for ks k) × (place_in (numbers (ks ++ ls)) k ≡ place_in (numbers ks) k)
unfolding applies_for numbers place_in
applies_front [] ls k l = absurd (omega arith)
applies_front (c ∷ ks) ls k l =
    ⊎_elim
    (λ (t : eqb (refusal_number c.refusal) k ≡ true). rw t (refl, refl))
    (λ (t : eqb (refusal_number c.refusal) k ≡ false).
    let m : place_in (numbers ks) k < length ks = omega (arith, place_later (refusal_number c.refusal) k (numbers ks) t) in
    let r = applies_front ks ls k m in
    rw t (r.0, ap suc r.1))
    (true_or_false (eqb (refusal_number c.refusal) k))

-- the first check of a chain whose numbers are distinct
module _ (c : Check Refusal) (ks : List (Check Refusal)) (d : distinct (numbers (c ∷ ks)) ≡ true) where
  distinct_rest : distinct (numbers ks) ≡ true
  unfolding distinct numbers
  distinct_rest = and_right (eqb (place_in (numbers ks) (refusal_number c.refusal)) (length (numbers ks))) (distinct (numbers ks)) d

  -- its number is none of the others
  alone : place_in (numbers ks) (refusal_number c.refusal) ≡ length (numbers ks)
  unfolding distinct numbers
  alone = eqb-true _ _ (and_left (eqb (place_in (numbers ks) (refusal_number c.refusal)) (length (numbers ks))) (distinct (numbers ks)) d)

  alone_applies : (k : ℕ) → eqb (refusal_number c.refusal) k ≡ true → applies_for ks k ≡ false
  alone_applies k t =
      let e : place_in (numbers ks) (refusal_number c.refusal) ≡ place_in (numbers ks) k = ap (place_in (numbers ks)) (eqb-true _ _ t) in
      applies_other ks k (omega (arith, alone, length_numbers ks))

  -- what no check before k does, none of the rest before k does
  rest_earlier : (k : ℕ) → eqb (refusal_number c.refusal) k ≡ false
      → ((j : ℕ) → place_in (numbers (c ∷ ks)) j < place_in (numbers (c ∷ ks)) k → applies_for (c ∷ ks) j ≡ false)
      → (j : ℕ) → place_in (numbers ks) j < place_in (numbers ks) k → applies_for ks j ≡ false
  unfolding applies_for numbers
  rest_earlier k t h j l =
      ⊎_elim
      (λ (u : eqb (refusal_number c.refusal) j ≡ true). alone_applies j u)
      (λ (u : eqb (refusal_number c.refusal) j ≡ false).
      rw u at (h j (omega (arith, place_later (refusal_number c.refusal) j (numbers ks) u, place_later (refusal_number c.refusal) k (numbers ks) t))))
      (true_or_false (eqb (refusal_number c.refusal) j))

-- the first check that applies gives the answer
pub first_answer : {A : Type 0} (ks : List (Check Refusal)) (z : A) (k : ℕ) → distinct (numbers ks) ≡ true → applies_for ks k ≡ true
    → ((j : ℕ) → place_in (numbers ks) j < place_in (numbers ks) k → applies_for ks j ≡ false)
    → first_of ks z ≡ answer_for ks z k
unfolding first_of applies_for answer_for numbers
first_answer [] z k d e h = refl
first_answer (c ∷ ks) z k d e h =
    ⊎_elim
    (λ (t : eqb (refusal_number c.refusal) k ≡ true). let a : c.applies ≡ true = rw t at e in rw (t, a) refl)
    (λ (t : eqb (refusal_number c.refusal) k ≡ false).
    let s = eq-eqb (refusal_number c.refusal) (refusal_number c.refusal) refl in
    let a : c.applies ≡ false =
    rw s at (h (refusal_number c.refusal) (omega (arith, place_here (refusal_number c.refusal) (refusal_number c.refusal) (numbers ks) s, place_later (refusal_number c.refusal) k (numbers ks) t))) in
    rw (t, a) (first_answer ks z k (distinct_rest c ks d) (rw t at e) (rest_earlier c ks d k t h)))
    (true_or_false (eqb (refusal_number c.refusal) k))

module _ (c : Check Refusal) (ks : List (Check Refusal)) (d : distinct (numbers (c ∷ ks)) ≡ true) (a : c.applies ≡ false) where
  -- behind a check that does not apply
  behind_earlier : (k : ℕ) → ((j : ℕ) → place_in (numbers ks) j < place_in (numbers ks) k → applies_for ks j ≡ false)
      → (j : ℕ) → place_in (numbers (c ∷ ks)) j < suc (place_in (numbers ks) k) → applies_for (c ∷ ks) j ≡ false
  unfolding applies_for numbers
  behind_earlier k h j l =
      ⊎_elim
      (λ (u : eqb (refusal_number c.refusal) j ≡ true). rw u a)
      (λ (u : eqb (refusal_number c.refusal) j ≡ false). rw u (h j (omega (arith, place_later (refusal_number c.refusal) j (numbers ks) u))))
      (true_or_false (eqb (refusal_number c.refusal) j))

  -- the number of a check behind it is another one
  behind_other : (k : ℕ) → applies_for ks k ≡ true → eqb (refusal_number c.refusal) k ≡ false
  behind_other k e =
      ⊎_elim
      (λ (u : eqb (refusal_number c.refusal) k ≡ true). absurd (false≢true (sym (alone_applies c ks d k u) ∙ e)))
      (λ (u : eqb (refusal_number c.refusal) k ≡ false). u)
      (true_or_false (eqb (refusal_number c.refusal) k))

-- a number is given only where its check applies, and none before it
pub number_first : {A : Type 0} (ks : List (Check Refusal)) (z : A) (k : ℕ) → distinct (numbers ks) ≡ true → 1 ≤ k → number_of (first_of ks z) ≡ k
    → (applies_for ks k ≡ true) × ((j : ℕ) → place_in (numbers ks) j < place_in (numbers ks) k → applies_for ks j ≡ false)
unfolding first_of applies_for numbers
number_first [] z k d l e = absurd (omega arith)
number_first (c ∷ ks) z k d l e =
    ⊎_elim
    (λ (a : c.applies ≡ true).
    let n : refusal_number c.refusal ≡ k = rw a at e in
    let t = eq-eqb (refusal_number c.refusal) k n in
    (rw t a, λ j m. absurd (omega (arith, place_here (refusal_number c.refusal) k (numbers ks) t))))
    (λ (a : c.applies ≡ false).
    let r = number_first ks z k (distinct_rest c ks d) l (rw a at e) in
    let t = behind_other c ks d a k r.0 in
    (rw t r.0, λ j m. behind_earlier c ks d a k r.1 j (omega (arith, place_later (refusal_number c.refusal) k (numbers ks) t))))
    (true_or_false c.applies)

-- the number is 0 exactly where no check applies
pub none_given : {A : Type 0} (ks : List (Check Refusal)) (z : A) → distinct (numbers ks) ≡ true → ((k : ℕ) → applies_for ks k ≡ false) → number_of (first_of ks z) ≡ 0
unfolding first_of applies_for
none_given [] z d h = refl
none_given (c ∷ ks) z d h =
    let s = eq-eqb (refusal_number c.refusal) (refusal_number c.refusal) refl in
    let a : c.applies ≡ false = rw s at (h (refusal_number c.refusal)) in
    rw a (none_given ks z (distinct_rest c ks d) rest)
  where
    rest : (k : ℕ) → applies_for ks k ≡ false
    rest k =
        ⊎_elim
        (λ (u : eqb (refusal_number c.refusal) k ≡ true). alone_applies c ks d k u)
        (λ (u : eqb (refusal_number c.refusal) k ≡ false). rw u at (h k))
        (true_or_false (eqb (refusal_number c.refusal) k))

pub none_applies : {A : Type 0} (ks : List (Check Refusal)) (z : A) → number_of (first_of ks z) ≡ 0 → (k : ℕ) → applies_for ks k ≡ false
unfolding first_of applies_for
none_applies [] z e k = refl
none_applies (c ∷ ks) z e k =
    ⊎_elim
    (λ (a : c.applies ≡ true). let n : refusal_number c.refusal ≡ 0 = rw a at e in absurd (omega (arith, number_least c.refusal)))
    (λ (a : c.applies ≡ false).
    let h = none_applies ks z (rw a at e) k in
    ⊎_elim
    (λ (u : eqb (refusal_number c.refusal) k ≡ true). rw u a)
    (λ (u : eqb (refusal_number c.refusal) k ≡ false). rw u h)
    (true_or_false (eqb (refusal_number c.refusal) k)))
    (true_or_false c.applies)

-- an answer has the number 0 exactly where it is a value
number_ok : {A : Type 0} (r : Result A Refusal) → number_of r ≡ 0 → is_ok r ≡ true
number_ok (Ok a) e = refl
number_ok (Err r) e = absurd (omega (arith, number_least r))

pub number_load : {A : Type 0} (ks : List (Check Refusal)) (z : A) → number_of (first_of ks z) ≡ 0 → passes ks ≡ true
number_load ks z e = sym (ok_is ks z) ∙ number_ok (first_of ks z) e
