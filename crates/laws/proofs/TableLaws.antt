-- Laws of lists by index.
--     length_listed, length_table                     how long they are
--     take_listed, listed_at, table_at, table_past    what stands at an index
--     listed_more, listed_same                        one value more; functions that agree
--     map_listed                                      the values of a function, each taken further
--     table_more, table_none                          one value more, stored where the next goes; no value yet
-- Assumes nothing.
use Rattle.std.specs.Prelude.{◌≡◌, length, get_or, set, replicate, take}
use Rattle.std.proofs.Math.Path.{refl}
use Rattle.std.proofs.Common.{ap, ◌∙◌, eq-or-lt_of_le, le_of_suc-le-suc, get_or-append-add, take_all}
use mathlib.Core.List.{List, [], ◌∷◌, ◌++◌, append_assoc, map}
use Rattle.std.proofs.Math.Logic.{⊎_elim}
use Prim.Native.Nat.{ℕ, zero, suc, ◌+◌, ◌-◌, ◌≤◌, ◌<◌}
use Rattle.std.proofs.Math.Nat.{sub-zero}
use Rattle.std.proofs.Math.Numerals.{add-one}
use native.Mathlib.Omega.{arith}
use Rattle.std.proofs.Math.ListN.{length-append, get_or-append}
use Rattle.std.proofs.lemmas.List.{length-replicate, set_at, get_or_at}
use Rattle.std.proofs.Math.Seq.{take-append-le}
use Rattle.laws.specs.Table.{listed, table}

-- a place of an array that nothing was stored at
pub replicate_at : {A : Type 0} (k i : ℕ) (z : A) → get_or (replicate k z) i z ≡ z
replicate_at zero i z = refl
replicate_at (suc k) zero z = refl
replicate_at (suc k) (suc i) z = replicate_at k i z

-- functions that agree below n
pub listed_same : {A : Type 0} (f g : ℕ → A) (n : ℕ) → ((i : ℕ) → i < n → f i ≡ g i) → listed f n ≡ listed g n
unfolding listed
listed_same f g zero h = refl
listed_same f g (suc n) h = rw (listed_same f g n (λ i l. h i (omega arith)), h n (omega arith)) refl

map_more : {A B : Type 0} (g : A → B) (xs : List A) (x : A) → map g (xs ++ (x ∷ [])) ≡ map g xs ++ (g x ∷ [])
map_more g [] x = refl
map_more g (y ∷ xs) x = ap (λ (l : List _). g y ∷ l) (map_more g xs x)

pub map_listed : {A B : Type 0} (g : A → B) (f : ℕ → A) (n : ℕ) → map g (listed f n) ≡ listed (λ i. g (f i)) n
unfolding listed
map_listed g f zero = refl
map_listed g f (suc n) = rw (map_more, map_listed g f n) refl

module _ {A : Type 0} (f : ℕ → A) where
  -- one value more, as a loop counts
  pub listed_more : (n : ℕ) → listed f (n + 1) ≡ listed f n ++ (f n ∷ [])
  unfolding listed
  listed_more n = rw (add-one n) refl

  pub length_listed : (n : ℕ) → length (listed f n) ≡ n
  unfolding listed
  length_listed zero = refl
  length_listed (suc n) = length-append (listed f n) (f n ∷ []) ∙ omega (arith, length_listed n)

  pub take_listed : (n i : ℕ) → i ≤ n → take i (listed f n) ≡ listed f i
  unfolding listed
  take_listed zero i l = let e : i ≡ 0 = omega arith in rw e
  take_listed (suc n) i l =
      ⊎_elim
      (λ (e : i ≡ suc n). rw e (take_all (suc n) (listed f (suc n)) (omega (arith, length_listed (suc n)))))
      (λ (m : i < suc n). take-append-le i (listed f n) (f n ∷ []) (omega (arith, length_listed n)) ∙ take_listed n i (omega arith))
      (eq-or-lt_of_le l)

  pub listed_at : (n i : ℕ) (z : A) → i < n → get_or (listed f n) i z ≡ f i
  unfolding listed
  listed_at zero i z l = absurd (omega arith)
  listed_at (suc n) i z l =
      ⊎_elim
      (λ (e : i ≡ n). rw e (get_or_at (listed f n) (f n) [] z n (length_listed n)))
      (λ (m : i < n). get_or-append (listed f n) (f n ∷ []) z i (omega (arith, length_listed n)) ∙ listed_at n i z m)
      (eq-or-lt_of_le (le_of_suc-le-suc l))

  module _ (k : ℕ) (z : A) where
    pub length_table : (n : ℕ) → n ≤ k → length (table f n k z) ≡ k
    length_table n l = length-append (listed f n) (replicate (k - n) z) ∙ omega (arith, length_listed n, length-replicate (k - n) z)

    pub table_at : (n i : ℕ) → i < n → get_or (table f n k z) i z ≡ f i
    table_at n i l = get_or-append (listed f n) (replicate (k - n) z) z i (omega (arith, length_listed n)) ∙ listed_at n i z l

    pub table_past : (n i : ℕ) → n ≤ i → get_or (table f n k z) i z ≡ z
    table_past n i l =
        let e : i ≡ length (listed f n) + (i - n) = omega (arith, length_listed n) in
        rw (e, get_or-append-add) (replicate_at (k - n) (i - n) z)

    pub table_none : replicate k z ≡ table f 0 k z
    unfolding listed
    table_none = rw sub-zero refl

    pub table_more : (n : ℕ) → n < k → set (table f n k z) n (f n) ≡ table f (n + 1) k z
    unfolding listed
    table_more n l =
        let e : k - n ≡ suc (k - suc n) = omega arith in
        rw (e, add-one n, append_assoc) (set_at (listed f n) z (replicate (k - suc n) z) (f n) n (length_listed n))
