-- The digits of a number.
--     spelled_more, spelled_all    a digit in front of those spelled, all of them
--     lead_counted                 the zeros in front, the last digit left out
--     decimal_is                   the digits behind them
-- Assumes nothing.
use mathlib.Core.Path.{◌≡◌, refl, ap, sym, ◌∙◌}
use mathlib.Core.List.{List, [], ◌∷◌, ◌++◌, append_assoc}
use Prim.Native.Nat.{ℕ, zero, suc, ◌+◌, ◌-◌, ◌/◌, ◌%◌, ◌≤◌, ◌<◌}
use native.Mathlib.Omega.{arith}
use lib.ListN.{length, take, drop, set, length-set, length-drop}
use lib.Seq.{drop-cons, get_or-set_same, drop-set-lt, take_all}
use Rattle.std.specs.Prelude.{cond, eqb}
use Rattle.std.specs.List.{prefix_len}
use Rattle.report.specs.Text.{decimal_length, glyph_of, digits_of, leading_zeros, decimal_text}
use Rattle.report.specs.TextLaws.{length_digits}

-- a digit in front of those spelled
pub spelled_more : (l : List ℕ) (base i rest g : ℕ) → 0 < i → i ≤ length l → g ≡ glyph_of (rest % base)
    → digits_of base i rest ++ drop i l ≡ digits_of base (i - 1) (rest / base) ++ drop (i - 1) (set l (i - 1) g)
unfolding digits_of
spelled_more l base zero rest g o h e = absurd (omega arith)
spelled_more l base (suc j) rest g o h e =
    let i : suc j - 1 ≡ j = omega arith in
    let m : j < length (set l j g) = omega (arith, length-set l j g) in
    let n : j < length l = omega arith in
    rw (i, append_assoc, drop-cons (set l j g) j 0 m, get_or-set_same l j g 0 n, drop-set-lt (suc j) l j g (omega arith), e) refl

-- all of them
pub spelled_all : (l : List ℕ) (base i rest : ℕ) {d : List ℕ} → i ≡ 0 → d ≡ digits_of base i rest ++ drop i l → l ≡ d
unfolding digits_of
spelled_all l base i rest e p = sym (rw e at p)

-- the zeros in front, the last digit left out
pub lead_counted : (l : List ℕ) (n : ℕ) → length l ≡ n + 1 → prefix_len (λ d. eqb d 48) (take n l) ≡ leading_zeros l
unfolding leading_zeros
lead_counted [] n e = absurd (omega arith)
lead_counted (d ∷ []) zero e = refl
lead_counted (d ∷ []) (suc n) e = absurd (omega arith)
lead_counted (d ∷ c ∷ l) zero e = absurd (omega arith)
lead_counted (d ∷ c ∷ l) (suc n) e = ap (λ (k : ℕ). cond (eqb d 48) k 0) (omega (arith, lead_counted (c ∷ l) n (omega arith)))

-- the digits behind the zeros in front
pub decimal_is : (l : List ℕ) (from n x : ℕ) → l ≡ digits_of 10 decimal_length x
    → from ≡ prefix_len (λ d. eqb d 48) (take 9 l) → n ≡ decimal_length - from → take n (drop from l) ≡ decimal_text x
unfolding decimal_text
decimal_is l from n x e f m =
    let k : length l ≡ decimal_length = ap length e ∙ length_digits 10 decimal_length x in
    let z : from ≡ leading_zeros l = f ∙ lead_counted l 9 k in
    take_all n (drop from l) (omega (arith, length-drop from l)) ∙ ap (λ (j : ℕ). drop j l) z ∙ ap (λ (j : List ℕ). drop (leading_zeros j) j) e
