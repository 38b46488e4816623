-- What a chain's `any` says of numbers.
--     any_listed     over the first n items of a list
--     any_counted    over the numbers below n
-- Assumes nothing.
use Rattle.std.proofs.Common.{◌≡◌, refl, ap, sym, ◌∙◌, Bool, List, ℕ, zero, suc, ◌≤◌, length, take, get_or, arith, add-one}
use Rattle.std.specs.List.{list_any, range_with_len}
use Rattle.std.proofs.lemmas.List.{take_all}
use Rattle.std.proofs.lemmas.List.Folds.{list_any_more}
use Rattle.std.proofs.lemmas.List.FromFn.{length-range_with_len, get_or-range_with_len}
use Rattle.laws.specs.Tests.{any}
use Rattle.laws.proofs.TestLaws.{any_same}

pub any_listed : {X : Type 0} (p : X → Bool) (xs : List X) (d : X) (n : ℕ) → n ≤ length xs → list_any p (take n xs) ≡ any (λ i. p (get_or xs i d)) n
unfolding any
any_listed p xs d zero l = refl
any_listed p xs d (suc n) l = rw (← add-one n, list_any_more p xs n d (omega arith), any_listed p xs d n (omega arith))

pub any_counted : (f : ℕ → Bool) (n : ℕ) → list_any f (range_with_len 0 n) ≡ any f n
any_counted f n =
    let xs = range_with_len 0 n in
    ap (list_any f) (sym (take_all n xs (omega (arith, length-range_with_len 0 n))))
    ∙ any_listed f xs 0 n (omega (arith, length-range_with_len 0 n))
    ∙ any_same (λ i. f (get_or xs i 0)) f n (λ i l. ap f (get_or-range_with_len 0 n i 0 l ∙ omega arith))
