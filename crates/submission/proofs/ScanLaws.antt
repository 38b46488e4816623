-- The library's scans are those of the definitions.
--     zero_listed    a byte is zero
--     mark_tested    the bytes begin with the mark
-- Assumes nothing.
use mathlib.Core.Path.{◌≡◌, refl, ap, sym, ◌∙◌}
use mathlib.Core.Bool.{◌||◌}
use mathlib.Core.List.{List, [], ◌∷◌}
use Prim.Native.Nat.{ℕ}
use lib.ListN.{take}
use Rattle.std.specs.Prelude.{eqb, nat_eq}
use Rattle.std.specs.List.{list_any, starts_with}
use Rattle.std.specs.Cmp.Lexicographic.{pointwise}
use Rattle.std.proofs.lemmas.Cmp.{nat_list_eq_equiv}
use Rattle.submission.specs.Format.{mark}
use Rattle.submission.specs.Scan.{has_zero, same_bytes}

pub zero_listed : (s : List ℕ) → has_zero s ≡ list_any (λ x. eqb x 0) s
unfolding has_zero
zero_listed [] = refl
zero_listed (x ∷ s) = ap (λ b. eqb x 0 || b) (zero_listed s)

-- the library's test of two lists
tested : (s t : List ℕ) → pointwise nat_eq s t ≡ same_bytes s t
unfolding same_bytes
tested [] [] = refl
tested [] (y ∷ t) = refl
tested (x ∷ s) [] = refl
tested (x ∷ s) (y ∷ t) = rw (tested s t) refl

pub mark_tested : (s : List ℕ) → same_bytes (take 3 s) mark ≡ starts_with nat_eq s mark
mark_tested s = sym (nat_list_eq_equiv.symm mark (take 3 s) ∙ tested (take 3 s) mark)
