-- The order of checks.                                                                rule: ANSWERS
--     check_order    the numbers of the refusals in the order of checks
--     place_in       how many numbers stand before a number
--     Before         of two refusals, which is checked first
-- Assumes nothing.
use Rattle.std.specs.Prelude.{cond, List, [], ◌∷◌, ℕ, suc, ◌<◌, eqb}

-- 9 to 13 are about address fields, 18 to 20 about an ELF image; 25 stands behind 7; 11 is not given
abbrev pub check_order : List ℕ
check_order = 1 ∷ 2 ∷ 3 ∷ 4 ∷ 5 ∷ 6 ∷ 7 ∷ 25 ∷ 8 ∷ 9 ∷ 10 ∷ 12 ∷ 13 ∷ 18 ∷ 19 ∷ 20 ∷ 14 ∷ 15 ∷ 16 ∷ 17 ∷ []

-- how many numbers stand before k: all of them where k is not there
unfoldable pub place_in : List ℕ → ℕ → ℕ
place_in [] k = 0
place_in (n ∷ ns) k = cond (eqb n k) 0 (suc (place_in ns k))

-- the refusal j is checked before the refusal k
abbrev pub Before : ℕ → ℕ → Type 0
Before j k = place_in check_order j < place_in check_order k
