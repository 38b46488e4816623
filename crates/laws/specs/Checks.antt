-- Checks in order, of which the first that applies refuses.
--     Check       a test, and the refusal where it applies; written `test gives refusal`
--     only_if     checks that are made only where a test holds
--     first_of    the refusal of the first check that applies, or a value where none does
--     passes      no check applies
-- Assumes nothing.
use Rattle.std.specs.Prelude.{Bool, true, cond, not, ◌&&◌, List, [], ◌∷◌, Result, Ok, Err}

pub record Check (E : Type 0) : Type 0 where
  pub applies : Bool
  pub refusal : E

infix 70 ◌gives◌
abbrev pub ◌gives◌ : {E : Type 0} → Bool → E → Check E
◌gives◌ t e = record { applies = t; refusal = e }

-- checks that apply only where t holds
unfoldable pub only_if : {E : Type 0} → Bool → List (Check E) → List (Check E)
only_if t [] = []
only_if t (k ∷ ks) = (t && k.applies) gives k.refusal ∷ only_if t ks

-- the refusal of the first check that applies, or the value where none does
unfoldable pub first_of : {E A : Type 0} → List (Check E) → A → Result A E
first_of [] value = Ok value
first_of (k ∷ ks) value = let r = first_of ks value in cond k.applies (Err k.refusal) r

-- whether no check applies
unfoldable pub passes : {E : Type 0} → List (Check E) → Bool
passes [] = true
passes (k ∷ ks) = not k.applies && passes ks
