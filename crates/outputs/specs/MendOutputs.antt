-- What a caller of a mend is given: n is the number that `viertompu::mending::viertompu_mend` returns for an image, p are the words
-- that it writes, and v is the image afterwards.
--     told           the change that the words tell
--     MendOutputs    which numbers and words are given, and what they say
-- The proof is in MendOutputsLaws.
-- Assumes nothing.
use Rattle.std.specs.Prelude.{◌≡◌, List, [], ◌∷◌, ◌↔◌, ℕ, get_or}
use Rattle.header.specs.HeaderAt.{MagicAt, HeaderAt}
use Rattle.mend.specs.declared.Change.{Change}
use Rattle.mend.specs.Promises.{MendedAt}

-- offset, old checksum and new one behind the first word
abbrev pub told : List ℕ → Change
told p = record { offset = record { 0 = get_or p 1 0 }; old = get_or p 2 0; new = get_or p 3 0 }

pub record MendOutputs (image : List ℕ) (n : ℕ) (p v : List ℕ) : Type 0 where
  -- the number is 26 exactly where the magic stands nowhere, and else 0
  pub refused : (n ≡ 26) ↔ ((o : ℕ) → MagicAt image o → ⊥)
  pub else_zero : (n ≡ 26 → ⊥) → n ≡ 0
  -- the first word is 1 exactly where the magic stands and no header does; then the others tell the change
  pub mends : (get_or p 0 0 ≡ 1) ↔ (((o : ℕ) → HeaderAt image o → ⊥) × ((o : ℕ) × MagicAt image o))
  pub mended : get_or p 0 0 ≡ 1 → (p ≡ 1 ∷ (told p).offset.0 ∷ (told p).old ∷ (told p).new ∷ []) × MendedAt image (told p) v
  -- otherwise all words are 0 and the image is as it was
  pub left : (get_or p 0 0 ≡ 1 → ⊥) → (p ≡ 0 ∷ 0 ∷ 0 ∷ 0 ∷ []) × (v ≡ image)
