-- The command line in force, of an accepted submission and an accepted operator's line.   rule: LINE
--     line_in_force    the operator's line if it is not empty, else the submission's
-- Assumes nothing.
use Rattle.std.specs.Prelude.{List, [], ◌∷◌, ℕ}
use Rattle.submission.specs.Format.{line_bytes}

-- the operator's line if it is not empty, else the submission's
unfoldable pub line_in_force : List ℕ → List ℕ → List ℕ
line_in_force [] s = line_bytes s
line_in_force (x ∷ line) s = x ∷ line
