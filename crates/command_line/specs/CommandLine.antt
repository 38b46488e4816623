-- The operator's line, and the command line in force.                      rules: LINE, ANSWERS (3)
--     operator_checks    3
--     command_line       the command line in force
-- Assumes nothing.
use Rattle.std.specs.Prelude.{cond, ◌||◌, List, [], ◌∷◌, ◌++◌, ℕ, ltb, length}
use Rattle.laws.specs.Checks.{Check, passes, ◌gives◌}
use Rattle.answer.specs.declared.Refusal.{Refusal}
use Rattle.answer.specs.declared.Refusal.TheVariants.{BadOperatorLine}
use Rattle.submission.specs.Scan.{has_zero}
use Rattle.submission.specs.Rules.{max_line, submission_checks}
use Rattle.command_line.specs.LineInForce.{line_in_force}

-- 3: over 255 bytes, or a zero byte
unfoldable pub operator_checks : List ℕ → List (Check Refusal)
operator_checks line = (ltb max_line (length line) || has_zero line) gives BadOperatorLine ∷ []

-- the same, and empty where 1, 2 or 3 applies
unfoldable pub command_line : List ℕ → List ℕ → List ℕ
command_line operator s = cond (passes (submission_checks s ++ operator_checks operator)) (line_in_force operator s) []
