-- What reading a submission answers.                               rules: SUBMISSION, ANSWERS (1 and 2)
--     no_layout            no parts
--     parsed_submission    the parts, or the first refusal
-- Assumes nothing.
use Rattle.std.specs.Prelude.{List, ℕ, replicate, Result}
use Rattle.laws.specs.Checks.{first_of}
use Rattle.answer.specs.declared.Refusal.{Refusal}
use Rattle.submission.specs.Format.{max_modules}
use Rattle.submission.specs.Layout.{layout_of, no_part, no_module}
use Rattle.submission.specs.declared.Layout.{Layout}
use Rattle.submission.specs.Rules.{submission_checks}

unfoldable pub no_layout : Layout
no_layout = record { image = no_part; line = no_part; modules = replicate max_modules no_module; ceilings = replicate max_modules 0; count = 0; end = 0 }

unfoldable pub parsed_submission : List ℕ → Result Layout Refusal
parsed_submission s = first_of (submission_checks s) (layout_of s)
