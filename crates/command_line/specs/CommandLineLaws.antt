-- What an accepted operator's line and the command line in force keep.
--     operator_length, operator_text                                                                      an good_submission operator's line
--     line_refused_submission, line_refused_operator, line_of_operator, line_of_submission, line_cases    which line is in force
--     line_length_lem, line_text_lem, line_zero_free                                                      the line in force, whatever was lent
-- Assumes nothing.
use Rattle.std.specs.Prelude.{◌≡◌, false, not, ◌||◌, ℕ, ◌≤◌, ◌<◌, ltb, length, get_or}
use Rattle.std.proofs.Math.Path.{refl}
use Rattle.std.proofs.Common.{◌∙◌, ⊎_elim, arith}
use Rattle.std.proofs.Math.Bool.{true, and-false}
use mathlib.Core.List.{List, [], ◌∷◌}
use borrow.Author.Tests.{ltb-false, not-true}
use Rattle.laws.proofs.TestLaws.{true_or_false, or_none_left, or_none_right, and_left, lt_or_le}
use Rattle.laws.specs.Checks.{passes}
use Rattle.laws.proofs.CheckLaws.{passes_append}
use Rattle.submission.specs.Scan.{has_zero}
use Rattle.submission.specs.ScanLaws.{no_zero, zero_free}
use Rattle.submission.specs.Layout.{line_part, bytes_of}
use Rattle.submission.specs.FormatLaws.{length-bytes_of}
use Rattle.submission.specs.Rules.{max_line, submission_checks}
use Rattle.submission.specs.RuleLaws.{good_submission, line_inside}
use Rattle.submission.specs.GoodSubmission.{GoodSubmission}
use Rattle.submission.specs.Format.{line_bytes}
use Rattle.command_line.specs.CommandLine.{operator_checks, command_line}
use Rattle.command_line.specs.LineInForce.{line_in_force}

module _ (line : List ℕ) where
  neither : passes (operator_checks line) ≡ true → ltb max_line (length line) || has_zero line ≡ false
  unfolding passes operator_checks
  neither h = not-true _ (and_left (not (ltb max_line (length line) || has_zero line)) true h)

  pub operator_length : passes (operator_checks line) ≡ true → length line ≤ max_line
  operator_length h = ltb-false max_line (length line) (or_none_left (ltb max_line (length line)) (has_zero line) (neither h))

  pub operator_text : passes (operator_checks line) ≡ true → has_zero line ≡ false
  operator_text h = or_none_right (ltb max_line (length line)) (has_zero line) (neither h)

of_operator : (operator s : List ℕ) → 0 < length operator → line_in_force operator s ≡ operator
unfolding line_in_force
of_operator [] s l = absurd (omega arith)
of_operator (x ∷ operator) s l = refl

of_submission : (operator s : List ℕ) → length operator ≤ 0 → line_in_force operator s ≡ bytes_of s (line_part s)
unfolding line_in_force
of_submission [] s l = refl
of_submission (x ∷ operator) s l = absurd (omega arith)

module _ (operator s : List ℕ) where
  pub line_refused_submission : passes (submission_checks s) ≡ false → command_line operator s ≡ []
  unfolding command_line
  line_refused_submission h = rw (passes_append (submission_checks s) (operator_checks operator), h) refl

  pub line_refused_operator : passes (operator_checks operator) ≡ false → command_line operator s ≡ []
  unfolding command_line
  line_refused_operator h = rw (passes_append (submission_checks s) (operator_checks operator), h, and-false (passes (submission_checks s))) refl

  pub in_force : passes (submission_checks s) ≡ true → passes (operator_checks operator) ≡ true → command_line operator s ≡ line_in_force operator s
  unfolding command_line
  in_force h k = rw (passes_append (submission_checks s) (operator_checks operator), h, k) refl

  pub line_of_operator : passes (submission_checks s) ≡ true → passes (operator_checks operator) ≡ true → 0 < length operator → command_line operator s ≡ operator
  line_of_operator h k l = in_force h k ∙ of_operator operator s l

  pub line_of_submission : passes (submission_checks s) ≡ true → passes (operator_checks operator) ≡ true → length operator ≤ 0 → command_line operator s ≡ bytes_of s (line_part s)
  line_of_submission h k l = in_force h k ∙ of_submission operator s l

  -- what holds of no line, of an accepted operator's line and of an accepted submission's line holds of the line in force
  pub line_cases : (P : List ℕ → Type 0) → P [] → (passes (operator_checks operator) ≡ true → P operator) → (GoodSubmission s → P (bytes_of s (line_part s))) → P (command_line operator s)
  line_cases P n o t =
      ⊎_elim
      (λ (h : passes (submission_checks s) ≡ true).
      ⊎_elim
      (λ (k : passes (operator_checks operator) ≡ true).
      ⊎_elim
      (λ l. rw (line_of_operator h k l) (o k))
      (λ l. rw (line_of_submission h k l) (t (good_submission s h)))
      (lt_or_le 0 (length operator)))
      (λ (k : passes (operator_checks operator) ≡ false). rw (line_refused_operator k) n)
      (true_or_false (passes (operator_checks operator))))
      (λ (h : passes (submission_checks s) ≡ false). rw (line_refused_submission h) n)
      (true_or_false (passes (submission_checks s)))

  pub line_length_lem : length (command_line operator s) ≤ max_line
  line_length_lem =
      line_cases (λ (l : List ℕ). length l ≤ max_line) (omega arith) (operator_length operator)
      (λ (a : GoodSubmission s). rw (length-bytes_of s (line_part s) (line_inside s a)) a.line)

  pub line_text_lem : has_zero (command_line operator s) ≡ false
  unfolding has_zero
  line_text_lem = line_cases (λ (l : List ℕ). has_zero l ≡ false) refl (operator_text operator) (λ (a : GoodSubmission s). zero_free (line_bytes s) a.line_text)

  pub line_zero_free : (i : ℕ) → i < length (command_line operator s) → get_or (command_line operator s) i 0 ≡ 0 → ⊥
  line_zero_free = no_zero (command_line operator s) line_text_lem
