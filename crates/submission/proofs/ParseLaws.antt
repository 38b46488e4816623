-- What decides on a submission, test by test.
--     count_is                               the count of the layout that was read
--     rules_told, too_many                   whether the rules hold
--     not_parsed, bad_parsed, good_parsed    what the parse gives
-- Assumes nothing.
use Rattle.std.specs.Prelude.{Ok, Err}
use mathlib.Core.Path.{◌≡◌, refl, ap, ◌∙◌}
use mathlib.Core.Bool.{true, false, not, ◌&&◌}
use mathlib.Core.List.{List}
use Prim.Native.Nat.{ℕ, ◌≤◌, ◌<◌}
use borrow.Author.Tests.{le-leb}
use Rattle.std.specs.Prelude.{leb, eqb}
use lib.ListN.{length}
use Rattle.laws.specs.Tests.{all_from}
use Rattle.laws.specs.Checks.{first_of, passes}
use Rattle.laws.proofs.CheckLaws.{chain}
use Rattle.answer.specs.declared.Refusal.TheVariants.{NotASubmission, BadSubmission}
use Rattle.submission.specs.Scan.{has_zero}
use Rattle.submission.specs.Format.{module_count, max_modules}
use Rattle.submission.specs.Layout.{layout_of, bytes_of}
use Rattle.submission.specs.Parse.{parsed_submission}
use Rattle.submission.specs.FormatLaws.{layout_count}
use Rattle.submission.specs.Rules.{max_line, is_submission, entry_holds, string_holds, rules_hold, submission_checks}
use Rattle.submission.specs.declared.Layout.{Layout}

-- the layout that was read has the count of the submission
pub count_is : (s : List ℕ) (l : Layout) → l ≡ layout_of s → l.count ≡ module_count s
count_is s l q = ap (λ (m : Layout). m.count) q ∙ layout_count s

-- its rules, as they are tested of what was read
pub rules_told : (s : List ℕ) (l : Layout) → l ≡ layout_of s → module_count s ≤ max_modules
    → rules_hold s ≡ leb l.line.len max_line && all_from (entry_holds s) 0 l.count && eqb l.end (length s) && not (has_zero (bytes_of s l.line)) && all_from (string_holds s) 0 (module_count s)
unfolding rules_hold layout_of
rules_told s l q n = rw (q, le-leb (module_count s) max_modules n) refl

module _ (s : List ℕ) where
  pub too_many : max_modules < module_count s → rules_hold s ≡ false
  unfolding rules_hold
  too_many h = search chain depth 20

  pub not_parsed : is_submission s ≡ false → Err NotASubmission ≡ parsed_submission s
  unfolding parsed_submission submission_checks first_of
  not_parsed h = rw h refl

  pub bad_parsed : is_submission s ≡ true → rules_hold s ≡ false → Err BadSubmission ≡ parsed_submission s
  unfolding parsed_submission submission_checks first_of
  bad_parsed h k = rw (h, k) refl

  pub good_parsed : is_submission s ≡ true → rules_hold s ≡ true → Ok (layout_of s) ≡ parsed_submission s
  unfolding parsed_submission submission_checks first_of
  good_parsed h k = rw (h, k) refl
