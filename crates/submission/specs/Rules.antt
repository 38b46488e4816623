-- Which submissions are refused.                               rules: SUBMISSION, ANSWERS (1 and 2)
--     is_submission, rules_hold    the rules behind 1, and those behind 2
--     submission_checks            1 and 2
-- Assumes nothing.
use Rattle.std.specs.Prelude.{Bool, not, ◌&&◌, ◌||◌, List, [], ◌∷◌, ℕ, leb, eqb, length, take}
use Rattle.laws.specs.Tests.{all_from}
use Rattle.laws.specs.Checks.{Check, ◌gives◌}
use Rattle.answer.specs.declared.Refusal.{Refusal}
use Rattle.answer.specs.declared.Refusal.TheVariants.{NotASubmission, BadSubmission}
use Rattle.submission.specs.Scan.{has_zero, same_bytes}
use Rattle.submission.specs.Format.{mark, version, module_count, line_length, prefix_size, parts_end, max_modules}
use Rattle.submission.specs.Layout.{table_entry, line_part, module_of, bytes_of}
use Rattle.submission.specs.declared.read.TableEntry.{TableEntry}

-- at most so many bytes in a command line, and in a module's string
abbrev pub max_line : ℕ
max_line = 255

abbrev pub max_string : ℕ
max_string = 127

-- at least the prefix's 12 bytes, the mark, and version 1 or 2
unfoldable pub is_submission : List ℕ → Bool
is_submission s = leb prefix_size (length s) && same_bytes (take 3 s) mark && leb 1 (version s) && leb (version s) 2

-- an entry in its limits: data of at least one byte, a string that is not too long, and in version 1 zero for a ceiling
unfoldable pub in_limits : ℕ → TableEntry → Bool
in_limits v e = leb 1 e.bytes && leb e.string max_string && (not (eqb v 1) || eqb e.ceiling 0)

abbrev pub entry_holds : List ℕ → ℕ → Bool
entry_holds s i = in_limits (version s) (table_entry s i)

-- no zero byte stands in the string of module i
unfoldable pub string_holds : List ℕ → ℕ → Bool
string_holds s i = not (has_zero (bytes_of s (module_of s i).string))

-- every other rule of the submission
unfoldable pub rules_hold : List ℕ → Bool
rules_hold s =
    leb (module_count s) max_modules
    && leb (line_length s) max_line
    && all_from (entry_holds s) 0 (module_count s)
    && eqb (parts_end s) (length s)
    && not (has_zero (bytes_of s (line_part s)))
    && all_from (string_holds s) 0 (module_count s)

-- 1, then 2
unfoldable pub submission_checks : List ℕ → List (Check Refusal)
submission_checks s = not (is_submission s) gives NotASubmission ∷ not (rules_hold s) gives BadSubmission ∷ []
