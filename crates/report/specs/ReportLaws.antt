-- Laws of the report.
--     length_line                                   a word, nine bytes for each address, and the end of the line
--     segment_none, segment_line_lem                the line of a place without a segment, and with one
--     module_none, module_line_lem                  the same of modules
--     segment_short, module_short, refusal_short    no such line is longer than the limit
--     segments_short, modules_short                 nor are n lines longer than n times the limit
--     report_of_load, report_of_refusal             which report is given
--     report_short                                  no report is longer than its limit
-- Assumes nothing.
use Rattle.std.specs.Prelude.{◌≡◌, Bool, true, false, cond, ℕ, ◌+◌, ◌*◌, ◌≤◌, eqb, length, get_or}
use Rattle.std.proofs.Math.Path.{refl}
use Rattle.std.proofs.Common.{ap, ◌∙◌, add-zero, arith, eq-eqb, ne_eqb, length-append}
use mathlib.Core.List.{List, [], ◌∷◌, ◌++◌}
use Rattle.submission.specs.Format.{max_modules}
use Rattle.kernel.specs.Kernel.{max_segments}
use Rattle.viertompu.specs.Joined.{joined}
use Rattle.viertompu.specs.JoinedLaws.{joined_short}
use Rattle.viertompu.specs.Words.{first_segment, words_per_segment, first_module, words_per_module}
use Rattle.report.specs.Text.{blank, newline, decimal_text, fields_text}
use Rattle.report.specs.TextLaws.{decimal_short, length_fields}
use Rattle.report.specs.Report.{kernel_label, module_label, info_label, refused_label, number_word, item_word, entry_word, block_words, segment_word, module_word, line_text, segment_line, module_line, info_line, refusal_text, report_of, max_line_text, max_report}

pub length_line : (label fields : List ℕ) → length (line_text label fields) ≡ length label + (9 * length fields + 1)
length_line label fields = length-append label (fields_text fields) ∙ ap (λ (n : ℕ). length label + n) (length_fields fields)

-- where both of two texts are short, so is the one chosen
short : (t : Bool) (s u : List ℕ) (n : ℕ) → length s ≤ n → length u ≤ n → length (cond t s u) ≤ n
short true s u n g h = g
short false s u n g h = h

module _ (p : List ℕ) (i : ℕ) where
  pub segment_none : get_or p (first_segment + words_per_segment * i + 2) 0 ≡ 0 → segment_line p i ≡ []
  unfolding segment_line
  segment_none e = rw (eq-eqb _ 0 e) refl

  pub segment_line_lem : (get_or p (first_segment + words_per_segment * i + 2) 0 ≡ 0 → ⊥)
      → line_text kernel_label (get_or p (first_segment + words_per_segment * i) 0 ∷ get_or p (first_segment + words_per_segment * i + 1) 0 ∷ get_or p (first_segment + words_per_segment * i + 2) 0 ∷ entry_word p ∷ []) ≡ segment_line p i
  unfolding segment_line
  segment_line_lem e = rw (ne_eqb _ 0 e, add-zero) refl

  pub module_none : get_or p (first_module + words_per_module * i + 1) 0 ≡ 0 → module_line p i ≡ []
  unfolding module_line
  module_none e = rw (eq-eqb _ 0 e) refl

  pub module_line_lem : (get_or p (first_module + words_per_module * i + 1) 0 ≡ 0 → ⊥)
      → line_text (module_label ++ decimal_text i) (get_or p (first_module + words_per_module * i) 0 ∷ get_or p (first_module + words_per_module * i + 1) 0 ∷ []) ≡ module_line p i
  unfolding module_line
  module_line_lem e = rw (ne_eqb _ 0 e, add-zero) refl

  pub segment_short : length (segment_line p i) ≤ max_line_text
  unfolding segment_line
  segment_short =
      let fields = segment_word p i 0 ∷ segment_word p i 1 ∷ segment_word p i 2 ∷ entry_word p ∷ [] in
      short (eqb (segment_word p i 2) 0) [] (line_text kernel_label fields) max_line_text (omega arith) (omega (arith, length_line kernel_label fields))

  pub module_short : length (module_line p i) ≤ max_line_text
  unfolding module_line
  module_short =
      let fields = module_word p i 0 ∷ module_word p i 1 ∷ [] in
      short (eqb (module_word p i 1) 0) [] (line_text (module_label ++ decimal_text i) fields) max_line_text (omega arith)
      (omega (arith, length_line (module_label ++ decimal_text i) fields, decimal_short i))

length_refusal : (s t : List ℕ) → length (refused_label ++ (s ++ (blank ∷ (t ++ (newline ∷ []))))) ≡ 8 + length s + 1 + length t + 1
length_refusal s t = simp length-append (omega arith)

pub refusal_short : (number item : ℕ) → length (refusal_text number item) ≤ max_line_text
unfolding refusal_text
refusal_short number item = omega (arith, length_refusal (decimal_text number) (decimal_text item), decimal_short number, decimal_short item)

module _ (p : List ℕ) where
  pub segments_short : (n : ℕ) → length (joined (segment_line p) n) ≤ max_line_text * n
  segments_short = joined_short (segment_line p) max_line_text (segment_short p)

  pub modules_short : (n : ℕ) → length (joined (module_line p) n) ≤ max_line_text * n
  modules_short = joined_short (module_line p) max_line_text (module_short p)

  pub report_of_refusal : (number_word p ≡ 0 → ⊥) → refusal_text (number_word p) (item_word p) ≡ report_of p
  unfolding report_of
  report_of_refusal e = rw (ne_eqb _ 0 e) refl

  pub report_of_load : number_word p ≡ 0 → joined (segment_line p) max_segments ++ joined (module_line p) max_modules ++ info_line p ≡ report_of p
  unfolding report_of
  report_of_load e = rw (eq-eqb _ 0 e) refl

  all_short : (s t u : List ℕ) → length s ≤ max_line_text * max_segments → length t ≤ max_line_text * max_modules → length u ≤ max_line_text → length (s ++ t ++ u) ≤ max_report
  all_short s t u f g h = simp length-append (omega arith)

  pub report_short : length (report_of p) ≤ max_report
  unfolding report_of
  report_short =
      let segments = joined (segment_line p) max_segments in
      let modules = joined (module_line p) max_modules in
      short (eqb (number_word p) 0) (segments ++ modules ++ info_line p) (refusal_text (number_word p) (item_word p)) max_report
      (all_short segments modules (info_line p) (segments_short max_segments) (modules_short max_modules) (omega (arith, length_line info_label (block_words p))))
      (omega (arith, refusal_short (number_word p) (item_word p)))
