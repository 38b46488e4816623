-- The report on a plan.                                                                               rule: REVIEW
--     kernel_label, module_label, info_label, refused_label    what the lines begin with
--     number_word, item_word, entry_word, block_words          what a plan's words say
--     line_text                                                a word, and addresses
--     segment_line, module_line, info_line, refusal_text       each line
--     report_of                                                the whole text
--     max_line_text, max_report                                no line and no report is longer
-- Assumes nothing.
use Rattle.std.specs.Prelude.{cond, List, [], ◌∷◌, ◌++◌, ℕ, ◌+◌, ◌*◌, eqb, get_or}
use Rattle.submission.specs.Format.{max_modules}
use Rattle.kernel.specs.Kernel.{max_segments}
use Rattle.viertompu.specs.Joined.{joined}
use Rattle.viertompu.specs.Words.{first_segment, words_per_segment, first_module, words_per_module}
use Rattle.report.specs.Text.{blank, newline, decimal_text, fields_text}

-- `kernel`, `module `, `info`, `refused `
abbrev pub kernel_label : List ℕ
kernel_label = 107 ∷ 101 ∷ 114 ∷ 110 ∷ 101 ∷ 108 ∷ []

abbrev pub module_label : List ℕ
module_label = 109 ∷ 111 ∷ 100 ∷ 117 ∷ 108 ∷ 101 ∷ blank ∷ []

abbrev pub info_label : List ℕ
info_label = 105 ∷ 110 ∷ 102 ∷ 111 ∷ []

abbrev pub refused_label : List ℕ
refused_label = 114 ∷ 101 ∷ 102 ∷ 117 ∷ 115 ∷ 101 ∷ 100 ∷ blank ∷ []

-- the words of a plan, in the order of `plan_words`
abbrev pub number_word : List ℕ → ℕ
number_word p = get_or p 0 0

abbrev pub item_word : List ℕ → ℕ
item_word p = get_or p 1 0

abbrev pub entry_word : List ℕ → ℕ
entry_word p = get_or p 3 0

abbrev pub block_words : List ℕ → List ℕ
block_words p = get_or p 6 0 ∷ get_or p 7 0 ∷ []

abbrev pub segment_word : List ℕ → ℕ → ℕ → ℕ
segment_word p i j = get_or p (first_segment + words_per_segment * i + j) 0

abbrev pub module_word : List ℕ → ℕ → ℕ → ℕ
module_word p i j = get_or p (first_module + words_per_module * i + j) 0

abbrev pub line_text : List ℕ → List ℕ → List ℕ
line_text label fields = label ++ fields_text fields

-- load start, load end, extent end, entry; a place whose segment ends at 0 has no line
unfoldable pub segment_line : List ℕ → ℕ → List ℕ
segment_line p i =
    cond (eqb (segment_word p i 2) 0) []
    (line_text kernel_label (segment_word p i 0 ∷ segment_word p i 1 ∷ segment_word p i 2 ∷ entry_word p ∷ []))

-- the index, start, end; a place whose module ends at 0 has no line
unfoldable pub module_line : List ℕ → ℕ → List ℕ
module_line p i =
    cond (eqb (module_word p i 1) 0) []
    (line_text (module_label ++ decimal_text i) (module_word p i 0 ∷ module_word p i 1 ∷ []))

-- start, end
abbrev pub info_line : List ℕ → List ℕ
info_line p = line_text info_label (block_words p)

-- the number and the item
unfoldable pub refusal_text : ℕ → ℕ → List ℕ
refusal_text number item = refused_label ++ (decimal_text number ++ (blank ∷ (decimal_text item ++ (newline ∷ []))))

unfoldable pub report_of : List ℕ → List ℕ
report_of p =
    cond (eqb (number_word p) 0)
    (joined (segment_line p) max_segments ++ joined (module_line p) max_modules ++ info_line p)
    (refusal_text (number_word p) (item_word p))

abbrev pub max_line_text : ℕ
max_line_text = 48

abbrev pub max_report : ℕ
max_report = 1584
