-- What the program prints for what it reads.                                                           rule: REVIEW
--     pair_bytes, board_map           the board's memory map
--     first_address, window_length    the window
--     lent_with                       what is lent with a submission
--     review_of                       the report on it
--     max_input, over_message         the longest input that is reviewed, and what is printed for a longer one
--     printed_for                     the message or the report
-- Assumes nothing.
use Rattle.std.specs.Prelude.{cond, List, [], ◌∷◌, ◌++◌, ℕ, ltb, length}
use Rattle.number.specs.Number.{number_bytes}
use Rattle.decision.specs.Lent.{Lent}
use Rattle.decision.specs.Decision.{decision_of}
use Rattle.viertompu.specs.Words.{plan_words}
use Rattle.report.specs.Text.{blank, newline}
use Rattle.report.specs.Report.{report_of}

-- a pair of size 20: base, length, and type 1 for usable memory
unfoldable pub pair_bytes : ℕ → ℕ → List ℕ
pair_bytes base n = number_bytes 4 20 ++ number_bytes 8 base ++ number_bytes 8 n ++ number_bytes 4 1

unfoldable pub board_map : List ℕ
board_map = pair_bytes 0 0x9FC00 ++ pair_bytes 0x100000 0x700000

abbrev pub first_address : ℕ
first_address = 0x100000

abbrev pub window_length : ℕ
window_length = 49152

-- no operator's line
abbrev pub lent_with : List ℕ → Lent
lent_with s = record { submission = s; operator = []; map = board_map; first = first_address; size = window_length }

unfoldable pub review_of : List ℕ → List ℕ
review_of s = report_of (plan_words (decision_of (lent_with s)))

abbrev pub max_input : ℕ
max_input = 12288

-- `input over 12288 bytes`, and the end of the line
abbrev pub over_message : List ℕ
over_message = 105 ∷ 110 ∷ 112 ∷ 117 ∷ 116 ∷ blank ∷ 111 ∷ 118 ∷ 101 ∷ 114 ∷ blank ∷ 49 ∷ 50 ∷ 50 ∷ 56 ∷ 56 ∷ blank ∷ 98 ∷ 121 ∷ 116 ∷ 101 ∷ 115 ∷ newline ∷ []

-- what is printed where the bytes s were read
unfoldable pub printed_for : List ℕ → List ℕ
printed_for s = cond (ltb max_input (length s)) over_message (review_of s)
