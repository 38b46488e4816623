-- The plan as words.                                                                                    rule: PLAN
--     plan_size, first_segment, first_module     how many words there are, and where segments and modules begin
--     words_per_segment, words_per_module        how many words each of them has
--     word_of                                    an address or an offset as a word
--     head_words, segment_words, module_words    the words before the segments, of one segment, of one module
--     segments_words, modules_words              of all segments, of all modules
--     plan_words                                 all words of a decision
-- Assumes nothing.
use Rattle.std.specs.Prelude.{List, [], ◌∷◌, ◌++◌, ℕ, ◌%◌, ◌^◌}
use Rattle.buffer.specs.Patched.{zeros}
use Rattle.address.specs.declared.Span.{Span}
use Rattle.address.specs.Span.{span_no}
use Rattle.answer.specs.Answer.{number_of, item_of}
use Rattle.submission.specs.Format.{max_modules}
use Rattle.kernel.specs.declared.Kernel.{Kernel}
use Rattle.kernel.specs.Kernel.{max_segments, segment_no}
use Rattle.decision.specs.Plan.{Decision, plan_given}
use Rattle.viertompu.specs.Joined.{joined}

abbrev pub plan_size : ℕ
plan_size = 96

abbrev pub first_segment : ℕ
first_segment = 8

abbrev pub first_module : ℕ
first_module = 56

abbrev pub words_per_segment : ℕ
words_per_segment = 3

abbrev pub words_per_module : ℕ
words_per_module = 2

-- in a load every address and the header's offset are below 2^32, and in a mend the offset is
abbrev pub word_of : ℕ → ℕ
word_of a = a % 2 ^ 32

-- number, item, header offset, entry, EAX, EBX, the information block's start and end
unfoldable pub head_words : Decision → List ℕ
head_words d =
    let q = plan_given d in
    number_of d
    ∷ item_of d
    ∷ word_of q.kernel.header.0
    ∷ word_of q.kernel.entry.0
    ∷ q.eax
    ∷ q.ebx
    ∷ word_of q.block.start.0
    ∷ word_of q.block.end.0
    ∷ []

-- start, load end, extent end
abbrev pub segment_words : Kernel → ℕ → List ℕ
segment_words k i = word_of (segment_no k i).start.0 ∷ word_of (segment_no k i).load_end.0 ∷ word_of (segment_no k i).extent_end.0 ∷ []

-- start, end
abbrev pub module_words : List Span → ℕ → List ℕ
module_words m i = word_of (span_no m i).start.0 ∷ word_of (span_no m i).end.0 ∷ []

abbrev pub segments_words : Kernel → List ℕ
segments_words k = joined (segment_words k) max_segments

abbrev pub modules_words : List Span → List ℕ
modules_words m = joined (module_words m) max_modules

-- the word behind them is how many false headers stand below the header, and seven are zeros
unfoldable pub plan_words : Decision → List ℕ
plan_words d =
    let q = plan_given d in
    head_words d ++ segments_words q.kernel ++ modules_words q.modules ++ (q.kernel.false_headers ∷ zeros 7)
