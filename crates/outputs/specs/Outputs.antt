-- What a caller and a reader are given: p are the words that `viertompu::viertompu_load` writes for a decision d, q is the plan
-- of d, t is the text that `report::write_report` makes of them.
--     Exported                                                   the words of a load are the numbers of its plan
--     kernel_line_of, module_line_of, block_line_of, lines_of    the lines of a load, with the same numbers
--     Outputs                                                    both, and what a refusal gives
-- The proof is in OutputsLaws.
-- Assumes nothing.
use Rattle.std.specs.Prelude.{◌≡◌, List, [], ◌∷◌, ◌++◌, ℕ, ◌+◌, ◌*◌, ◌^◌, ◌≤◌, ◌<◌, length, get_or}
use Rattle.buffer.specs.Patched.{zeros}
use Rattle.address.specs.Span.{span_no}
use Rattle.answer.specs.Answer.{number_of, item_of}
use Rattle.kernel.specs.Kernel.{segment_no}
use Rattle.decision.specs.declared.Plan.{Plan}
use Rattle.decision.specs.Plan.{Decision, plan_given}
use Rattle.viertompu.specs.Joined.{joined}
use Rattle.report.specs.Text.{decimal_text}
use Rattle.report.specs.Report.{kernel_label, module_label, info_label, line_text, refusal_text}

-- the words p of a load with the plan q: each is the number itself
pub record Exported (q : Plan) (p : List ℕ) : Type 0 where
  pub number : get_or p 0 0 ≡ 0
  pub item : get_or p 1 0 ≡ 0
  pub header : get_or p 2 0 ≡ q.kernel.header.0
  pub entry : get_or p 3 0 ≡ q.kernel.entry.0
  pub eax : get_or p 4 0 ≡ q.eax
  pub ebx : get_or p 5 0 ≡ q.ebx
  pub block_start : get_or p 6 0 ≡ q.block.start.0
  pub block_end : get_or p 7 0 ≡ q.block.end.0
  -- three words for each of 16 segments
  pub starts : (i : ℕ) → i < 16 → get_or p (8 + 3 * i) 0 ≡ (segment_no q.kernel i).start.0
  pub load_ends : (i : ℕ) → i < 16 → get_or p (8 + 3 * i + 1) 0 ≡ (segment_no q.kernel i).load_end.0
  pub extent_ends : (i : ℕ) → i < 16 → get_or p (8 + 3 * i + 2) 0 ≡ (segment_no q.kernel i).extent_end.0
  -- two words for each of 16 modules
  pub module_starts : (i : ℕ) → i < 16 → get_or p (56 + 2 * i) 0 ≡ (span_no q.modules i).start.0
  pub module_ends : (i : ℕ) → i < 16 → get_or p (56 + 2 * i + 1) 0 ≡ (span_no q.modules i).end.0
  -- the count of false headers, and zeros
  pub false_headers : get_or p 88 0 ≡ q.kernel.false_headers
  pub rest : (k : ℕ) → 89 ≤ k → get_or p k 0 ≡ 0

-- the line of a segment: start, load end, extent end, and the entry
abbrev pub kernel_line_of : Plan → ℕ → List ℕ
kernel_line_of q i =
    line_text kernel_label ((segment_no q.kernel i).start.0 ∷ (segment_no q.kernel i).load_end.0 ∷ (segment_no q.kernel i).extent_end.0 ∷ q.kernel.entry.0 ∷ [])

-- the line of a module: the index, start and end
abbrev pub module_line_of : Plan → ℕ → List ℕ
module_line_of q i = line_text (module_label ++ decimal_text i) ((span_no q.modules i).start.0 ∷ (span_no q.modules i).end.0 ∷ [])

-- the line of the information block: start and end
abbrev pub block_line_of : Plan → List ℕ
block_line_of q = line_text info_label (q.block.start.0 ∷ q.block.end.0 ∷ [])

-- a line for each segment, one for each of n modules, and one for the information block
abbrev pub lines_of : Plan → ℕ → List ℕ
lines_of q n = joined (kernel_line_of q) q.kernel.count ++ joined (module_line_of q) n ++ block_line_of q

-- the words p and the text t for a decision on a submission with n modules
pub record Outputs (d : Decision) (n : ℕ) (p t : List ℕ) : Type 0 where
  -- there are 96 words, each of 32 bits
  pub size : length p ≡ 96
  pub low : (k : ℕ) → get_or p k 0 < 2 ^ 32
  -- a load gives the numbers of its plan, in words and in lines
  pub load_words : number_of d ≡ 0 → Exported (plan_given d) p
  pub load_text : number_of d ≡ 0 → t ≡ lines_of (plan_given d) n
  -- a refusal gives its number, its item and 94 zeros, and one line with the number and the item
  pub refusal_words : (number_of d ≡ 0 → ⊥) → p ≡ number_of d ∷ item_of d ∷ zeros 94
  pub refusal_text : (number_of d ≡ 0 → ⊥) → t ≡ refusal_text (number_of d) (item_of d)
