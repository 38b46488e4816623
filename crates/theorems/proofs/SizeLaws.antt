-- The command line in force and the length of the information block, by the bytes that are lent.
--     line_known          the line in force is the operator's or the submission's
--     strings_size_lem    how many bytes the first strings take
--     block_size_lem      how long the block is
-- Assumes nothing.
use Rattle.std.specs.Prelude.{◌≡◌, refl, List, ℕ, zero, suc, ◌+◌, ◌≤◌, length}
use Rattle.std.proofs.Common.{ap, ◌∙◌, add-one, arith}
use Rattle.laws.specs.Table.{listed}
use Rattle.submission.specs.declared.Module.{Module}
use Rattle.submission.specs.declared.Layout.{Layout}
use Rattle.submission.specs.Format.{module_count}
use Rattle.submission.specs.FormatLaws.{module_at, layout_count}
use Rattle.submission.specs.Layout.{layout_of}
use Rattle.command_line.specs.CommandLineLaws.{in_force}
use Rattle.decision.specs.Lent.{Lent}
use Rattle.decision.specs.Read.{layout_in, line_in, block_length_in}
use Rattle.decision.specs.DecisionLaws.{LentPassed}
use Rattle.block.specs.TextSize.{text_size, strings_size}
use Rattle.block.specs.Block.{texts_size, string_lengths}
use Rattle.block.specs.TextLaws.{strings_more, block_length_lem}
use Rattle.theorems.specs.Promises.{line_of, block_size}

pub line_known : (x : Lent) → LentPassed x → line_in x ≡ line_of x
line_known x p = in_force x.operator x.submission p.rules p.operator

strings_none : (l : Layout) → texts_size (string_lengths l 0) ≡ 0
unfolding texts_size string_lengths listed
strings_none l = refl

pub strings_size_lem : (s : List ℕ) (n : ℕ) → n ≤ module_count s → texts_size (string_lengths (layout_of s) n) ≡ strings_size s n
unfolding strings_size
strings_size_lem s zero l = strings_none (layout_of s)
strings_size_lem s (suc n) l =
    rw (← add-one n, strings_more (layout_of s) n, strings_size_lem s n (omega arith))
    (ap (λ (m : Module). strings_size s n + text_size m.string.len) (module_at s n (omega arith)))

pub block_size_lem : (x : Lent) → LentPassed x → block_length_in x ≡ block_size x
block_size_lem x p =
    let s = x.submission in
    let n : text_size (length (line_in x)) ≡ text_size (length (line_of x)) = ap (λ (l : List ℕ). text_size (length l)) (line_known x p) in
    let m : texts_size (string_lengths (layout_in x) (layout_in x).count) ≡ strings_size s (module_count s) = ap (λ (k : ℕ). texts_size (string_lengths (layout_in x) k)) (layout_count s) ∙ strings_size_lem s (module_count s) (omega arith) in
    block_length_lem (layout_in x) (layout_in x).count (length x.map) (length (line_in x)) ∙ omega (arith, layout_count s)
