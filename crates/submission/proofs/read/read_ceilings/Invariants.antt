-- `submission::read::read_ceilings` meets its contract: the loop fills the front of a table.
use Rattle.std.proofs.Common.{◌≡◌, ◌++◌, drop, replicate}
use Rattle.submission.specs.Format.{max_modules}
use Rattle.submission.specs.Layout.{ceiling_table}
use Rattle.submission.proofs.read.read_ceilings.Given as goal

abbrev pub invariant-loop-i : goal.invariant-loop-i
invariant-loop-i l = l.ceiling-items ++ drop l.count (replicate max_modules 0) ≡ ceiling_table l.s l.i
