-- `submission::read::read_layout` meets its contract. The loop's invariant: the modules passed stand in the table, and
-- `at` is where the next one's data begins; seventeen lengths of 32 bits do not come near 2^64.
use Rattle.std.proofs.Common.{◌≡◌, ◌+◌, ◌*◌, ◌^◌, ◌≤◌, ◌++◌, drop, replicate}
use Rattle.submission.specs.Format.{data_start, max_modules}
use Rattle.submission.specs.Layout.{no_module, module_table}
use Rattle.submission.proofs.read.read_layout.Given as goal

abbrev pub invariant-loop-i : goal.invariant-loop-i
invariant-loop-i l =
    (l.module-items ++ drop l.count (replicate max_modules no_module) ≡ module_table l.s l.i) × (l.at ≡ data_start l.s l.i) × (l.at ≤ 2 ^ 33 * (l.i + 1))
