-- `loader::write::write_kernel` meets its contract. The loop's invariant: the segments passed are written, and nothing else.
use Rattle.std.proofs.Common.{◌≡◌}
use Rattle.laws.specs.Table.{listed}
use Rattle.buffer.specs.Writes.{written}
use Rattle.loader.specs.Memory.{segment_write}
use Rattle.loader.proofs.write.write_kernel.Given as goal

abbrev pub invariant-loop-segment : goal.invariant-loop-segment
invariant-loop-segment l = l.window ≡ written l.initial.window (listed (segment_write l.base.0 l.image l.fn.kernel) l.segment-index)
