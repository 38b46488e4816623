-- `loader::write::write_kernel` meets its contract.
use Rattle.std.proofs.Common.{◌≡◌, arith}
use Rattle.loader.proofs.TurnLaws.{none_written, segment_written}
use Rattle.loader.proofs.write.write_kernel.Goals as goal

pub loop-segment-init : goal.loop-segment-init
loop-segment-init c = none_written _ _

pub loop-segment-preserved : goal.loop-segment-preserved
loop-segment-preserved c =
    segment_written c.args.base.0 c.args.image.now c.args.kernel.now c.args.kernel.now.count _ _ _ c.loop-segment.segment-index (omega arith) c.loop-segment.invariant c.write_segment.ensures

pub returns : goal.returns
returns c = let e : c.loop-segment.segment-index ≡ c.args.kernel.now.count = omega arith in rw e at c.loop-segment.invariant
