-- `viertompu::write_segments` meets its contract: each turn writes the words of one segment.
use Rattle.std.proofs.Common.{sym}
use Rattle.buffer.specs.PatchedLaws.{patched-nil}
use Rattle.viertompu.specs.Joined.{joined}
use Rattle.viertompu.proofs.TurnLaws.{segment_written}
use Rattle.viertompu.proofs.write_segments.Goals as goal

pub loop-i-init : goal.loop-i-init
unfolding joined
loop-i-init c = sym (patched-nil _ _)

pub loop-i-preserved : goal.loop-i-preserved
loop-i-preserved c = segment_written c.args.plan.now c.args.kernel.now c.loop-i.i c.loop-i.plan _ _ _ c.loop-i.invariant (cc)
