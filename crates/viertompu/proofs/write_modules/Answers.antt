-- `viertompu::write_modules` meets its contract: each turn writes the words of one module.
use Rattle.std.proofs.Common.{sym}
use Rattle.buffer.specs.PatchedLaws.{patched-nil}
use Rattle.viertompu.specs.Joined.{joined}
use Rattle.viertompu.proofs.TurnLaws.{module_written}
use Rattle.viertompu.proofs.write_modules.Goals as goal

pub loop-i-init : goal.loop-i-init
unfolding joined
loop-i-init c = sym (patched-nil _ _)

pub loop-i-preserved : goal.loop-i-preserved
loop-i-preserved c = module_written c.args.plan.now c.args.modules.now c.loop-i.i c.loop-i.plan _ _ c.loop-i.invariant (cc)
