-- `viertompu::write_load` meets its contract: head, segments and modules, one behind the other, over zeros, and the count
-- behind them.
-- Assumes nothing.
use Rattle.viertompu.proofs.TurnLaws.{plan_written}
use Rattle.viertompu.proofs.write_load.Goals as goal

pub returns : goal.returns
returns c = plan_written c.args.of_load.now _ _ _ _ c.requires c.write_head.ensures c.write_segments.ensures c.write_modules.ensures
