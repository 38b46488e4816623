-- `viertompu::write_plan` meets its contract: a refusal's number and item stand over zeros.
-- Assumes nothing.
use Rattle.std.proofs.Common.{refl}
use Rattle.viertompu.proofs.TurnLaws.{refusal_written}
use Rattle.viertompu.proofs.write_plan.Goals as goal

pub returns-in-Err : goal.returns-in-Err
returns-in-Err c = rw c.in-Err.is (refusal_written _ _ _ _ refl c.number.ensures c.item.ensures)
