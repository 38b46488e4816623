-- `placement::lowest::lowest_place` meets its contract. The loop's invariant: what `Tried` says of the candidate a and the address x reached.
use Rattle.std.proofs.Common.{◌-◌}
use Rattle.placement.proofs.StepLaws.{Walked}
use Rattle.placement.proofs.lowest.lowest_place.Given as goal

abbrev pub invariant-loop-a : goal.invariant-loop-a
invariant-loop-a l = Walked l.board l.taken l.item l.a.0 l.x.0

abbrev pub decreases-loop-a : goal.decreases-loop-a
decreases-loop-a l = l.board.window.end.0 - l.x.0
