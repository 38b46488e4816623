-- `board::Board::all_open` meets its contract. The loop's invariant: from the start up to x all addresses are open.
use Rattle.std.proofs.Common.{◌-◌}
use Rattle.edge.specs.PassLaws.{AllPass}
use Rattle.board.specs.Open.{is_open}
use Rattle.board.proofs.Board.all_open.Given as goal

abbrev pub invariant-loop-x : goal.invariant-loop-x
invariant-loop-x l = AllPass (is_open l.self) l.span.start.0 l.x.0

abbrev pub decreases-loop-x : goal.decreases-loop-x
decreases-loop-x l = l.span.end.0 - l.x.0
