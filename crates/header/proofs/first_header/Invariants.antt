-- `header::first_header` meets its contract. The loop's invariant: the search has passed the offsets of the places before.
-- Assumes nothing.
use Rattle.std.proofs.Common.{◌*◌}
use Rattle.header.proofs.TurnLaws.{Passed}
use Rattle.header.proofs.first_header.Given as goal

abbrev pub invariant-loop-place : goal.invariant-loop-place
invariant-loop-place l = Passed l.s (4 * l.place) l.passed
