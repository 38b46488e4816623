-- `memory_map::parse` meets its contract. The loop's invariant: the pairs before `at` are read, and keep their rules.
use Rattle.std.proofs.Common.{length, ◌-◌}
use Rattle.memory_map.proofs.ReadingLaws.{Reading}
use Rattle.memory_map.proofs.parse.Given as goal

abbrev pub invariant-loop-at : goal.invariant-loop-at
invariant-loop-at l = Reading l.m l.map l.at

abbrev pub decreases-loop-at : goal.decreases-loop-at
decreases-loop-at l = length l.m - l.at
