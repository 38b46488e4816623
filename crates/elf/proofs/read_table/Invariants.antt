-- `elf::read_table` meets its contract. The loop's invariant: the segments among the entries passed stand in their places.
-- Assumes nothing.
use Rattle.std.proofs.Common.{◌≤◌}
use Rattle.elf.proofs.TurnLaws.{Gathered}
use Rattle.elf.proofs.read_table.Given as goal

abbrev pub invariant-loop-i : goal.invariant-loop-i
invariant-loop-i l = (l.count ≤ l.i) × Gathered l.image l.i l.segments l.count
