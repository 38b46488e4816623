-- The loop's invariant: the digits from i on are spelled, those before are the rest's.
use Rattle.std.proofs.Common.{◌≡◌, ◌++◌, length, drop}
use Rattle.report.specs.Text.{digits_of}
use Rattle.report.proofs.digits.spell.Given as goal

abbrev pub invariant-loop-i : goal.invariant-loop-i
invariant-loop-i g l = record {
  spelled : digits_of l.base g.row.K l.x ≡ digits_of l.base l.i l.rest ++ drop l.i l.list;
  long : length l.list ≡ g.row.K;
}
