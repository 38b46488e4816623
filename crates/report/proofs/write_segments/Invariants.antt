-- The loop's invariant: the lines of the segments passed are written.
use Rattle.viertompu.specs.Joined.{joined}
use Rattle.report.specs.Adds.{Adds}
use Rattle.report.specs.Report.{segment_line}
use Rattle.report.proofs.write_segments.Given as goal

abbrev pub invariant-loop-start : goal.invariant-loop-start
invariant-loop-start l = Adds l.fn.out (joined (segment_line l.plan) l.start-index) l.out
