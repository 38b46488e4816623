-- The loop's invariant: the lines of the modules passed are written.
use Rattle.viertompu.specs.Joined.{joined}
use Rattle.report.specs.Adds.{Adds}
use Rattle.report.specs.Report.{module_line}
use Rattle.report.proofs.write_modules.Given as goal

abbrev pub invariant-loop-i : goal.invariant-loop-i
invariant-loop-i l = Adds l.fn.out (joined (module_line l.plan) l.i) l.out
