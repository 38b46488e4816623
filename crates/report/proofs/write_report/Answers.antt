-- `report::write_report` meets its contract: the lines of a load, or the line of a refusal.
use Rattle.std.proofs.Common.{arith, rules}
use Rattle.report.specs.AddsLaws.{adds_ended}
use Rattle.report.specs.ReportLaws.{report_of_load, report_of_refusal, report_short}
use Rattle.report.proofs.write_report.Goals as goal
use Rattle.report.proofs.write_report.Goals.{then-plan-eq0, else-plan-eq0}

pub returns-clause-wrote : goal.returns-clause-wrote
returns-clause-wrote c =
    let p = c.args.plan.now in
    elim c.if-plan-eq0.branch [
      | then-plan-eq0 w ↦ rw (← report_of_load p w.if-plan-eq0.true, w.out-is) (adds_ended w.write_load.ensures (search rules))
      | else-plan-eq0 w ↦ rw (← report_of_refusal p w.if-plan-eq0.false, w.out-is) (adds_ended w.write_refusal.ensures (search rules))
    ]

pub returns-clause-upper_bound : goal.returns-clause-upper_bound
returns-clause-upper_bound c = omega (arith, (returns-clause-wrote c).ends, report_short c.args.plan.now)
