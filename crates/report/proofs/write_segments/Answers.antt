-- `report::write_segments` meets its contract: each turn writes the line of one segment.
use Rattle.std.proofs.Common.{arith}
use Rattle.report.specs.AddsLaws.{adds_nothing, adds_row}
use Rattle.report.specs.Report.{segment_line}
use Rattle.report.proofs.RowLaws.{segment_some, segment_past}
use Rattle.report.proofs.write_segments.Goals as goal
use Rattle.report.proofs.write_segments.Goals.{then-end-ne0, else-end-ne0}

pub loop-start-preserved : goal.loop-start-preserved
loop-start-preserved c =
    let p = c.args.plan.now in
    let i = c.loop-start.start-index in
    adds_row (segment_line p) i c.loop-start.invariant
    (elim c.if-end-ne0.branch [
      | then-end-ne0 w ↦
          rw (← segment_some p _ i _ (omega arith) c.as_chunks.ensures.front (omega arith) w.if-end-ne0.true, w.out-is) w.write_line.ensures
      | else-end-ne0 w ↦ rw (segment_past p _ i _ (omega arith) c.as_chunks.ensures.front (omega arith) w.if-end-ne0.false, w.out-is) adds_nothing
    ])
