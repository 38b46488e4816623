-- `report::write_modules` meets its contract: each turn writes the line of one module.
use Rattle.std.proofs.Common.{arith}
use Rattle.report.specs.AddsLaws.{adds_nothing, adds_behind, adds_row}
use Rattle.report.specs.Report.{module_line}
use Rattle.report.proofs.RowLaws.{module_some, module_past}
use Rattle.report.proofs.write_modules.Goals as goal
use Rattle.report.proofs.write_modules.Goals.{then-end-ne0, else-end-ne0}

pub loop-i-preserved : goal.loop-i-preserved
loop-i-preserved c =
    let p = c.args.plan.now in
    let i = c.loop-i.i in
    adds_row (module_line p) i c.loop-i.invariant
    (elim c.if-end-ne0.branch [
      | then-end-ne0 w ↦
          rw (← module_some p _ i _ (omega arith) c.as_chunks.ensures.front (omega arith) w.if-end-ne0.true, w.out-is)
          (adds_behind (adds_behind w.bytes.ensures w.decimal.ensures) w.fields.ensures)
      | else-end-ne0 w ↦ rw (module_past p _ i _ (omega arith) c.as_chunks.ensures.front (omega arith) w.if-end-ne0.false, w.out-is) adds_nothing
    ])
