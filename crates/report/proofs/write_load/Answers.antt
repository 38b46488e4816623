-- `report::write_load` meets its contract: the lines of segments, of modules and of the block, one behind the other.
use Rattle.std.proofs.Common.{arith}
use Rattle.submission.specs.Format.{max_modules}
use Rattle.kernel.specs.Kernel.{max_segments}
use Rattle.viertompu.specs.JoinedLaws.{joined_short}
use Rattle.report.specs.AddsLaws.{adds_behind}
use Rattle.report.specs.Report.{max_line_text, segment_line, module_line}
use Rattle.report.specs.ReportLaws.{segment_short, module_short}
use Rattle.report.proofs.write_load.Goals as goal

pub write_modules-requires : goal.write_modules-requires
write_modules-requires c =
    let p = c.args.plan.now in
    omega (arith, c.write_segments.ensures.wrote.ends, joined_short (segment_line p) max_line_text (segment_short p) max_segments)

pub write_line-requires : goal.write_line-requires
write_line-requires c =
    let p = c.args.plan.now in
    omega (arith, c.write_segments.ensures.wrote.ends, joined_short (segment_line p) max_line_text (segment_short p) max_segments, c.write_modules.ensures.wrote.ends, joined_short (module_line p) max_line_text (module_short p) max_modules)

pub returns : goal.returns
returns c = adds_behind (adds_behind c.write_segments.ensures c.write_modules.ensures) c.write_line.ensures
