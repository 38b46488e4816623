-- The loop's invariant: the fields passed are written.
use Rattle.std.proofs.Common.{get_or}
use Rattle.viertompu.specs.Joined.{joined}
use Rattle.report.specs.Text.{field_text}
use Rattle.report.specs.Adds.{Adds}
use Rattle.report.proofs.writer.Writer.fields.Given as goal

abbrev pub invariant-loop-field : goal.invariant-loop-field
invariant-loop-field l = Adds l.fn.self (joined (λ j. field_text (get_or l.fields j 0)) l.field-index) l.self
