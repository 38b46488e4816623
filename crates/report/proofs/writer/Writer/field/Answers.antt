-- `report::writer::Writer::field` meets its contract: a blank, and the digits behind it.
use Rattle.report.specs.Text.{field_text}
use Rattle.report.specs.AddsLaws.{adds_behind}
use Rattle.report.proofs.writer.Writer.field.Goals as goal

pub returns : goal.returns
unfolding field_text
returns c = adds_behind c.bytes.ensures (rw c.spell-list.ensures at c.bytes-2.ensures)
