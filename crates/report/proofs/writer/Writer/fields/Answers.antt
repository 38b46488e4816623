-- `report::writer::Writer::fields` meets its contract: a row for each field, and the end of the line.
use Rattle.std.proofs.Common.{◌≡◌, arith, get_or, length}
use Rattle.report.specs.Text.{field_text, fields_text}
use Rattle.report.specs.TextLaws.{length_rows}
use Rattle.report.specs.AddsLaws.{adds_behind, adds_row}
use Rattle.report.proofs.writer.Writer.fields.Goals as goal

pub field-requires : goal.field-requires
field-requires c = omega (arith, length_rows c.args.fields.now c.loop-field.field-index, c.loop-field.invariant.wrote.ends)

pub loop-field-preserved : goal.loop-field-preserved
loop-field-preserved c = adds_row (λ j. field_text (get_or c.args.fields.now j 0)) _ c.loop-field.invariant c.field.ensures

pub bytes-requires : goal.bytes-requires
bytes-requires c = omega (arith, length_rows c.args.fields.now c.loop-field.field-index, c.loop-field.invariant.wrote.ends)

pub returns : goal.returns
unfolding fields_text
returns c =
    let e : c.loop-field.field-index ≡ length c.args.fields.now = omega arith in
    adds_behind (rw e at c.loop-field.invariant) c.bytes.ensures
