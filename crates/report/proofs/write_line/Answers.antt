-- `report::write_line` meets its contract: the fields behind the word.
use Rattle.report.specs.AddsLaws.{adds_behind}
use Rattle.report.proofs.write_line.Goals as goal

pub returns : goal.returns
returns c = adds_behind c.bytes.ensures c.fields.ensures
