-- `report::writer::Writer::decimal` meets its contract: the digits behind the zeros in front.
use Rattle.std.proofs.Common.{refl}
use Rattle.report.proofs.DigitLaws.{decimal_is}
use Rattle.report.proofs.writer.Writer.decimal.Goals as goal

pub returns : goal.returns
returns c = rw (decimal_is c.spell-list.result _ _ c.args.x c.spell-list.ensures c.leading-from.ensures.value refl) at c.bytes.ensures
