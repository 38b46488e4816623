-- `report::write_refusal` meets its contract: its parts, one behind the other.
use Rattle.std.proofs.Common.{arith}
use Rattle.report.specs.TextLaws.{decimal_short}
use Rattle.report.specs.AddsLaws.{adds_behind}
use Rattle.report.specs.Report.{refusal_text}
use Rattle.report.proofs.write_refusal.Goals as goal

pub bytes-requires-2 : goal.bytes-requires-2
bytes-requires-2 c = omega (arith, c.bytes.ensures.wrote.ends, c.decimal.ensures.wrote.ends, decimal_short c.args.number)

pub decimal-requires-2 : goal.decimal-requires-2
decimal-requires-2 c =
    omega (arith, c.bytes.ensures.wrote.ends, c.decimal.ensures.wrote.ends, c.bytes-2.ensures.wrote.ends, decimal_short c.args.number)

pub bytes-requires-3 : goal.bytes-requires-3
bytes-requires-3 c =
    omega (arith, c.bytes.ensures.wrote.ends, c.decimal.ensures.wrote.ends, c.bytes-2.ensures.wrote.ends, c.decimal-2.ensures.wrote.ends, decimal_short c.args.number, decimal_short c.args.item)

pub returns : goal.returns
unfolding refusal_text
returns c =
    adds_behind c.bytes.ensures (adds_behind c.decimal.ensures (adds_behind c.bytes-2.ensures (adds_behind c.decimal-2.ensures c.bytes-3.ensures)))
