-- `report::digits::spell` meets its contract: each turn spells one digit in front of the others.
use Rattle.std.proofs.Common.{◌∙◌, length-set, rules}
use Rattle.report.proofs.DigitLaws.{spelled_more, spelled_all}
use Rattle.report.proofs.digits.spell.Goals as goal

pub loop-i-preserved : goal.loop-i-preserved
loop-i-preserved g c = record {
  spelled =
      c.loop-i.invariant.spelled ∙ spelled_more c.loop-i.list c.args.base c.loop-i.i c.loop-i.rest _ (search rules) (search rules) c.glyph.ensures;
  long = simp length-set c.loop-i.invariant.long;
}

pub returns : goal.returns
returns g c = spelled_all c.loop-i.list c.args.base c.loop-i.i c.loop-i.rest (search rules) c.loop-i.invariant.spelled
