-- `submission::rules::rules_hold` meets its contract: its tests are those of the definition, of the layout that was read.
use Rattle.std.proofs.Common.{arith, tests}
use Rattle.submission.proofs.ParseLaws.{count_is, rules_told}
use Rattle.submission.proofs.rules.rules_hold.Goals as goal

pub entries_hold-requires : goal.entries_hold-requires
entries_hold-requires c = omega (arith, count_is c.args.s.now c.args.l.now c.requires.0)

pub returns-then-not-has_zero : goal.returns-then-not-has_zero
returns-then-not-has_zero c =
    let e = rules_told c.args.s.now c.args.l.now c.requires.0 c.requires.1 in
    grind (arith, tests)

pub returns-else-not-has_zero : goal.returns-else-not-has_zero
returns-else-not-has_zero c =
    let e = rules_told c.args.s.now c.args.l.now c.requires.0 c.requires.1 in
    grind (arith, tests)
