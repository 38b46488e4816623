-- `submission::rules::entries_hold` meets its contract: the closure tests each number below the count.
use Rattle.std.proofs.Common.{◌∙◌, refl, arith, rules, tests}
use Rattle.std.proofs.lemmas.Iterator.{YieldsList-from_range}
use Rattle.std.proofs.lemmas.Iterator.Search.{all_from_yields_List}
use Rattle.submission.specs.Rules.{entry_holds}
use Rattle.submission.proofs.TurnLaws.{all_range}
use Rattle.submission.proofs.rules.entries_hold.Goals as goal

pub returns : goal.returns
returns c =
    all_from_yields_List (entry_holds c.args.s.now) _ _ _ c.all.ensures.ran (YieldsList-from_range 0 c.args.count c.args.count refl (omega arith)) (λ x b q k. search (rules, tests))
    ∙ all_range (entry_holds c.args.s.now) c.args.count
