-- `placement::free::is_taken` meets its contract.
-- Assumes nothing.
use Rattle.std.specs.Prelude.{take}
use Rattle.std.proofs.Common.{rules, tests, ◌∙◌}
use Rattle.std.proofs.lemmas.Iterator.{YieldsList-from_slice}
use Rattle.std.proofs.lemmas.Iterator.Search.{any_from_yields_List}
use Rattle.address.specs.Address.{inside}
use Rattle.address.specs.declared.Span.{Span}
use Rattle.placement.proofs.TakenLaws.{is_taken_lem}
use Rattle.placement.proofs.free.is_taken.Goals as goal

pub returns : goal.returns
returns c =
    let t = c.args.taken.now in
    let holds = λ (s : Span). inside s.start.0 s.end.0 c.args.a.0 in
    any_from_yields_List holds _ _ _ c.any.ensures.ran (YieldsList-from_slice (take t.count t.list) cc) (λ x b q k. search (rules, tests)) ∙ is_taken_lem _ _
