-- `placement::free::taken_edge` meets its contract.
-- Assumes nothing.
use Rattle.std.specs.Prelude.{take}
use Rattle.std.proofs.Common.{rules, tests}
use Rattle.std.proofs.lemmas.Iterator.{YieldsList-from_slice}
use Rattle.std.proofs.lemmas.Iterator.Consumers.{fold_from_yields_List}
use Rattle.placement.proofs.TakenLaws.{further, taken_edge_lem}
use Rattle.placement.proofs.free.taken_edge.Goals as goal

pub returns : goal.returns
returns c =
    let t = c.args.taken.now in
    taken_edge_lem t c.args.x.0 c.args.e _
    (fold_from_yields_List _ (further c.args.x.0) c.args.e _ c.fold.ensures.ran (YieldsList-from_slice (take t.count t.list) cc) (λ f s r q k. search (rules, tests)))
