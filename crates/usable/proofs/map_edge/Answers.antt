-- `usable::map_edge` meets its contract.
use Rattle.std.proofs.Common.{◌≡◌, refl, rules, fold, List, Bor}
use Rattle.std.proofs.lemmas.Fn.{fold_over, slice_gives, fronts}
use Rattle.address.specs.declared.PhysAddr.{PhysAddr}
use Rattle.memory_map.specs.declared.Pair.{Pair}
use Rattle.usable.proofs.ScanLaws.{with_pair, fold_more_pair, edge_end}
use Rattle.usable.proofs.map_edge.Goals as goal

pub returns : goal.returns
returns c =
    let h : c.fold.result.0 ≡ fold (with_pair c.args.x.0) c.nearer-end.result.0 c.iter.result.rest.now =
    fold_over fronts (λ (p : Bor Pair). p.now) _ (λ (ps : List Pair) (f : PhysAddr). f.0 ≡ fold (with_pair c.args.x.0) c.nearer-end.result.0 ps) _
    (λ ps a p b f j k. search (rules, fold_more_pair)) c.iter.result _ _ _ (slice_gives c.iter.result) refl c.fold.ensures.ran in
    edge_end _ _ _ _ _ c.nearer-end.ensures (rw (c.iter.ensures.rest, c.pairs.ensures) at h)
