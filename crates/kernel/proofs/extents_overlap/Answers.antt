-- `kernel::extents_overlap` meets its contract.
-- Assumes nothing.
use Rattle.std.proofs.Common.{refl, arith, rules, tests, ◌∙◌}
use Rattle.std.proofs.lemmas.Iterator.{YieldsList-from_range}
use Rattle.std.proofs.lemmas.Iterator.Search.{any_from_yields_List}
use Rattle.kernel.specs.Checks.{overlaps_earlier, extents_overlap}
use Rattle.kernel.proofs.AnyLaws.{any_counted}
use Rattle.kernel.proofs.extents_overlap.Goals as goal

pub returns : goal.returns
unfolding extents_overlap
returns c =
    let k = c.args.kernel.now in
    any_from_yields_List (overlaps_earlier k) _ _ _ c.any.ensures.ran (YieldsList-from_range 0 k.count k.count refl (omega arith)) (λ x b q k. search (rules, tests)) ∙ any_counted (overlaps_earlier k) k.count
