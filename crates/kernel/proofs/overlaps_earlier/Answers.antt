-- `kernel::overlaps_earlier` meets its contract.
-- Assumes nothing.
use Rattle.std.proofs.Common.{arith, rules, tests, ◌∙◌}
use Rattle.std.proofs.lemmas.Iterator.{YieldsList-from_slice}
use Rattle.std.proofs.lemmas.Iterator.Search.{any_from_yields_List}
use Rattle.address.specs.Span.{overlap}
use Rattle.kernel.specs.declared.Segment.{Segment}
use Rattle.kernel.specs.Kernel.{no_segment, extent_no}
use Rattle.kernel.specs.Checks.{overlap_no, overlaps_earlier}
use Rattle.kernel.proofs.AnyLaws.{any_listed}
use Rattle.kernel.proofs.overlaps_earlier.Goals as goal

pub returns : goal.returns
unfolding overlaps_earlier overlap_no
returns c =
    let k = c.args.kernel.now in
    let j = c.args.j in
    let shares = λ (s : Segment). overlap (record { start = s.start; end = s.extent_end }) (extent_no k j) in
    any_from_yields_List shares _ _ _ c.any.ensures.ran (YieldsList-from_slice _ c.iter.ensures.rest) (λ x b q k. search (rules, tests)) ∙ any_listed shares k.segments no_segment j (omega arith)
