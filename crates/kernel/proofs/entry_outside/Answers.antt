-- `kernel::entry_outside` meets its contract.
-- Assumes nothing.
use Rattle.std.proofs.Common.{ap, not, arith, rules, tests, ◌∙◌}
use Rattle.std.proofs.lemmas.Iterator.{YieldsList-from_slice}
use Rattle.std.proofs.lemmas.Iterator.Search.{any_from_yields_List}
use Rattle.address.specs.Address.{inside}
use Rattle.kernel.specs.declared.Segment.{Segment}
use Rattle.kernel.specs.Kernel.{no_segment}
use Rattle.kernel.specs.Checks.{entry_in, entry_outside}
use Rattle.kernel.proofs.AnyLaws.{any_listed}
use Rattle.kernel.proofs.entry_outside.Goals as goal

pub returns : goal.returns
unfolding entry_outside entry_in
returns c =
    let k = c.args.kernel.now in
    let among = λ (s : Segment). inside s.start.0 s.load_end.0 k.entry.0 in
    ap not (any_from_yields_List among _ _ _ c.any.ensures.ran (YieldsList-from_slice _ c.iter.ensures.rest) (λ x b q k. search (rules, tests)) ∙ any_listed among k.segments no_segment k.count (omega arith))
