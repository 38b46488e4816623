-- `items::extents` meets its contract.
use Rattle.std.proofs.Common.{refl, ◌≡◌, ◌<◌, ◌∙◌, ap, arith, replicate}
use Rattle.std.proofs.lemmas.List.{get_or-take}
use Rattle.laws.proofs.TableLaws.{table_none, table_more}
use Rattle.address.specs.Span.{no_span}
use Rattle.kernel.specs.Kernel.{no_segment, extent_no}
use Rattle.placement.specs.Free.{max_spans}
use Rattle.items.specs.LoadItems.{extents_of}
use Rattle.items.proofs.extents.Goals as goal

pub loop-i-init : goal.loop-i-init
loop-i-init c = (ap (replicate max_spans) c.none.ensures ∙ table_none _ max_spans no_span, refl)

pub loop-i-preserved : goal.loop-i-preserved
loop-i-preserved c =
    let room : c.loop-i.i < max_spans = omega arith in
    let l : c.loop-i.i < c.args.kernel.now.count = omega arith in
    let t = c.loop-i.invariant.0 in
    (cc (get_or-take c.args.kernel.now.count c.args.kernel.now.segments c.loop-i.i no_segment l, table_more (extent_no c.args.kernel.now) max_spans no_span c.loop-i.i room), c.loop-i.invariant.1)

pub returns : goal.returns
unfolding extents_of
returns c =
    let e : c.loop-i.i ≡ c.args.kernel.now.count = omega arith in
    let p = rw e at c.loop-i.invariant.0 in
    rw (← p, ← c.loop-i.invariant.1) refl
