-- `items::items` meets its contract.
use Rattle.std.proofs.Common.{refl, ◌≡◌, ◌<◌, ◌+◌, arith}
use Rattle.laws.proofs.TableLaws.{table_none, table_more}
use Rattle.placement.specs.Order.{max_items, no_item}
use Rattle.items.specs.LoadItems.{load_item, items_of}
use Rattle.items.proofs.items.Goals as goal

pub loop-i-init : goal.loop-i-init
loop-i-init c = (table_none _ max_items no_item, refl)

pub loop-i-preserved : goal.loop-i-preserved
loop-i-preserved c =
    let room : c.loop-i.i < max_items = omega arith in
    let t = c.loop-i.invariant.0 in
    (cc (table_more (load_item c.args.layout.now c.args.pages c.args.size) max_items no_item c.loop-i.i room), c.loop-i.invariant.1)

pub returns : goal.returns
unfolding items_of
returns c =
    let e : c.loop-i.i ≡ c.args.layout.now.count + 1 = omega arith in
    let p = rw e at c.loop-i.invariant.0 in
    rw (← p, ← c.loop-i.invariant.1) refl
