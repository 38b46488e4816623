-- `placement::lowest::lowest_place` meets its contract.
use Rattle.std.proofs.Common.{sym, ◌∙◌, ◌<◌, ◌≤◌, arith, rules}
use Rattle.placement.proofs.StepLaws.{round_small, step_start, step_on, step_past, step_found, step_end, step_ceiling}
use Rattle.placement.proofs.lowest.lowest_place.Goals as goal

pub loop-a-init : goal.loop-a-init
loop-a-init c = step_start _ _ _ (omega arith) _ c.lowest-a.ensures

pub returns-then-item-x : goal.returns-then-item-x
returns-then-item-x c = step_found _ _ _ (omega arith) _ _ c.loop-a.invariant (sym c.under_ceiling.ensures ∙ c.loop-a-test.true) (omega arith)

pub returns-then-le : goal.returns-then-le
returns-then-le c =
    let l : c.args.board.now.window.end.0 ≤ c.loop-a.x.0 = search rules in
    step_end _ _ _ (omega arith) _ _ c.loop-a.invariant (omega arith) l

pub loop-a-smaller-then-is_free : goal.loop-a-smaller-then-is_free
loop-a-smaller-then-is_free c =
    let l : c.loop-a.x.0 < c.args.board.now.window.end.0 = search rules in
    let g = step_on _ _ _ (omega arith) _ _ _ c.loop-a.invariant l c.free_edge-e.ensures (sym c.is_free.ensures ∙ c.if-is_free.true) in
    omega arith

pub loop-a-preserved-then-is_free : goal.loop-a-preserved-then-is_free
loop-a-preserved-then-is_free c =
    let l : c.loop-a.x.0 < c.args.board.now.window.end.0 = search rules in
    (step_on _ _ _ (omega arith) _ _ _ c.loop-a.invariant l c.free_edge-e.ensures (sym c.is_free.ensures ∙ c.if-is_free.true)).1

pub round_up-a-requires : goal.round_up-a-requires
round_up-a-requires c =
    let l : c.loop-a.x.0 < c.args.board.now.window.end.0 = search rules in
    let r = round_small _ _ _ (omega arith) _ _ _ c.loop-a.invariant l c.free_edge-e.ensures in
    omega arith

pub loop-a-smaller : goal.loop-a-smaller
loop-a-smaller c =
    let l : c.loop-a.x.0 < c.args.board.now.window.end.0 = search rules in
    let g = step_past _ _ _ (omega arith) _ _ _ c.loop-a.invariant l c.free_edge-e.ensures _ (omega arith) (sym c.is_free.ensures ∙ c.if-is_free.false) c.round_up-a.ensures in
    omega arith

pub loop-a-preserved : goal.loop-a-preserved
loop-a-preserved c =
    let l : c.loop-a.x.0 < c.args.board.now.window.end.0 = search rules in
    (step_past _ _ _ (omega arith) _ _ _ c.loop-a.invariant l c.free_edge-e.ensures _ (omega arith) (sym c.is_free.ensures ∙ c.if-is_free.false) c.round_up-a.ensures).1

pub returns : goal.returns
returns c = step_ceiling _ _ _ (omega arith) _ _ c.loop-a.invariant (sym c.under_ceiling.ensures ∙ c.loop-a-test.false)
