-- `decision::place::decide_memory` meets its contract: each return is one case of the last two stages.
-- Assumes nothing.
use Rattle.std.proofs.Common.{refl, ◌≡◌, arith, sym, ap, ◌∙◌}
use Rattle.std.proofs.lemmas.Result.{err_from_is_err_and}
use Rattle.laws.proofs.CheckLaws.{told, ok_passed}
use Rattle.placement.specs.Order.{Placed}
use Rattle.decision.specs.Decided.{room_checks, plan_of, placed_by}
use Rattle.decision.specs.PlacedLaws.{items_ready, span_below}
use Rattle.decision.specs.StageLaws.{placed_is, all_placed, decided_closed, decided_no_room, decided_load}
use Rattle.decision.proofs.place.decide_memory.Goals as goal

pub returns-then-not-kernel_open-clause-value : goal.returns-then-not-kernel_open-clause-value
returns-then-not-kernel_open-clause-value c = decided_closed _ _ _ _ _ (told c.kernel_open.ensures c.if-not-kernel_open.true)

pub place_items-done-requires : goal.place_items-done-requires
place_items-done-requires c = rw (c.extents-spans.ensures, c.items.ensures) (items_ready _ _ _ _ c.requires)

pub returns-in_err-check_room-clause-value : goal.returns-in_err-check_room-clause-value
returns-in_err-check_room-clause-value c =
    let p : record { spans = c.place_items-done.new.spans; done = c.place_items-done.result } ≡ placed_by c.args.board.now c.args.kernel.now c.args.layout.now c.args.size =
    placed_is _ _ _ _ _ _ _ c.extents-spans.ensures c.items.ensures c.place_items-done.ensures in
    let d = ap (λ (r : Placed). r.done) p in
    let e = err_from_is_err_and c.from_residual.result c.from_residual.ensures.1 in
    rw (e.1, e.2) (decided_no_room _ _ _ _ _ (told c.kernel_open.ensures c.if-not-kernel_open.false) _ (rw d at (sym c.check_room.ensures ∙ c.in_err-check_room.was)))

pub overflow_cast-plan : goal.overflow_cast-plan
overflow_cast-plan c =
    let p : record { spans = c.place_items-done.new.spans; done = c.place_items-done.result } ≡ placed_by c.args.board.now c.args.kernel.now c.args.layout.now c.args.size =
    placed_is _ _ _ _ _ _ _ c.extents-spans.ensures c.items.ensures c.place_items-done.ensures in
    let d = ap (λ (r : Placed). r.done) p in
    let n = all_placed _ _ (ok_passed (room_checks (placed_by c.args.board.now c.args.kernel.now c.args.layout.now c.args.size).done c.args.layout.now.count) _ _ (rw d at (sym c.check_room.ensures ∙ c.in_ok-check_room.was))).0 in
    let b = span_below _ _ _ _ c.requires n c.args.layout.now.count (omega arith) in
    rw (ap (λ (r : Placed). r.spans) p) (omega (arith, b))

pub returns-clause-value : goal.returns-clause-value
returns-clause-value c =
    let p : record { spans = c.place_items-done.new.spans; done = c.place_items-done.result } ≡ placed_by c.args.board.now c.args.kernel.now c.args.layout.now c.args.size =
    placed_is _ _ _ _ _ _ _ c.extents-spans.ensures c.items.ensures c.place_items-done.ensures in
    let d = ap (λ (r : Placed). r.done) p in
    decided_load _ _ _ _ _ (told c.kernel_open.ensures c.if-not-kernel_open.false) (ok_passed (room_checks (placed_by c.args.board.now c.args.kernel.now c.args.layout.now c.args.size).done c.args.layout.now.count) _ _ (rw d at (sym c.check_room.ensures ∙ c.in_ok-check_room.was))).0

pub returns-clause-plan_after : goal.returns-clause-plan_after
unfolding plan_of
returns-clause-plan_after c =
    let p : record { spans = c.place_items-done.new.spans; done = c.place_items-done.result } ≡ placed_by c.args.board.now c.args.kernel.now c.args.layout.now c.args.size =
    placed_is _ _ _ _ _ _ _ c.extents-spans.ensures c.items.ensures c.place_items-done.ensures in
    rw (c.module_spans.ensures, ap (λ (r : Placed). r.spans) p) refl
