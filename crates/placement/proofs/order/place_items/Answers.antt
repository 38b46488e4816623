-- `placement::order::place_items` meets its contract.
use Rattle.std.proofs.Common.{◌≡◌, ◌<◌, sym, ap, ◌∙◌, ◌+◌, arith}
use Rattle.std.proofs.Math.Nat.{sub-zero}
use Rattle.std.proofs.lemmas.List.{get_or-take}
use Rattle.address.specs.declared.Span.{Span}
use Rattle.board.proofs.OpenLaws.{open_below}
use Rattle.placement.specs.declared.Spans.{Spans}
use Rattle.placement.proofs.LowestLaws.{place_end}
use Rattle.placement.specs.Order.{with_span, placed_from, place_items}
use Rattle.placement.proofs.OrderLaws.{with_count, from_at, from_none, from_end}
use Rattle.placement.proofs.order.place_items.Goals as goal

-- with one more span there is one more
grown : (t r : Spans) (s : Span) → r ≡ with_span t s → r.count ≡ t.count + 1
grown t r s e = ap (λ (u : Spans). u.count) e ∙ with_count t s

pub loop-i-init : goal.loop-i-init
unfolding place_items
loop-i-init c = (omega arith, rw sub-zero)

pub overflow_add-end : goal.overflow_add-end
overflow_add-end c =
    let l = place_end _ _ _ (open_below _) _ (sym c.lowest_place.ensures ∙ c.in-Some.is) in
    omega arith

pub returns-in_default : goal.returns-in_default
returns-in_default c =
    let l : c.loop-i.i < c.args.items.now.count = omega arith in
    sym (c.loop-i.invariant.1 ∙ from_none _ _ _ _ _ _ (get_or-take _ _ _ _ l) l (sym c.lowest_place.ensures ∙ c.in_default.is))

pub loop-i-preserved : goal.loop-i-preserved
loop-i-preserved c =
    let l : c.loop-i.i < c.args.items.now.count = omega arith in
    let w = c.push.ensures in (
      omega (arith, grown _ _ _ w),
      c.loop-i.invariant.1 ∙ (from_at _ _ _ _ _ _ (get_or-take _ _ _ _ l) _ l (sym c.lowest_place.ensures ∙ c.in-Some.is) ∙ ap (placed_from _ _ _ _) (sym w)),
    )

pub returns : goal.returns
returns c =
    let e : c.loop-i.i ≡ c.args.items.now.count = omega arith in
    sym (c.loop-i.invariant.1 ∙ rw e (from_end _ _ _ _ _ (omega arith)))
