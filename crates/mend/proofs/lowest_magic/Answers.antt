-- `mend::lowest_magic` meets its contract: what `position` answers over every fourth window of the searched part.
-- Assumes nothing.
use Rattle.std.proofs.Common.{rules, arith, ◌∙◌}
use Rattle.mend.proofs.FindLaws.{lowest_found}
use Rattle.mend.proofs.lowest_magic.Goals as goal

pub returns-in_err-place : goal.returns-in_err-place
returns-in_err-place c =
    let u = c.position.ensures.runs in
    let s = c.step_by.ensures.runs u.0 u.0.seen u.1 in
    let views = rw (s.1, c.windows.ensures.rest) at (c.windows.ensures.runs s.0 s.0.seen) in
    c.from_residual.ensures ∙ rw c.in_err-place.was at (lowest_found u.0 s.0 c.args.image.now c.searched_end-end.result c.searched_end-end.ensures s.2 _ (omega (arith, c.windows.ensures.size)) (views (omega (arith, c.windows.ensures.size))) _ _ (λ a r q k. search rules) (λ x b k. search rules) c.position.result u.2)

pub returns : goal.returns
returns c =
    let u = c.position.ensures.runs in
    let s = c.step_by.ensures.runs u.0 u.0.seen u.1 in
    let views = rw (s.1, c.windows.ensures.rest) at (c.windows.ensures.runs s.0 s.0.seen) in
    rw c.in_ok-place.was at (lowest_found u.0 s.0 c.args.image.now c.searched_end-end.result c.searched_end-end.ensures s.2 _ (omega (arith, c.windows.ensures.size)) (views (omega (arith, c.windows.ensures.size))) _ _ (λ a r q k. search rules) (λ x b k. search rules) c.position.result u.2)
