-- `header::first_header` meets its contract. The loop's invariant: the search has passed the offsets of the places before.
-- Assumes nothing.
use Rattle.std.proofs.Common.{◌≡◌, ◌+◌, ◌*◌, arith}
use Rattle.header.proofs.TurnLaws.{magic_cut, sum_cut, passed_few, passed_other, passed_false}
use Rattle.header.proofs.first_header.Goals as goal
use Rattle.header.proofs.first_header.Goals.{then-has_magic+else-sums_to_zero, else-has_magic}

pub overflow_add-passed : goal.overflow_add-passed
overflow_add-passed c = omega (arith, passed_few c.loop-place.invariant c.requires)

pub loop-place-preserved : goal.loop-place-preserved
loop-place-preserved c =
    let l = c.loop-place in
    let next : 4 * (l.place + 1) ≡ 4 * l.place + 4 = omega arith in
    elim c.if-has_magic.branch [
      | then-has_magic+else-sums_to_zero w ↦ rw (w.passed-is, next) (passed_false l.invariant c.requires (omega arith) (magic_cut c.args.s.now _ _ w.if-has_magic.ensures) (sum_cut c.args.s.now _ _ w.if-sums_to_zero.ensures))
      | else-has_magic w ↦ rw (w.passed-is, next) (passed_other l.invariant c.requires (omega arith) (magic_cut c.args.s.now _ _ w.if-has_magic.ensures))
    ]
