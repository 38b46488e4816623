-- `usable::is_usable` meets its contract.
use Rattle.std.proofs.Common.{sym, arith}
use Rattle.laws.proofs.TestLaws.{any-zero}
use Rattle.usable.proofs.ScanLaws.{pair_there, usable_covered, usable_missed, usable_barred, usable_above, usable_end}
use Rattle.usable.proofs.is_usable.Goals as goal
use Rattle.usable.proofs.is_usable.Goals.{then-pair_covers+else-pair-ne-RAM, else-pair_covers}

pub returns-then-a-ge-ADDRESS_SPACE : goal.returns-then-a-ge-ADDRESS_SPACE
returns-then-a-ge-ADDRESS_SPACE c = usable_above _ _ (omega arith)

pub loop-pair-init : goal.loop-pair-init
loop-pair-init c = record { within = omega arith; some = sym (any-zero _); none = any-zero _ }

pub returns-then-pair-ne-RAM : goal.returns-then-pair-ne-RAM
returns-then-pair-ne-RAM c =
    let p = pair_there _ _ _ c.pairs-pair-items.ensures c.loop-pair-test.true in
    usable_barred _ _ _ p.0 (rw p.1 at c.if-pair-ne-RAM.true) (rw p.1 at (sym c.if-pair_covers.ensures))

pub loop-pair-preserved : goal.loop-pair-preserved
loop-pair-preserved c =
    let p = pair_there _ _ _ c.pairs-pair-items.ensures c.loop-pair-test.true in
    elim c.if-pair_covers.branch [
      | then-pair_covers+else-pair-ne-RAM w ↦
          rw w.found-is (usable_covered _ _ _ (rw p.1 at w.if-pair-ne-RAM.false) _ p.0 (rw p.1 at (sym w.if-pair_covers.ensures)) c.loop-pair.invariant)
      | else-pair_covers w ↦
          rw w.found-is (usable_missed _ _ _ (rw p.1 at (sym w.if-pair_covers.ensures)) _ p.0 c.loop-pair.invariant)
    ]

pub returns : goal.returns
returns c = usable_end _ _ _ _ (omega arith) (rw (← c.pairs-pair-items.ensures) c.loop-pair-test.false) c.loop-pair.invariant
