-- `elf::read_table` meets its contract. The loop's invariant: the segments among the entries passed stand in their places.
-- Assumes nothing.
use Rattle.std.proofs.Common.{refl, arith, rules}
use Rattle.elf.proofs.TurnLaws.{gathered_none, gathered_one, gathered_on, gathered_all}
use Rattle.elf.proofs.read_table.Goals as goal
use Rattle.elf.proofs.read_table.Goals.{then-is_segment, else-is_segment}

pub loop-i-init : goal.loop-i-init
loop-i-init c = (search rules, gathered_none _ _ c.no_segment-segments.ensures)

pub loop-i-preserved : goal.loop-i-preserved
loop-i-preserved c =
    let image = c.args.image.now in
    let l = c.loop-i in
    let p = c.program_header-p in
    elim c.if-is_segment.branch [
      | then-is_segment w ↦ (
        rw w.count-is (omega arith),
        rw (w.segments-is, w.count-is) (gathered_one image l.i l.segments l.count l.invariant.1 p.result _ p.ensures.0 w.if-is_segment.ensures (omega arith) w.segment.result refl w.segment.ensures),
      )
      | else-is_segment w ↦ (
        rw w.count-is (omega arith),
        rw (w.segments-is, w.count-is) (gathered_on image l.i l.segments l.count l.invariant.1 p.result _ p.ensures.0 w.if-is_segment.ensures refl),
      )
    ]

pub returns : goal.returns
returns c =
    let l = c.loop-i in
    (gathered_all c.args.image.now c.args.h c.args.found l.i l.segments l.count c.requires.0 (omega arith) l.invariant.1, omega arith)
