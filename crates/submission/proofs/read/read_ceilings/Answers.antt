-- An array of zeros is a table of no ceiling, and each turn stores one ceiling more.
use Rattle.std.proofs.Common.{ℕ, ◌≡◌, ◌∙◌, ap, arith, replicate, length-take, take-append-drop}
use Rattle.laws.proofs.TableLaws.{table_none}
use Rattle.submission.specs.Format.{ceiling, max_modules}
use Rattle.submission.specs.Layout.{ceiling_table}
use Rattle.submission.specs.declared.read.TableEntry.{TableEntry}
use Rattle.submission.proofs.TurnLaws.{filled_more}
use Rattle.submission.proofs.read.read_ceilings.Goals as goal

pub loop-i-init : goal.loop-i-init
loop-i-init c = take-append-drop c.args.count (replicate max_modules 0) ∙ table_none (ceiling c.args.s.now) max_modules 0

pub loop-i-preserved : goal.loop-i-preserved
loop-i-preserved c =
    filled_more (ceiling c.args.s.now) max_modules 0 c.loop-i.i c.loop-i.ceiling-items _ _ (omega arith) c.loop-i.invariant (ap (λ (t : TableEntry). t.ceiling) c.read_entry.ensures)

pub returns : goal.returns
returns c =
    let e : c.loop-i.i ≡ c.args.count = omega (arith, length-take {A = ℕ} c.args.count (replicate max_modules 0)) in
    c.loop-i.invariant ∙ ap (ceiling_table c.args.s.now) e
