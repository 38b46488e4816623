-- `board::Board::all_open` meets its contract.
use Rattle.std.proofs.Common.{◌≡◌, sym, true, ℕ, ◌<◌, arith, le-leb}
use Rattle.std.proofs.lemmas.Bool.{lt-leb}
use Rattle.laws.proofs.TestLaws.{all_intro, all_not}
use Rattle.edge.specs.PassLaws.{AllPass, pass_start, pass_on}
use Rattle.board.specs.declared.Board.{Board}
use Rattle.board.specs.Open.{is_open}
use Rattle.board.specs.OpenEdge.{open_edge}
use Rattle.board.proofs.OpenLaws.{open_is}
use Rattle.board.proofs.OpenEdgeLaws.{open_edge_at}
use Rattle.board.proofs.Board.all_open.Goals as goal
use Rattle.board.proofs.Board.all_open.Goals.{then-loop-x-test+else-is_open, else-loop-x-test}

-- x is open, so the edge lies past it, and what lies before the edge is open too
further : (b : Board) (a x r : ℕ) → AllPass (is_open b) a x → true ≡ is_open b x → r ≡ open_edge b x → (x < r) × AllPass (is_open b) a r
further b a x r h f q =
    let g = open_edge_at b x ((open_is b x).0 (sym f)).window.1 r q in
    (g.past, pass_on _ _ _ h g (sym f))

pub loop-x-init : goal.loop-x-init
loop-x-init c = pass_start _ _

pub loop-x-smaller : goal.loop-x-smaller
loop-x-smaller c =
    let g = further _ _ _ _ c.loop-x.invariant c.if-is_open.ensures c.open_edge-x.ensures in
    omega arith

pub loop-x-preserved : goal.loop-x-preserved
loop-x-preserved c = (further _ _ _ _ c.loop-x.invariant c.if-is_open.ensures c.open_edge-x.ensures).1

-- the walk came to the end, or stopped at an address that is not open
pub returns : goal.returns
returns c =
    elim c.loop-x-test.branch [
      | then-loop-x-test+else-is_open w ↦ rw (lt-leb _ _ w.loop-x-test.true) (sym (all_not _ _ _ _ c.loop-x.invariant.from (omega arith) (sym w.if-is_open.ensures)))
      | else-loop-x-test w ↦ rw (le-leb _ _ w.loop-x-test.false) (sym (all_intro _ _ _ (λ y l u. c.loop-x.invariant.all y l (omega arith))))
    ]
