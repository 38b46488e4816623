-- `usable::sizes::usable_run` meets its contract.
use Rattle.std.proofs.Common.{◌≡◌, sym, ℕ, ◌+◌, ◌-◌, ◌<◌, ◌≤◌, true, arith}
use Rattle.laws.proofs.TestLaws.{run_is}
use Rattle.edge.specs.PassLaws.{AllPass, pass_on}
use Rattle.memory_map.specs.declared.MemoryMap.{MemoryMap}
use Rattle.usable.specs.MapEdge.{map_edge}
use Rattle.usable.specs.Usable.{address_space, is_usable}
use Rattle.usable.proofs.UsableLaws.{usable_is}
use Rattle.usable.proofs.MapEdgeLaws.{map_edge_at}
use Rattle.usable.proofs.sizes.usable_run.Goals as goal

-- x is usable, and so is what lies before the edge
further : (m : MemoryMap) (a x r : ℕ) → AllPass (is_usable m) a x → true ≡ is_usable m x → r ≡ map_edge m x address_space → (x < address_space) × (x < r) × (r ≤ address_space) × AllPass (is_usable m) a r
further m a x r h f q =
    let l = ((usable_is m x).0 (sym f)).below in
    let g = map_edge_at m x address_space l r q in
    (l, g.past, g.near, pass_on _ _ _ h g (sym f))

pub loop-x-smaller : goal.loop-x-smaller
loop-x-smaller c =
    let g = further _ _ _ _ c.loop-x.invariant.0 c.loop-x-test.ensures c.map_edge-x.ensures in
    omega arith

pub loop-x-preserved : goal.loop-x-preserved
loop-x-preserved c =
    let g = further _ _ _ _ c.loop-x.invariant.0 c.loop-x-test.ensures c.map_edge-x.ensures in
    (g.3, omega arith)

-- a run ends at the first address that is not usable
pub returns : goal.returns
returns c =
    let p = c.loop-x.invariant.0 in
    let x = c.loop-x.x.0 in
    let a = c.args.start.0 in
    let e : a + (x - a) ≡ x = omega (arith, p.from) in
    sym
    (run_is (is_usable c.args.map.now) (address_space - a) a (x - a) c.loop-x.invariant.1 (λ y u v. p.all y u (omega (arith, e))) (λ u. rw e (sym c.loop-x-test.ensures)))
