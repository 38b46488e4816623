-- `usable::sizes::usable_run` meets its contract. The loop's invariant: from the start up to x all addresses are usable.
use Rattle.std.proofs.Common.{◌-◌, ◌≤◌}
use Rattle.edge.specs.PassLaws.{AllPass}
use Rattle.usable.specs.Usable.{address_space, is_usable}
use Rattle.usable.proofs.sizes.usable_run.Given as goal

abbrev pub invariant-loop-x : goal.invariant-loop-x
invariant-loop-x l = AllPass (is_usable l.map) l.start.0 l.x.0 × (l.x.0 - l.start.0 ≤ address_space - l.start.0)

abbrev pub decreases-loop-x : goal.decreases-loop-x
decreases-loop-x l = address_space - l.x.0
