-- `usable::is_usable` meets its contract. The loop's invariant: after so many pairs what these say of the address is known.
use Rattle.usable.proofs.ScanLaws.{Scanned}
use Rattle.usable.proofs.is_usable.Given as goal

abbrev pub invariant-loop-pair : goal.invariant-loop-pair
invariant-loop-pair l = Scanned l.map l.a.0 l.pair-index l.found
