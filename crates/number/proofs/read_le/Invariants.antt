-- `number::read_le` meets its contract. The loop's invariant: the value is the number of the bytes from the place on.
use Rattle.std.proofs.Common.{◌-◌, ◌≡◌, ◌+◌, drop}
use Rattle.number.specs.Number.{number}
use Rattle.number.proofs.read_le.Given as goal

abbrev pub invariant-loop-place : goal.invariant-loop-place
invariant-loop-place l = l.value ≡ number (l.width - l.place) (drop (l.at + l.place) l.s)
