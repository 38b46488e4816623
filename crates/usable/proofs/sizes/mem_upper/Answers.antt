-- `usable::sizes::mem_upper` meets its contract: a run below 2^32 is short enough for 32 bits.
use Rattle.std.proofs.Common.{ℕ, ◌-◌, ◌/◌, ap, arith}
use Rattle.laws.proofs.TestLaws.{run_says}
use Rattle.address.specs.Address.{floor}
use Rattle.usable.specs.Usable.{address_space, is_usable}
use Rattle.usable.specs.Sizes.{kib, mem_upper}
use Rattle.usable.proofs.sizes.mem_upper.Goals as goal

pub overflow_cast-result : goal.overflow_cast-result
overflow_cast-result c = let r = run_says (is_usable c.args.map.now) floor (address_space - floor) in omega (arith, r.low)

pub returns : goal.returns
unfolding mem_upper
returns c = ap (λ (n : ℕ). n / kib) c.usable_run.ensures
