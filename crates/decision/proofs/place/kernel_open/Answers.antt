-- `decision::place::kernel_open` meets its contract: it says of every extent whether it is open.
use Rattle.std.proofs.Common.{rules, ◌≡◌, ℕ, zero, suc, ◌+◌, ◌&&◌, Bool, refl, add-zero, ◌∙◌, arith, tests}
use Rattle.std.proofs.Math.Bool.{and-true, and_assoc}
use Rattle.std.proofs.lemmas.Iterator.{YieldsList-from_range}
use Rattle.std.proofs.lemmas.Iterator.Search.{all_from_yields_List}
use Rattle.std.specs.List.{list_all, range_with_len}
use Rattle.laws.specs.Tests.{all_from}
use Rattle.decision.specs.Decided.{kernel_open, extent_open}
use Rattle.decision.proofs.place.kernel_open.Goals as goal

-- a range whose numbers all pass, from its first number on
all_front : (f : ℕ → Bool) (a n : ℕ) → f a && all_from f (a + 1) n ≡ all_from f a (suc n)
unfolding all_from
all_front f a zero = rw add-zero (and-true (f a))
all_front f a (suc n) =
    let e : a + 1 + n ≡ a + suc n = omega arith in
    rw (e, ← and_assoc, all_front f a n)

-- the list of a range, tested as the range is
range_all : (f : ℕ → Bool) (a n : ℕ) → list_all f (range_with_len a n) ≡ all_from f a n
unfolding all_from
range_all f a zero = refl
range_all f a (suc n) = rw (range_all f (a + 1) n) (all_front f a n)

pub returns : goal.returns
unfolding kernel_open
returns c =
    all_from_yields_List (extent_open c.args.board.now c.args.kernel.now) _ _ _ c.all.ensures.ran (YieldsList-from_range 0 c.args.kernel.now.count c.args.kernel.now.count refl (omega arith)) (λ i b q k. search (rules, tests))
    ∙ range_all (extent_open c.args.board.now c.args.kernel.now) 0 c.args.kernel.now.count
