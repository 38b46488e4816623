-- `elf::any_bad` meets its contract.
-- Assumes nothing.
use Rattle.std.proofs.Common.{refl, arith, rules, tests, ◌∙◌}
use Rattle.std.proofs.lemmas.Iterator.{YieldsList-from_range}
use Rattle.std.proofs.lemmas.Iterator.Search.{any_from_yields_List}
use Rattle.kernel.proofs.AnyLaws.{any_counted}
use Rattle.elf.specs.Checks.{bad_no}
use Rattle.elf.proofs.any_bad.Goals as goal

pub returns : goal.returns
unfolding bad_no
returns c =
    let bad = bad_no c.args.image.now in
    let n = c.args.h.e_phnum in
    any_from_yields_List bad _ _ _ c.any.ensures.ran (YieldsList-from_range 0 n n refl (omega arith)) (λ x b q k. search (rules, tests)) ∙ any_counted bad n
