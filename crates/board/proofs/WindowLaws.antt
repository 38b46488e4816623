-- Check 4 in propositions.
--     window_fits    it passes exactly where the window ends at the top or below
-- Assumes nothing.
use Rattle.std.specs.Prelude.{◌≡◌, refl, true, [], ◌↔◌, ℕ, ◌+◌, ◌≤◌, ltb}
use Rattle.std.proofs.Common.{ltb-false, le-ltb}
use Rattle.laws.specs.Checks.{passes}
use Rattle.laws.proofs.CheckLaws.{check_passed}
use Rattle.address.specs.Address.{top}
use Rattle.answer.specs.declared.Refusal.TheVariants.{WindowPastTop}
use Rattle.board.specs.Window.{window_checks}

pub window_fits : (first n : ℕ) → (passes (window_checks first n) ≡ true) ↔ (first + n ≤ top)
unfolding window_checks passes
window_fits first n = (
  λ h. ltb-false _ _ (check_passed (ltb top (first + n)) WindowPastTop [] h).0,
  λ l. rw (le-ltb top (first + n) l) refl,
)
