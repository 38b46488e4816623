-- The window.                                                                     rule: ANSWERS (4)
--     window_checks    the window's first address plus its length above 0xFFFFF000
--     window_span      the addresses that the window stands for
-- Assumes nothing.
use Rattle.std.specs.Prelude.{List, [], ◌∷◌, ℕ, ◌+◌, ltb}
use Rattle.laws.specs.Checks.{Check, ◌gives◌}
use Rattle.address.specs.declared.Span.{Span}
use Rattle.address.specs.Address.{top}
use Rattle.answer.specs.declared.Refusal.{Refusal}
use Rattle.answer.specs.declared.Refusal.TheVariants.{WindowPastTop}

unfoldable pub window_checks : ℕ → ℕ → List (Check Refusal)
window_checks first n = (ltb top (first + n) gives WindowPastTop) ∷ []

abbrev pub window_span : ℕ → ℕ → Span
window_span first n = record { start = record { 0 = first }; end = record { 0 = first + n } }
