-- What judging an image answers.                                          rules: ANSWERS (6 to 20), KERNEL
--     judged    the kernel that it asks for, or the first refusal
-- Assumes nothing.
use Rattle.std.specs.Prelude.{List, ℕ, Result}
use Rattle.laws.specs.Checks.{first_of}
use Rattle.answer.specs.declared.Refusal.{Refusal}
use Rattle.kernel.specs.declared.Kernel.{Kernel}
use Rattle.image.specs.Judged.{image_checks, kernel_of}

unfoldable pub judged : List ℕ → Result Kernel Refusal
judged image = first_of (image_checks image) (kernel_of image)
