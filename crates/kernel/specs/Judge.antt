-- The answer for an image, with its kernel.                                             rule: KERNEL
--     with_entry    the answer of the checks before 14, and then that of 14 with the kernel
-- Assumes nothing.
use Rattle.std.specs.Prelude.{Result}
use Rattle.std.specs.Bool.{⊤}
use Rattle.std.specs.Result.{result_and}
use Rattle.laws.specs.Checks.{first_of}
use Rattle.answer.specs.declared.Refusal.{Refusal}
use Rattle.kernel.specs.declared.Kernel.{Kernel}
use Rattle.kernel.specs.Checks.{entry_checks}

abbrev pub with_entry : Result ⊤ Refusal → Kernel → Result Kernel Refusal
with_entry a k = result_and a (first_of (entry_checks k) k)
