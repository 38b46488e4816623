-- `elf::judge` meets its contract: the answer of its checks, with the kernel of its segments.
-- Assumes nothing.
use Rattle.std.specs.Bool.{⊤}
use Rattle.std.specs.Prelude.{Result, Err}
use Rattle.std.proofs.Common.{◌≡◌, ◌∙◌, ℕ, List, true, false, length, sym}
use Rattle.laws.specs.Checks.{first_of}
use Rattle.laws.specs.Tests.{any}
use Rattle.answer.specs.declared.Refusal.{Refusal}
use Rattle.answer.specs.declared.Refusal.TheVariants.{BadElf}
use Rattle.kernel.specs.declared.Kernel.{Kernel}
use Rattle.kernel.specs.Judge.{with_entry}
use Rattle.elf.specs.declared.read.ElfHeader.{ElfHeader}
use Rattle.elf.specs.Read.{HeaderRead, table_checks}
use Rattle.elf.specs.Checks.{well_formed, bad_no, elf_checks}
use Rattle.elf.specs.ElfLaws.{formed_is}
use Rattle.elf.proofs.judge.Goals as goal

-- 18 applies where the header is not well formed
not_formed : (image : List ℕ) (h : ElfHeader) (k : Kernel) → HeaderRead image h → well_formed h (length image) ≡ false → Err BadElf ≡ with_entry (first_of (elf_checks image k) tt) k
unfolding elf_checks first_of
not_formed image h k r e = rw (← r.is, e)

-- where the header is well formed, the checks on the table are left
left : (image : List ℕ) (h : ElfHeader) (k t : Kernel) (a : Result ⊤ Refusal) → HeaderRead image h → well_formed h (length image) ≡ true
    → t ≡ k → a ≡ first_of (table_checks t (any (bad_no image) h.e_phnum)) (tt {0}) → with_entry a t ≡ with_entry (first_of (elf_checks image k) (tt {0})) k
unfolding elf_checks table_checks
left image h k t a r w e f = rw (f, e, ← r.is, w)

pub returns-then-not-well_formed : goal.returns-then-not-well_formed
returns-then-not-well_formed c = not_formed _ _ _ c.read-h.ensures (sym c.if-not-well_formed.ensures)

pub read_table-kernel-requires : goal.read_table-kernel-requires
read_table-kernel-requires c = (c.read-h.ensures, ((formed_is _ _).0 (sym c.if-not-well_formed.ensures)).few)

pub returns : goal.returns
returns c =
    c.judge_entry.ensures
    ∙ left _ c.read-h.result _ c.read_table-kernel.result c.check_table.result c.read-h.ensures (sym c.if-not-well_formed.ensures) c.read_table-kernel.ensures.0 c.check_table.ensures
