-- The window after a load.                                                            rule: WRITING
--     segment_write, segment_writes             a segment: its load bytes, then zeros over its bss; all of them
--     module_write, module_writes               a module's data; that of all modules
--     contents_for, contents_in, block_write    the information block
--     writes_of                                 all writes of a load
--     memory_after                              the window after a load, and after a refusal
-- Assumes nothing.
use Rattle.std.specs.Prelude.{cond, List, [], ◌∷◌, ◌++◌, ℕ, ◌-◌}
use Rattle.laws.specs.Table.{listed}
use Rattle.laws.specs.Checks.{passes}
use Rattle.buffer.specs.Patched.{zeros}
use Rattle.buffer.specs.Writes.{Write, written}
use Rattle.address.specs.declared.Span.{Span}
use Rattle.address.specs.Span.{span_no}
use Rattle.submission.specs.declared.Layout.{Layout}
use Rattle.submission.specs.Layout.{bytes_of, module_no}
use Rattle.command_line.specs.CommandLine.{command_line}
use Rattle.kernel.specs.declared.Kernel.{Kernel}
use Rattle.kernel.specs.Kernel.{segment_no}
use Rattle.memory_map.specs.Parse.{pairs_read}
use Rattle.usable.specs.Sizes.{mem_lower, mem_upper}
use Rattle.decision.specs.Lent.{Lent}
use Rattle.decision.specs.Read.{layout_in, image_in}
use Rattle.decision.specs.Decision.{checks, plan_in}
use Rattle.block.specs.Block.{Contents, contents_of, block_of}

-- the first load byte of segment i stands at its start; f is the window's first address
unfoldable pub segment_write : ℕ → List ℕ → Kernel → ℕ → Write
segment_write f image k i =
    let s = segment_no k i in
    record {
      at = s.start.0 - f;
      bytes = bytes_of image (record { at = s.offset.0; len = s.load_end.0 - s.start.0 }) ++ zeros (s.extent_end.0 - s.load_end.0);
    }

unfoldable pub module_write : ℕ → List ℕ → Layout → List Span → ℕ → Write
module_write f s l spans i = record { at = (span_no spans i).start.0 - f; bytes = bytes_of s (module_no l i).«data» }

-- what the information block says of modules at these spans, standing from the address `start` on
abbrev pub contents_for : List ℕ → List ℕ → List ℕ → Layout → List Span → ℕ → Contents
contents_for s operator m l spans start =
    contents_of s l spans m (command_line operator s) start (mem_lower (pairs_read m)) (mem_upper (pairs_read m))

unfoldable pub contents_in : Lent → Contents
contents_in x = contents_for x.submission x.operator x.map (layout_in x) (plan_in x).modules (plan_in x).block.start.0

unfoldable pub block_write : Lent → Write
block_write x = record { at = (plan_in x).block.start.0 - x.first; bytes = block_of (contents_in x) }

unfoldable pub segment_writes : Lent → List Write
segment_writes x = listed (segment_write x.first (image_in x) (plan_in x).kernel) (plan_in x).kernel.count

unfoldable pub module_writes : Lent → List Write
module_writes x = listed (module_write x.first x.submission (layout_in x) (plan_in x).modules) (layout_in x).count

-- the kernel's segments, the modules, and the information block
unfoldable pub writes_of : Lent → List Write
writes_of x = segment_writes x ++ module_writes x ++ (block_write x ∷ [])

-- a load makes its writes, and a refusal none
unfoldable pub memory_after : Lent → List ℕ → List ℕ
memory_after x w = cond (passes (checks x)) (written w (writes_of x)) w
