-- `items::extents` meets its contract: the loop fills a table.
use Rattle.std.proofs.Common.{◌≡◌}
use Rattle.laws.specs.Table.{table}
use Rattle.address.specs.Span.{no_span}
use Rattle.kernel.specs.Kernel.{extent_no}
use Rattle.placement.specs.Free.{max_spans}
use Rattle.items.proofs.extents.Given as goal

abbrev pub invariant-loop-i : goal.invariant-loop-i
invariant-loop-i l = (l.spans.list ≡ table (extent_no l.fn.kernel) l.i max_spans no_span) × (l.spans.count ≡ l.fn.kernel.count)
