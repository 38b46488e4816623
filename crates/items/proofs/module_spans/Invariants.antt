-- `items::module_spans` meets its contract: the loop fills a table.
use Rattle.std.proofs.Common.{◌≡◌, ◌+◌}
use Rattle.laws.specs.Table.{table}
use Rattle.address.specs.Span.{no_span, span_no}
use Rattle.submission.specs.Format.{max_modules}
use Rattle.items.proofs.module_spans.Given as goal

abbrev pub invariant-loop-i : goal.invariant-loop-i
invariant-loop-i l = l.list ≡ table (λ j. span_no l.fn.spans.list (l.fn.from + j)) l.i max_modules no_span
