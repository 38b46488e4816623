-- What is placed, and beside what.                                                                   rule: PLACING
--     extents_of             the kernel's extents
--     ceiling_of             where a module ends at the latest
--     load_item, items_of    the modules from index 0, then the information block
--     module_spans           the modules' spans among those placed, zeros past the last
-- Assumes nothing.
use Rattle.std.specs.Prelude.{Bool, false, cond, List, ℕ, ◌+◌, ◌*◌, eqb, ltb}
use Rattle.laws.specs.Table.{table}
use Rattle.address.specs.declared.Span.{Span}
use Rattle.address.specs.Span.{no_span, span_no}
use Rattle.submission.specs.declared.Layout.{Layout}
use Rattle.submission.specs.Layout.{module_no, ceiling_no}
use Rattle.submission.specs.Format.{max_modules}
use Rattle.kernel.specs.declared.Kernel.{Kernel}
use Rattle.kernel.specs.Kernel.{extent_no}
use Rattle.usable.specs.Usable.{address_space}
use Rattle.placement.specs.declared.Item.{Item}
use Rattle.placement.specs.declared.Items.{Items}
use Rattle.placement.specs.declared.Spans.{Spans}
use Rattle.placement.specs.Free.{max_spans}
use Rattle.placement.specs.Order.{max_items, no_item}

unfoldable pub extents_of : Kernel → Spans
extents_of k = record { list = table (extent_no k) k.count max_spans no_span; count = k.count }

-- the unit of a ceiling
abbrev pub mib : ℕ
mib = 0x100000

-- a ceiling of so many MiB; 0 is none, and then it is where addresses end, which asks nothing
unfoldable pub ceiling_of : ℕ → ℕ
ceiling_of c = cond (eqb c 0) address_space (c * mib)

-- a module of n bytes, on its boundary and under its ceiling of c MiB
abbrev pub module_item : Bool → ℕ → ℕ → Item
module_item pages n c = record { length = n; pages = pages; ceiling = record { 0 = ceiling_of c } }

-- the information block has so many bytes and no ceiling
abbrev pub block_item : ℕ → Item
block_item size = record { length = size; pages = false; ceiling = record { 0 = address_space } }

-- a module is as long as its data; behind the last comes the information block
unfoldable pub load_item : Layout → Bool → ℕ → ℕ → Item
load_item l pages size i = cond (ltb i l.count) (module_item pages (module_no l i).«data».len (ceiling_no l i)) (block_item size)

unfoldable pub items_of : Layout → Bool → ℕ → Items
items_of l pages size = record { list = table (load_item l pages size) (l.count + 1) max_items no_item; count = l.count + 1 }

unfoldable pub module_spans : Spans → ℕ → ℕ → List Span
module_spans t from n = table (λ i. span_no t.list (from + i)) n max_modules no_span
