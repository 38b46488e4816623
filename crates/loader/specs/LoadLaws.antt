-- What is known of a load: where each of its spans lies.
--     Loads, loads           no check refuses: what the stages have shown
--     span_in, count_in      the spans of a load: the kernel's extents, the modules, and the information block
--     Inside, span_inside    each of them lies in open memory, so inside the window and below the top
--     span_apart             no two of them share an address
--     module_span, modules_past, block_span the plan's modules and block among them
--     module_span_length, block_span_length    how long they are
-- Assumes nothing.
use Rattle.std.specs.Prelude.{◌≡◌, true, ℕ, ◌+◌, ◌-◌, ◌≤◌, ◌<◌}
use Rattle.std.proofs.Math.Path.{refl, ap}
use Rattle.std.proofs.Common.{◌∙◌, arith}
use Rattle.std.proofs.Math.Logic.{⊎_elim}
use Rattle.laws.proofs.TestLaws.{all_elim, lt_or_le}
use Rattle.laws.proofs.TableLaws.{table_at, table_past}
use Rattle.address.specs.Address.{top}
use Rattle.address.specs.Span.{no_span, span_no, Holds}
use Rattle.address.specs.declared.Span.{Span}
use Rattle.laws.specs.Checks.{passes}
use Rattle.laws.proofs.CheckLaws.{passes_both}
use Rattle.submission.specs.Layout.{module_no}
use Rattle.submission.specs.Format.{max_modules}
use Rattle.image.specs.JudgedLaws.{good_kernel}
use Rattle.kernel.specs.Kernel.{extent_no}
use Rattle.board.specs.Open.{is_open}
use Rattle.board.proofs.OpenLaws.{open_is}
use Rattle.placement.specs.declared.Item.{Item}
use Rattle.placement.specs.Free.{max_spans}
use Rattle.placement.specs.Order.{item_no}
use Rattle.placement.specs.InOrder.{InOrder, ItemStands}
use Rattle.items.specs.LoadItems.{extents_of, items_of, module_spans}
use Rattle.items.specs.LoadItemsLaws.{item_at, item_module, item_block}
use Rattle.decision.specs.Lent.{Lent}
use Rattle.decision.specs.Read.{layout_in, image_in, kernel_in, board_in, block_length_in}
use Rattle.decision.specs.Decided.{extent_open, kernel_open, kernel_checks, plan_of}
use Rattle.decision.specs.Decision.{lent_checks, checks, placed_in, plan_in}
use Rattle.decision.specs.DecisionLaws.{LentPassed, lent_passed, prepared}
use Rattle.decision.specs.PlacedLaws.{item_some, load_in_order}
use Rattle.decision.specs.StageLaws.{kernel_passed, all_placed}

-- what is known where no check refuses
pub record Loads (x : Lent) : Type 0 where
  pub passed : LentPassed x
  pub opened : kernel_open (board_in x) (kernel_in x) ≡ true
  pub placed : (layout_in x).count + 1 ≤ (placed_in x).done

pub loads : (x : Lent) → passes (checks x) ≡ true → Loads x
unfolding checks
loads x h =
    let a = passes_both (lent_checks x) _ h in
    let b = passes_both (kernel_checks (board_in x) (kernel_in x)) _ a.1 in
    record { passed = lent_passed x a.0; opened = kernel_passed (board_in x) (kernel_in x) b.0; placed = all_placed _ _ b.1 }

-- the spans of a load, in this order: the kernel's extents, the modules, the information block
abbrev pub span_in : Lent → ℕ → Span
span_in x j = span_no (placed_in x).spans.list j

abbrev pub count_in : Lent → ℕ
count_in x = (kernel_in x).count + ((layout_in x).count + 1)

-- a span is not empty, and lies inside the window and below the top
pub record Inside (x : Lent) (s : Span) : Type 0 where
  pub some : s.start.0 < s.end.0
  pub low : x.first ≤ s.start.0
  pub high : s.end.0 ≤ x.first + x.size
  pub top : s.end.0 ≤ top

module _ (x : Lent) (l : Loads x) where
  pub order : InOrder (is_open (board_in x)) (extents_of (kernel_in x)) (items_of (layout_in x) (kernel_in x).pages (block_length_in x)) (placed_in x)
  order = load_in_order (board_in x) (kernel_in x) (layout_in x) (block_length_in x) (prepared x l.passed)

  pub all_done : (placed_in x).done ≡ (layout_in x).count + 1
  unfolding items_of
  all_done = omega (arith, order.done, l.placed)

  pub span_count : (placed_in x).spans.count ≡ count_in x
  unfolding extents_of
  span_count = omega (arith, order.count, all_done)

  -- the kernel's extents come first
  pub kernel_span : (j : ℕ) → j < (kernel_in x).count → span_in x j ≡ extent_no (kernel_in x) j
  unfolding extents_of
  kernel_span j h = order.kept j h ∙ table_at (extent_no (kernel_in x)) max_spans no_span (kernel_in x).count j h

  -- then the items
  pub item_span : (i : ℕ) → i < (layout_in x).count + 1 → ItemStands (is_open (board_in x)) (placed_in x).spans ((kernel_in x).count + i) (item_no (items_of (layout_in x) (kernel_in x).pages (block_length_in x)) i)
  unfolding extents_of
  item_span i h = order.stands i (omega (arith, all_done))

  -- every address of a span is open
  pub span_open : (j : ℕ) → j < count_in x → (a : ℕ) → Holds (span_in x j) a → is_open (board_in x) a ≡ true
  unfolding extents_of kernel_open extent_open
  span_open j h a m =
      ⊎_elim
      (λ (u : j < (kernel_in x).count).
      let e = all_elim (extent_open (board_in x) (kernel_in x)) 0 (kernel_in x).count l.opened j (omega arith) (omega arith) in
      let s = kernel_span j u in
      let p : (span_in x j).start.0 ≡ (extent_no (kernel_in x) j).start.0 = ap (λ (t : Span). t.start.0) s in
      let q : (span_in x j).end.0 ≡ (extent_no (kernel_in x) j).end.0 = ap (λ (t : Span). t.end.0) s in
      all_elim (is_open (board_in x)) (extent_no (kernel_in x) j).start.0 _ e a (omega arith) (omega arith))
      (λ (u : (kernel_in x).count ≤ j). order.opened j u (omega (arith, span_count)) a m)
      (lt_or_le j (kernel_in x).count)

  -- no span is empty
  pub span_some : (j : ℕ) → j < count_in x → (span_in x j).start.0 < (span_in x j).end.0
  span_some j h =
      ⊎_elim
      (λ (u : j < (kernel_in x).count).
      rw (kernel_span j u) ((good_kernel (image_in x) l.passed.image).segments j u).some)
      (λ (u : (kernel_in x).count ≤ j).
      let e : (kernel_in x).count + (j - (kernel_in x).count) ≡ j = omega arith in
      let n = item_some (board_in x) (kernel_in x) (layout_in x) (block_length_in x) (prepared x l.passed) (j - (kernel_in x).count) (omega arith) in
      let s = (item_span (j - (kernel_in x).count) (omega arith)).length in
      rw e at (first_below s n))
      (lt_or_le j (kernel_in x).count)
    where
      first_below : {a b n : ℕ} → b ≡ a + n → 0 < n → a < b
      first_below {a} {b} {n} e p = omega arith

  -- each span lies inside the window, and below the top
  pub span_inside : (j : ℕ) → j < count_in x → Inside x (span_in x j)
  span_inside j h =
      let s = span_some j h in
      let a = ((open_is (board_in x) (span_in x j).start.0).0 (span_open j h (span_in x j).start.0 (omega arith, s))).window in
      let b = ((open_is (board_in x) ((span_in x j).end.0 - 1)).0 (span_open j h ((span_in x j).end.0 - 1) (omega arith, omega arith))).window in
      record { some = s; low = a.0; high = omega (arith, b.1); top = omega (arith, b.1, l.passed.window) }

  -- no two spans share an address
  pub span_apart : (i j : ℕ) → i < j → j < count_in x → (a : ℕ) → Holds (span_in x i) a → Holds (span_in x j) a → ⊥
  unfolding extents_of
  span_apart i j u h a p q =
      ⊎_elim
      (λ (v : j < (kernel_in x).count).
      let k = good_kernel (image_in x) l.passed.image in
      k.apart i j u v a (rw (kernel_span i (omega arith)) at p) (rw (kernel_span j v) at q))
      (λ (v : (kernel_in x).count ≤ j). order.apart i j u v (omega (arith, span_count)) a p q)
      (lt_or_le j (kernel_in x).count)

  -- the plan's modules and its block, among the spans
  pub module_span : (i : ℕ) → i < (layout_in x).count → span_no (plan_in x).modules i ≡ span_in x ((kernel_in x).count + i)
  unfolding plan_of module_spans
  module_span i h = table_at (λ j. span_no (placed_in x).spans.list ((kernel_in x).count + j)) max_modules no_span (layout_in x).count i h

  pub modules_past : (i : ℕ) → (layout_in x).count ≤ i → span_no (plan_in x).modules i ≡ no_span
  unfolding plan_of module_spans
  modules_past i l = table_past (λ j. span_no (placed_in x).spans.list ((kernel_in x).count + j)) max_modules no_span (layout_in x).count i l

  pub block_span : (plan_in x).block ≡ span_in x ((kernel_in x).count + (layout_in x).count)
  unfolding plan_of
  block_span = refl

  -- a module's span is as long as its data, and the block's as long as the block
  pub module_span_length : (i : ℕ) → i < (layout_in x).count → (span_in x ((kernel_in x).count + i)).end.0 ≡ (span_in x ((kernel_in x).count + i)).start.0 + (module_no (layout_in x) i).«data».len
  module_span_length i h =
      (item_span i (omega arith)).length
      ∙ ap (λ (q : Item). (span_in x ((kernel_in x).count + i)).start.0 + q.length) (item_at (layout_in x) (kernel_in x).pages (block_length_in x) i (omega arith) ∙ item_module (layout_in x) (kernel_in x).pages (block_length_in x) i h)

  pub block_span_length : (plan_in x).block.end.0 ≡ (plan_in x).block.start.0 + block_length_in x
  unfolding plan_of
  block_span_length =
      (item_span (layout_in x).count (omega arith)).length
      ∙ ap (λ (q : Item). (span_in x ((kernel_in x).count + (layout_in x).count)).start.0 + q.length) (item_at (layout_in x) (kernel_in x).pages (block_length_in x) (layout_in x).count (omega arith) ∙ item_block (layout_in x) (kernel_in x).pages (block_length_in x))
