-- The third promise: the kernel, and each item at its lowest place beside it, no room exactly where there is none.
--     on_memory    wherever none before 15 holds
-- Assumes nothing.
use Rattle.std.specs.Prelude.{◌≡◌, true, false, Bool, cond, Ok, Err, ◌↔◌, ℕ, ◌+◌, ◌≤◌, ◌<◌}
use Rattle.std.proofs.Math.Path.{refl, sym, ap}
use Rattle.std.proofs.Common.{◌∙◌, subst, arith}
use mathlib.Core.List.{List}
use Rattle.std.proofs.Math.Logic.{⊎_elim}
use borrow.Author.Tests.{lt-ltb, le-ltb, not-false}
use Rattle.std.proofs.Math.ListN.{length}
use Rattle.laws.specs.Checks.{first_of, passes, only_if}
use Rattle.laws.proofs.TableLaws.{table_at}
use Rattle.laws.proofs.TestLaws.{lt_or_le, not_is, all_elim, all_intro}
use Rattle.address.specs.declared.Span.{Span}
use Rattle.address.specs.Address.{boundary_of}
use Rattle.address.specs.Span.{no_span, span_no, Holds}
use Rattle.answer.specs.Answer.{number_of}
use Rattle.answer.specs.ChainLaws.{numbers, distinct, applies_for, applies_other, applies_front, none_given, number_load as chain_load}
use Rattle.answer.specs.Chain.{check_order, place_in, Before}
use Rattle.answer.specs.declared.Refusal.TheVariants.{NoRoomForModule, NoRoomForBlock}
use Rattle.submission.specs.Rules.{submission_checks}
use Rattle.submission.specs.Layout.{layout_of}
use Rattle.submission.specs.Format.{module_count, data_length, ceiling}
use Rattle.submission.specs.FormatLaws.{layout_count, module_at, ceiling_at}
use Rattle.command_line.specs.CommandLine.{operator_checks}
use Rattle.kernel.specs.Checks.{entry_checks}
use Rattle.elf.specs.Checks.{elf_checks}
use Rattle.image.specs.Judged.{header_checks, load_checks, field_checks, kind_checks, image_checks}
use Rattle.image.specs.JudgedLaws.{good_kernel, announced, calculated, listed}
use Rattle.kernel.specs.Kernel.{extent_no}
use Rattle.memory_map.specs.Map.{map_checks}
use Rattle.usable.proofs.UsableLaws.{usable_bytes}
use Rattle.board.specs.Window.{window_checks}
use Rattle.board.specs.Open.{is_open}
use Rattle.board.proofs.OpenLaws.{open_is, all_open_is}
use Rattle.placement.specs.declared.Item.{Item}
use Rattle.placement.specs.Free.{max_spans}
use Rattle.placement.specs.InOrder.{InOrder}
use Rattle.placement.specs.Order.{item_no}
use Rattle.placement.specs.Placing.{Stands, Suits}
use Rattle.items.specs.LoadItems.{extents_of, ceiling_of, module_item, block_item, items_of, module_spans}
use Rattle.items.specs.LoadItemsLaws.{item_at, item_module, item_block}
use Rattle.decision.specs.Lent.{Lent}
use Rattle.decision.specs.Read.{layout_in, image_in, kernel_in, board_in, block_length_in}
use Rattle.decision.specs.Decided.{kernel_open, kernel_checks, room_checks, memory_checks, plan_of, extent_open}
use Rattle.decision.specs.Plan.{plan_given}
use Rattle.decision.specs.Decision.{lent_checks, checks, placed_in, decision_of, plan_in}
use Rattle.decision.specs.DecisionLaws.{lent_passed, prepared, LentPassed, decided_on}
use Rattle.decision.specs.PlacedLaws.{load_in_order}
use Rattle.loader.specs.LoadLaws.{Loads, module_span, block_span, span_apart, loads, all_done, modules_past}
use Rattle.theorems.proofs.SizeLaws.{block_size_lem}
use Rattle.theorems.proofs.AnsweredLaws.{holds_in, numbers_are, number_load, load_plan}
use Rattle.theorems.specs.Promises.{Open, block_size, Planned, Placing, OnMemory}

-- what the checks of the room answer
module _ {A : Type 0} (done n : ℕ) (z : A) where
  room_module : done < n → first_of (room_checks done n) z ≡ Err (NoRoomForModule done)
  unfolding first_of room_checks
  room_module l = rw (lt-ltb done n l)

  room_block : done ≡ n → first_of (room_checks done n) z ≡ Err NoRoomForBlock
  unfolding first_of room_checks
  room_block e = rw (le-ltb done n (omega arith), lt-ltb done (n + 1) (omega arith))

  room_load : n < done → first_of (room_checks done n) z ≡ Ok z
  unfolding first_of room_checks
  room_load l = rw (le-ltb done n (omega arith), le-ltb done (n + 1) (omega arith))

  -- where a module is named there is such a module, and placing ended at it
  module_short : (i : ℕ) → first_of (room_checks done n) z ≡ Err (NoRoomForModule i) → done < n
  module_short i e =
      ⊎_elim
      (λ (l : done < n). l)
      (λ (l : n ≤ done).
      ⊎_elim
      (λ (m : done < n + 1). let f : ◌≡◌ {A = ℕ} 0 1 = cc (room_block (omega arith)) in absurd (omega arith))
      (λ (m : n + 1 ≤ done). let f : ◌≡◌ {A = ℕ} 0 1 = cc (room_load (omega arith)) in absurd (omega arith))
      (lt_or_le done (n + 1)))
      (lt_or_le done n)

  is_module : (i : ℕ) → first_of (room_checks done n) z ≡ Err (NoRoomForModule i) → done ≡ i
  is_module i e = cc (room_module (module_short i e))

  is_block : first_of (room_checks done n) z ≡ Err NoRoomForBlock → done ≡ n
  is_block e =
      ⊎_elim
      (λ (l : done < n). let f : ◌≡◌ {A = ℕ} 0 1 = cc (room_module l) in absurd (omega arith))
      (λ (l : n ≤ done).
      ⊎_elim
      (λ (m : done < n + 1). omega arith)
      (λ (m : n + 1 ≤ done). let f : ◌≡◌ {A = ℕ} 0 1 = cc (room_load (omega arith)) in absurd (omega arith))
      (lt_or_le done (n + 1)))
      (lt_or_le done n)

-- what suits and stands over one notion of open memory does so over another that says the same
module _ {O P : ℕ → Type 0} (is : (y : ℕ) → O y ↔ P y) (spans : List Span) (c n b limit : ℕ) where
  suits_same : (a : ℕ) → Suits O spans c n b limit a ↔ Suits P spans c n b limit a
  suits_same a = (
    λ h. record { low = h.low; boundary = h.boundary; under = h.under; opened = λ y l u. (is y).0 (h.opened y l u); apart = h.apart },
    λ h. record { low = h.low; boundary = h.boundary; under = h.under; opened = λ y l u. (is y).1 (h.opened y l u); apart = h.apart },
  )

  stands_same : Stands O spans c n b limit → Stands P spans c n b limit
  stands_same h =
      record {
        suits = (suits_same (span_no spans c).start.0).0 h.suits;
        lowest = λ s l u. h.lowest s l ((suits_same s).1 u);
        length = h.length;
      }

  none_same : ((a : ℕ) → Suits O spans c n b limit a → ⊥) ↔ ((a : ℕ) → Suits P spans c n b limit a → ⊥)
  none_same = (λ h a u. h a ((suits_same a).1 u), λ h a u. h a ((suits_same a).0 u))

boundary_is : (pages : Bool) → boundary_of pages ≡ cond pages 4096 4
boundary_is true = refl
boundary_is false = refl

module _ (x : Lent) where
  -- an address of the board is open, as a test and by the bytes of the map
  open_in : (a : ℕ) → (is_open (board_in x) a ≡ true) ↔ Open x a
  open_in a =
      let o = open_is (board_in x) a in
      let u = usable_bytes x.map a in (
        λ e. let k = o.0 e in record { usable = u.0 k.usable; window = k.window; low = k.low },
        λ k. o.1 (record { usable = u.1 k.usable; window = k.window; low = k.low }),
      )

  kernel_open_is : (kernel_open (board_in x) (kernel_in x) ≡ true) ↔ ((i : ℕ) → i < (kernel_in x).count → (a : ℕ) → Holds (extent_no (kernel_in x) i) a → Open x a)
  unfolding kernel_open extent_open
  kernel_open_is =
      let b = board_in x in
      let k = kernel_in x in (
        λ e i l a h. (open_in a).0 ((all_open_is b (extent_no k i).start.0 (extent_no k i).end.0).0 (all_elim (extent_open b k) 0 k.count e i (omega arith) (omega arith)) a h.0 h.1),
        λ h. all_intro (extent_open b k) 0 k.count (λ i l m. (all_open_is b (extent_no k i).start.0 (extent_no k i).end.0).1 (λ a u v. (open_in a).1 (h i (omega arith) a (u, v)))),
      )

-- none before 15 holds
module _ (x : Lent) (r : (k : ℕ) → Before k 15 → holds_in x k ≡ false) where
  lent_numbers : distinct (numbers (lent_checks x)) ≡ true
  unfolding numbers distinct place_in only_if lent_checks submission_checks operator_checks window_checks map_checks header_checks load_checks field_checks kind_checks entry_checks elf_checks image_checks
  lent_numbers = refl

  -- so many checks come before 15
  lent_count : length (lent_checks x) ≡ place_in check_order 15
  unfolding place_in only_if lent_checks submission_checks operator_checks window_checks map_checks header_checks load_checks field_checks kind_checks entry_checks elf_checks image_checks
  lent_count = refl

  lent_none : (k : ℕ) → applies_for (lent_checks x) k ≡ false
  unfolding checks
  lent_none k =
      ⊎_elim
      (λ (l : place_in (numbers (lent_checks x)) k < length (lent_checks x)).
      let f = applies_front (lent_checks x) (memory_checks (board_in x) (kernel_in x) (layout_in x) (block_length_in x)) k l in
      let p : place_in check_order k ≡ place_in (numbers (lent_checks x)) k = ap (λ (ns : List ℕ). place_in ns k) (sym (numbers_are x)) ∙ f.1 in
      sym f.0 ∙ r k (omega (arith, lent_count)))
      (λ (l : length (lent_checks x) ≤ place_in (numbers (lent_checks x)) k). applies_other (lent_checks x) k l)
      (lt_or_le (place_in (numbers (lent_checks x)) k) (length (lent_checks x)))

  lent_load : passes (lent_checks x) ≡ true
  lent_load = chain_load (lent_checks x) (tt {0}) (none_given (lent_checks x) (tt {0}) lent_numbers lent_none)

  known : LentPassed x
  known = lent_passed x lent_load

  -- the places, where 15 does not hold either
  module _ (r15 : holds_in x 15 ≡ false) where
    opened : kernel_open (board_in x) (kernel_in x) ≡ true
    unfolding applies_for only_if checks lent_checks submission_checks operator_checks window_checks map_checks header_checks load_checks field_checks kind_checks entry_checks elf_checks image_checks kernel_checks room_checks
    opened = not-false _ r15

    -- the decision is that of the room
    room_decision : decision_of x ≡ first_of (room_checks (placed_in x).done (layout_in x).count) (plan_in x)
    unfolding kernel_checks first_of
    room_decision = rw opened at (sym (decided_on x lent_load))

    order : InOrder (is_open (board_in x)) (extents_of (kernel_in x)) (items_of (layout_in x) (kernel_in x).pages (block_length_in x)) (placed_in x)
    order = load_in_order (board_in x) (kernel_in x) (layout_in x) (block_length_in x) (prepared x known)

    -- the items by the bytes of the submission
    module_item_lem : (i : ℕ) → i < module_count x.submission → item_no (items_of (layout_in x) (kernel_in x).pages (block_length_in x)) i ≡ module_item (kernel_in x).pages (data_length x.submission i) (ceiling x.submission i)
    module_item_lem i l =
        item_at (layout_in x) (kernel_in x).pages (block_length_in x) i (omega (arith, layout_count x.submission))
        ∙ item_module (layout_in x) (kernel_in x).pages (block_length_in x) i (omega (arith, layout_count x.submission))
        ∙ rw (module_at x.submission i l, ceiling_at x.submission i l) refl

    block_item_lem : item_no (items_of (layout_in x) (kernel_in x).pages (block_length_in x)) (layout_in x).count ≡ block_item (block_size x)
    block_item_lem =
        item_at (layout_in x) (kernel_in x).pages (block_length_in x) (layout_in x).count (omega arith)
        ∙ item_block (layout_in x) (kernel_in x).pages (block_length_in x)
        ∙ ap block_item (block_size_lem x known)

    -- what holds of the item of an index holds of its length, boundary and ceiling
    of_item : (P : ℕ → ℕ → ℕ → Type 0) (i : ℕ) (q : Item) → item_no (items_of (layout_in x) (kernel_in x).pages (block_length_in x)) i ≡ q
        → P (item_no (items_of (layout_in x) (kernel_in x).pages (block_length_in x)) i).length (boundary_of (item_no (items_of (layout_in x) (kernel_in x).pages (block_length_in x)) i).pages) (item_no (items_of (layout_in x) (kernel_in x).pages (block_length_in x)) i).ceiling.0
        → P q.length (cond q.pages 4096 4) q.ceiling.0
    of_item P i q e p = subst (λ (b : ℕ). P q.length b q.ceiling.0) (boundary_is q.pages) (subst (λ (r : Item). P r.length (boundary_of r.pages) r.ceiling.0) e p)

    stood : (i : ℕ) (q : Item) → item_no (items_of (layout_in x) (kernel_in x).pages (block_length_in x)) i ≡ q → i < (placed_in x).done
        → Stands (Open x) (placed_in x).spans.list ((kernel_in x).count + i) q.length (cond q.pages 4096 4) q.ceiling.0
    unfolding extents_of
    stood i q e l =
        stands_same (open_in x) (placed_in x).spans.list ((kernel_in x).count + i) q.length (cond q.pages 4096 4) q.ceiling.0
        (of_item (λ m b h. Stands (λ y. is_open (board_in x) y ≡ true) (placed_in x).spans.list ((kernel_in x).count + i) m b h) i q e (order.stands i l))

    ended : (i : ℕ) (q : Item) → item_no (items_of (layout_in x) (kernel_in x).pages (block_length_in x)) i ≡ q → i ≤ (layout_in x).count → i ≤ (placed_in x).done
        → ((placed_in x).done ≡ i) ↔ ((a : ℕ) → Suits (Open x) (placed_in x).spans.list ((kernel_in x).count + i) q.length (cond q.pages 4096 4) q.ceiling.0 a → ⊥)
    unfolding extents_of items_of
    ended i q e l m =
        let s = none_same (open_in x) (placed_in x).spans.list ((kernel_in x).count + i) q.length (cond q.pages 4096 4) q.ceiling.0 in
        let o =
        of_item (λ k b h. ((placed_in x).done ≡ i) ↔ ((a : ℕ) → Suits (λ y. is_open (board_in x) y ≡ true) (placed_in x).spans.list ((kernel_in x).count + i) k b h a → ⊥)) i q e (order.ends i (omega arith) m) in
        (λ d. s.0 (o.0 d), λ u. o.1 (s.1 u))

    -- the plan of a load
    planned : (h : Loads x) → Planned x (kernel_in x) (placed_in x).spans.list (plan_in x)
    unfolding plan_of module_spans layout_of
    planned h =
        let k = good_kernel (image_in x) h.passed.image in
        record {
          kernel = refl;
          modules = module_span x h;
          past = modules_past x h;
          block = block_span x h;
          eax = refl;
          ebx = refl;
          entered = k.entered.0;
          entry = (k.entered.1, k.entered.2, k.entered.3);
          bss = λ i l. let s = k.segments i l in (s.loaded, s.end, s.some);
          apart = span_apart x h;
        }

    load_planned : number_of (decision_of x) ≡ 0 → ((placed_in x).done ≡ module_count x.submission + 1) × Planned x (kernel_in x) (placed_in x).spans.list (plan_given (decision_of x))
    load_planned e =
        let h = loads x (number_load x e) in
        (all_done x h ∙ omega (arith, layout_count x.submission), rw (load_plan x e) (planned h))

    places : Placing x (kernel_in x) (decision_of x)
    unfolding extents_of ceiling_of layout_of
    places =
        record {
          spans = (placed_in x).spans.list;
          done = (placed_in x).done;
          kernel = λ j l. order.kept j l ∙ table_at (extent_no (kernel_in x)) max_spans no_span (kernel_in x).count j l;
          modules = λ i l m. stood i _ (module_item_lem i l) m;
          block = λ l. stood (layout_in x).count _ block_item_lem l;
          no_room = λ i l m.
              let e = ended i _ (module_item_lem i l) (omega arith) m in (
                λ z. e.0 (is_module _ _ _ i (sym room_decision ∙ z)),
                λ s. let d = e.1 s in room_decision ∙ room_module _ _ _ (omega arith) ∙ ap (λ (j : ℕ). Err (NoRoomForModule j)) d,
              );
          no_room_block = λ m.
              let e = ended (layout_in x).count _ block_item_lem (omega arith) m in (
                λ z. e.0 (is_block _ _ _ (sym room_decision ∙ z)),
                λ s. room_decision ∙ room_block _ _ _ (e.1 s),
              );
          at_module = λ i z. let e = is_module _ _ _ i (sym room_decision ∙ z) in (e, omega (arith, module_short _ _ _ i (sym room_decision ∙ z)));
          at_block = λ z. is_block _ _ _ (sym room_decision ∙ z);
          load = load_planned;
        }

  pub on_memory : OnMemory x (decision_of x) (holds_in x)
  unfolding applies_for only_if checks lent_checks submission_checks operator_checks window_checks map_checks header_checks load_checks field_checks kind_checks entry_checks elf_checks image_checks kernel_checks room_checks layout_of
  on_memory =
      record {
        kernel = kernel_in x;
        announced = announced (image_in x) known.image;
        calculated = calculated (image_in x) known.image;
        tabled = listed (image_in x) known.image;
        c15 = not_is (kernel_open (board_in x) (kernel_in x)) (kernel_open_is x);
        placing = places;
      }
