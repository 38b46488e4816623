-- The placing promise holds.
--     in_order       placing the items in order leaves what InOrder says, over any test of open addresses that ends at 2^32
--     placed_open    over the memory of a board each item lies in open memory
-- Assumes nothing.
use Rattle.std.specs.Prelude.{◌≡◌, Bool, true, ◌⊎◌, ◌↔◌, ℕ, zero, suc, ◌+◌, ◌-◌, ◌≤◌, ◌<◌, length, Option, Some, None}
use Rattle.std.proofs.Math.Path.{refl}
use Rattle.std.proofs.Common.{sym, ◌∙◌, subst₂, ⊎_elim, inl, inr, add-zero, eq-or-lt_of_le, arith}
use Rattle.address.specs.declared.PhysAddr.{PhysAddr}
use Rattle.address.specs.declared.Span.{Span}
use Rattle.address.specs.Span.{span_no, Holds}
use Rattle.usable.specs.Usable.{address_space}
use Rattle.board.specs.declared.Board.{Board}
use Rattle.board.specs.Open.{is_open}
use Rattle.board.proofs.OpenLaws.{OpenOn, open_is, open_below}
use Rattle.placement.specs.declared.Spans.{Spans}
use Rattle.placement.specs.declared.Items.{Items}
use Rattle.placement.specs.InOrder.{ItemSuits, ItemStands, InOrder, up_to}
use Rattle.placement.specs.Lowest.{lowest_place}
use Rattle.placement.proofs.LowestLaws.{place_lowest, no_room}
use Rattle.placement.specs.Order.{Placed, item_no, span_of, with_span, placed_from, place_items}
use Rattle.placement.proofs.OrderLaws.{with_count, with_length, with_keeps, with_new, suits_fewer}

place_cases : (p : Option PhysAddr) → ((a : PhysAddr) × (p ≡ Some a)) ⊎ (p ≡ None)
place_cases (Some a) = inl (a, refl)
place_cases None = inr refl

-- what placing k items from the item i on leaves
record From (o : ℕ → Bool) (q : Items) (k i : ℕ) (t : Spans) (r : Placed) : Type 0 where
  least : i ≤ r.done
  most : r.done ≤ i + k
  count : r.spans.count + i ≡ t.count + r.done
  kept : (j : ℕ) → j < t.count → span_no r.spans.list j ≡ span_no t.list j
  stands : (j : ℕ) → i + j < r.done → ItemStands o r.spans (t.count + j) (item_no q (i + j))
  stopped : r.done < i + k → (s : ℕ) → ItemSuits o r.spans (item_no q r.done) s → ⊥

module _ (o : ℕ → Bool) (small : (a : ℕ) → o a ≡ true → a < address_space) (q : Items) (some : (i : ℕ) → i < q.count → 0 < (item_no q i).length) where
  step_end : (i : ℕ) (t : Spans) → placed_from o q zero i t ≡ record { spans = t; done = i }
  unfolding placed_from
  step_end i t = refl

  step_none : (k i : ℕ) (t : Spans) → lowest_place o t (item_no q i) ≡ None → placed_from o q (suc k) i t ≡ record { spans = t; done = i }
  unfolding placed_from
  step_none k i t e = rw e

  step_at : (k i : ℕ) (t : Spans) (a : PhysAddr) → lowest_place o t (item_no q i) ≡ Some a → placed_from o q (suc k) i t ≡ placed_from o q k (i + 1) (with_span t (span_of a (item_no q i).length))
  unfolding placed_from
  step_at k i t a e = rw e

  -- the item i has the place a, and placing the rest leaves r
  module _ (k i : ℕ) (t : Spans) (a : PhysAddr) (r : Placed) (e : lowest_place o t (item_no q i) ≡ Some a) (n : i < q.count) (room : t.count < length t.list) (h : From o q k (i + 1) (with_span t (span_of a (item_no q i).length)) r) where
    keeps : (j : ℕ) → j < t.count → span_no r.spans.list j ≡ span_no t.list j
    keeps j l = h.kept j (omega (arith, with_count t (span_of a (item_no q i).length))) ∙ with_keeps t (span_of a (item_no q i).length) j l

    here : span_no r.spans.list t.count ≡ span_of a (item_no q i).length
    here = h.kept t.count (omega (arith, with_count t (span_of a (item_no q i).length))) ∙ with_new t (span_of a (item_no q i).length) room

    stood : ItemStands o r.spans t.count (item_no q i)
    stood =
        let p = (place_lowest o t (item_no q i) small (some i n) a).0 e in
        record {
          suits = rw here (suits_fewer o (item_no q i) a.0 t (up_to r.spans t.count) (omega arith) (λ j l. sym (keeps j l)) p.0);
          lowest = λ s l u. p.1 s (rw here at l) (suits_fewer o (item_no q i) s (up_to r.spans t.count) t (omega arith) keeps u);
          length = rw here refl;
        }

    stands_on : (j : ℕ) → i + j < r.done → ItemStands o r.spans (t.count + j) (item_no q (i + j))
    stands_on zero l = rw (add-zero, add-zero) stood
    stands_on (suc j) l =
        let c = with_count t (span_of a (item_no q i).length) in
        subst₂ (λ (x y : ℕ). ItemStands o r.spans x (item_no q y)) (omega arith) (omega arith) (h.stands j (omega arith))

    from_step : From o q (suc k) i t r
    from_step =
        let c = with_count t (span_of a (item_no q i).length) in
        record {
          least = omega (arith, h.least);
          most = omega (arith, h.most);
          count = omega (arith, h.count);
          kept = keeps;
          stands = stands_on;
          stopped = λ l. h.stopped (omega arith);
        }

  from : (k i : ℕ) (t : Spans) → t.count + k ≤ length t.list → i + k ≤ q.count → From o q k i t (placed_from o q k i t)
  from zero i t room n =
      rw (step_end i t)
      (record { least = omega arith; most = omega arith; count = refl; kept = λ j l. refl; stands = λ j l. absurd (omega arith); stopped = λ l. absurd (omega arith) })
  from (suc k) i t room n =
      ⊎_elim
      (λ (p : (a : PhysAddr) × (lowest_place o t (item_no q i) ≡ Some a)).
      let s : Span = span_of p.0 (item_no q i).length in
      let c = with_count t s in
      let l = with_length t s in
      rw (step_at k i t p.0 p.1)
      (from_step k i t p.0 _ p.1 (omega arith) (omega arith) (from k (i + 1) (with_span t s) (omega arith) (omega arith))))
      (λ (e : lowest_place o t (item_no q i) ≡ None).
      rw (step_none k i t e)
      (record {
        least = omega arith;
        most = omega arith;
        count = refl;
        kept = λ j l. refl;
        stands = λ j l. absurd (omega arith);
        stopped = λ l. (no_room o t (item_no q i) small (some i (omega arith))).0 e;
      }))
      (place_cases (lowest_place o t (item_no q i)))

  module _ (t : Spans) (room : t.count + q.count ≤ length t.list) where
    all : From o q q.count 0 t (place_items o t q)
    unfolding place_items
    all = from q.count 0 t room (omega arith)

    stands_item : (i : ℕ) → i < (place_items o t q).done → ItemStands o (place_items o t q).spans (t.count + i) (item_no q i)
    stands_item i l =
        let e : 0 + i ≡ i = omega arith in
        rw e at (all.stands i (omega arith))

    -- the span of the index j, past those taken, holds the item that many places on
    stands_at : (j : ℕ) → t.count ≤ j → j < (place_items o t q).spans.count → ItemStands o (place_items o t q).spans j (item_no q (j - t.count))
    stands_at j l m =
        let e : t.count + (j - t.count) ≡ j = omega arith in
        rw e at (stands_item (j - t.count) (omega (arith, all.count)))

    ends_at : (i : ℕ) → i < q.count → i ≤ (place_items o t q).done → ((place_items o t q).done ≡ i) ↔ ((s : ℕ) → ItemSuits o (up_to (place_items o t q).spans (t.count + i)) (item_no q i) s → ⊥)
    ends_at i l m =
        let r : Placed = place_items o t q in (
          λ e s h. all.stopped (omega arith) s (rw e (suits_fewer o (item_no q i) s (up_to r.spans (t.count + i)) r.spans (omega (arith, all.count)) (λ j k. refl) h)),
          λ h. ⊎_elim (λ e. sym e) (λ k. absurd (h _ (stands_item i k).suits)) (eq-or-lt_of_le m),
        )

    pub in_order : InOrder o t q (place_items o t q)
    in_order =
        record {
          done = omega (arith, all.most);
          count = omega (arith, all.count);
          kept = all.kept;
          stands = stands_item;
          ends = ends_at;
          opened = λ j l m a h. let s = stands_at j l m in s.suits.opened a h.0 (omega (arith, s.length));
          apart = λ i j k l m a g h. let s = stands_at j l m in s.suits.apart a h.0 (omega (arith, s.length)) i k g;
        }

module _ (b : Board) (q : Items) (some : (i : ℕ) → i < q.count → 0 < (item_no q i).length) (t : Spans) (room : t.count + q.count ≤ length t.list) where
  pub board_in_order : InOrder (is_open b) t q (place_items (is_open b) t q)
  board_in_order = in_order (is_open b) (open_below b) q some t room

  pub placed_open : (j : ℕ) → t.count ≤ j → j < (place_items (is_open b) t q).spans.count → (a : ℕ) → Holds (span_no (place_items (is_open b) t q).spans.list j) a → OpenOn b a
  placed_open j l m a h = (open_is b a).0 (board_in_order.opened j l m a h)
