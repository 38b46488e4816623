-- Placing as a function that computes, for examples: it gives what the definitions give.
--     computed, place_computes        one item, by the walk from edge to edge
--     computed_from, items_compute    items in order
-- Assumes nothing.
use Rattle.std.specs.Prelude.{◌≡◌, true, false, cond, leb, ltb, Option, Some, None}
use Rattle.std.proofs.Math.Path.{refl, sym}
use Rattle.std.proofs.Math.Logic.{⊎_elim}
use Prim.Native.Nat.{ℕ, zero, suc, ◌+◌, ◌-◌, ◌≤◌}
use Rattle.std.proofs.Common.{arith}
use borrow.Author.Tests.{lt-ltb, le-ltb, le-leb, lt-leb}
use Rattle.laws.proofs.TestLaws.{true_or_false, lt_or_le}
use Rattle.address.specs.declared.PhysAddr.{PhysAddr}
use Rattle.address.specs.Address.{floor, page, round_up, boundary_of}
use Rattle.usable.specs.Usable.{address_space}
use Rattle.board.specs.declared.Board.{Board}
use Rattle.board.specs.Open.{is_open}
use Rattle.placement.specs.declared.Spans.{Spans}
use Rattle.placement.specs.declared.Item.{Item}
use Rattle.placement.specs.declared.Items.{Items}
use Rattle.placement.specs.Free.{is_free}
use Rattle.placement.specs.FreeEdge.{free_edge}
use Rattle.placement.specs.Lowest.{under_ceiling, lowest_place}
use Rattle.placement.specs.Order.{Placed, item_no, span_of, with_span, after, placed_from, place_items}
use Rattle.placement.proofs.StepLaws.{Walked, step_start, step_on, step_past, step_found, step_end, step_ceiling}

module _ (b : Board) (t : Spans) (q : Item) where
  -- from the candidate a, with x reached; k bounds the steps
  unfoldable pub walk : ℕ → ℕ → ℕ → Option PhysAddr
  walk zero a x = cond (under_ceiling q a) (cond (ltb (x - a) q.length) None (Some (record { 0 = a }))) None
  walk (suc k) a x =
      let e = free_edge b t x in
      let on = walk k a e in
      let past = walk k (round_up e (boundary_of q.pages)) (round_up e (boundary_of q.pages)) in
      let step = cond (leb b.window.end.0 x) None (cond (is_free (is_open b) t x) on past) in
      cond (under_ceiling q a) (cond (ltb (x - a) q.length) step (Some (record { 0 = a }))) None

  unfoldable pub computed : Option PhysAddr
  computed = walk b.window.end.0 (round_up floor (boundary_of q.pages)) (round_up floor (boundary_of q.pages))

  module _ (small : b.window.end.0 + page ≤ address_space) where
    walk_is : (k a x : ℕ) → b.window.end.0 ≤ x + k → Walked b t q a x → walk k a x ≡ lowest_place (is_open b) t q
    unfolding walk
    walk_is zero a x l w =
        ⊎_elim
        (λ (u : under_ceiling q a ≡ true).
        ⊎_elim
        (λ s. rw (u, lt-ltb (x - a) q.length s) (step_end b t q small a x w s (omega arith)))
        (λ s. rw (u, le-ltb (x - a) q.length s) (step_found b t q small a x w u s))
        (lt_or_le (x - a) q.length))
        (λ (u : under_ceiling q a ≡ false). rw u (step_ceiling b t q small a x w u))
        (true_or_false (under_ceiling q a))
    walk_is (suc k) a x l w =
        let e : ℕ = free_edge b t x in
        let r : ℕ = round_up e (boundary_of q.pages) in
        ⊎_elim
        (λ (u : under_ceiling q a ≡ true).
        ⊎_elim
        (λ s. ⊎_elim
        (λ i. ⊎_elim
        (λ (f : is_free (is_open b) t x ≡ true).
        let n = step_on b t q small a x e w i refl f in
        rw (u, lt-ltb (x - a) q.length s, lt-leb b.window.end.0 x i, f) (walk_is k a e (omega arith) n.1))
        (λ (f : is_free (is_open b) t x ≡ false).
        let n = step_past b t q small a x e w i refl r s f refl in
        rw (u, lt-ltb (x - a) q.length s, lt-leb b.window.end.0 x i, f) (walk_is k r r (omega arith) n.1))
        (true_or_false (is_free (is_open b) t x)))
        (λ i. rw (u, lt-ltb (x - a) q.length s, le-leb b.window.end.0 x i) (step_end b t q small a x w s i))
        (lt_or_le x b.window.end.0))
        (λ s. rw (u, le-ltb (x - a) q.length s) (step_found b t q small a x w u s))
        (lt_or_le (x - a) q.length))
        (λ (u : under_ceiling q a ≡ false). rw u (step_ceiling b t q small a x w u))
        (true_or_false (under_ceiling q a))

    pub place_computes : lowest_place (is_open b) t q ≡ computed
    unfolding computed
    place_computes = sym (walk_is b.window.end.0 _ _ (omega arith) (step_start b t q small _ refl))

module _ (b : Board) (q : Items) where
  unfoldable pub computed_from : ℕ → ℕ → Spans → Placed
  computed_from zero i t = record { spans = t; done = i }
  computed_from (suc k) i t =
      after (computed b t (item_no q i))
      (λ a. computed_from k (i + 1) (with_span t (span_of a (item_no q i).length)))
      (record { spans = t; done = i })

  module _ (small : b.window.end.0 + page ≤ address_space) where
    after_same : (p : Option PhysAddr) (f g : _ → Placed) (s : Placed) → ((a : _) → f a ≡ g a) → after p f s ≡ after p g s
    after_same (Some a) f g s h = h a
    after_same None f g s h = refl

    from_computes : (k i : ℕ) (t : Spans) → i + k ≤ q.count → placed_from (is_open b) q k i t ≡ computed_from k i t
    unfolding placed_from computed_from
    from_computes zero i t l = refl
    from_computes (suc k) i t l =
        rw (place_computes b t (item_no q i) small)
        (after_same (computed b t (item_no q i)) _ _ _ (λ a. from_computes k (i + 1) (with_span t (span_of a (item_no q i).length)) (omega arith)))

    pub items_compute : (t : Spans) → place_items (is_open b) t q ≡ computed_from q.count 0 t
    unfolding place_items
    items_compute t = from_computes q.count 0 t (omega arith)
