-- The steps of the walk over the memory of a board.
--     step_start, step_on, step_past        it begins; goes on over free memory; goes past memory that is not free
--     step_found, step_end, step_ceiling    the place is found; there is no room in the window; there is none under the ceiling
--     round_small                           what is rounded up stays below 2^32
-- Assumes nothing.
use Rattle.std.specs.Prelude.{◌≡◌, true, false, ℕ, ◌+◌, ◌-◌, ◌≤◌, ◌<◌, Some, None}
use Rattle.std.proofs.Math.Path.{sym}
use Rattle.std.proofs.Common.{ap, arith}
use Rattle.address.specs.Address.{floor, page, round_up, boundary_of}
use Rattle.address.specs.RoundLaws.{rounded, boundary_some}
use Rattle.usable.specs.Usable.{address_space}
use Rattle.board.specs.declared.Board.{Board}
use Rattle.board.specs.Open.{is_open}
use Rattle.placement.specs.declared.Spans.{Spans}
use Rattle.placement.specs.declared.Item.{Item}
use Rattle.placement.specs.Free.{is_free}
use Rattle.placement.specs.FreeEdge.{free_edge}
use Rattle.placement.proofs.FreeEdgeLaws.{free_edge_at, free_end}
use Rattle.placement.specs.Lowest.{under_ceiling, lowest_place, place_of}
use Rattle.placement.proofs.WalkLaws.{Tried, tried_start, tried_on, tried_past, tried_found, tried_end, tried_ceiling}

-- what the walk over a board knows
abbrev pub Walked : Board → Spans → Item → ℕ → ℕ → Type 0
Walked b t q a x = Tried (is_free (is_open b) t) q a x

module _ (b : Board) (t : Spans) (q : Item) (small : b.window.end.0 + page ≤ address_space) where
  pub step_start : (r : ℕ) → r ≡ round_up floor (boundary_of q.pages) → Walked b t q r r
  step_start r e = rw e (tried_start _ q)

  module _ (a x e : ℕ) (w : Walked b t q a x) (in_window : x < b.window.end.0) (edge : e ≡ free_edge b t x) where
    pub step_on : is_free (is_open b) t x ≡ true → (x < e) × Walked b t q a e
    step_on f =
        let g = free_edge_at b t x in_window e edge in
        (g.past, tried_on _ q a x w g f)

    pub round_small : round_up e (boundary_of q.pages) < address_space
    round_small =
        let g = free_edge_at b t x in_window e edge in
        let r = rounded e (boundary_of q.pages) (boundary_some q.pages).0 in
        omega (arith, (boundary_some q.pages).1)

    pub step_past : (r : ℕ) → x - a < q.length → is_free (is_open b) t x ≡ false → r ≡ round_up e (boundary_of q.pages) → (x < r) × Walked b t q r r
    step_past r short f z =
        let g = free_edge_at b t x in_window e edge in
        let k = rounded e (boundary_of q.pages) (boundary_some q.pages).0 in
        let c = w.clear in
        rw z (omega arith, tried_past _ q a x e (omega arith) (omega arith) w g f)

  module _ (a x : ℕ) (w : Walked b t q a x) where
    pub step_found : under_ceiling q a ≡ true → q.length ≤ x - a → Some (record { 0 = a }) ≡ lowest_place (is_open b) t q
    unfolding lowest_place
    step_found u l =
        let c = w.clear in
        sym (ap place_of (tried_found _ q a x w (omega arith) u))

    pub step_end : x - a < q.length → b.window.end.0 ≤ x → None ≡ lowest_place (is_open b) t q
    unfolding lowest_place
    step_end short l =
        let c = w.clear in
        sym (ap place_of (tried_end _ q a x (omega arith) w (λ y u. free_end b t y (omega arith))))

    pub step_ceiling : under_ceiling q a ≡ false → None ≡ lowest_place (is_open b) t q
    unfolding lowest_place
    step_ceiling u = sym (ap place_of (tried_ceiling _ q a x w u))
