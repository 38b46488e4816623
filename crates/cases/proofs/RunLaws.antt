-- The sizes of memory as functions that compute, for examples: a run of usable addresses is passed from edge to edge.
--     computed_run, run_computes        how long a run is
--     computed_lower, lower_computes    mem_lower
--     computed_upper, upper_computes    mem_upper
-- Assumes nothing.
use Rattle.std.specs.Prelude.{◌≡◌, Bool, true, false, cond}
use Rattle.std.proofs.Math.Path.{refl}
use Rattle.std.proofs.Math.Logic.{⊎_elim}
use Prim.Native.Nat.{ℕ, zero, suc, ◌+◌, ◌-◌, ◌/◌, ◌≤◌, ◌<◌, min}
use Rattle.std.proofs.Common.{arith}
use Rattle.laws.specs.Tests.{run}
use Rattle.laws.proofs.TestLaws.{true_or_false, run_is}
use Rattle.address.specs.Address.{floor}
use Rattle.edge.specs.PassLaws.{AllPass, pass_start, pass_on}
use Rattle.memory_map.specs.declared.MemoryMap.{MemoryMap}
use Rattle.usable.specs.Usable.{address_space, is_usable}
use Rattle.usable.proofs.UsableLaws.{usable_is}
use Rattle.usable.specs.MapEdge.{map_edge}
use Rattle.usable.proofs.MapEdgeLaws.{map_edge_is}
use Rattle.usable.specs.Sizes.{kib, max_mem_lower, mem_lower, mem_upper}

-- a run that has come to x, where it ends
ended : (f : ℕ → Bool) (a x k : ℕ) → AllPass f a x → x - a ≤ k - a → (x < k → f x ≡ false) → run f a (k - a) ≡ x - a
ended f a x k h l q =
    run_is f (k - a) a (x - a) l (λ y u v. h.all y u (omega (arith, h.from))) (λ u. let e : a + (x - a) ≡ x = omega (arith, h.from) in rw e (q (omega arith)))

module _ (m : MemoryMap) where
  -- where the run that has come to x ends; k bounds the steps
  unfoldable pub run_end : ℕ → ℕ → ℕ
  run_end zero x = x
  run_end (suc k) x =
      let on = run_end k (map_edge m x address_space) in
      cond (is_usable m x) on x

  -- how many addresses the run from a on has
  abbrev pub computed_run : ℕ → ℕ
  computed_run a = run_end address_space a - a

  unfoldable pub computed_lower : ℕ
  computed_lower = min (computed_run 0 / kib) max_mem_lower

  unfoldable pub computed_upper : ℕ
  computed_upper = computed_run floor / kib

  run_is_end : (k a x : ℕ) → address_space ≤ x + k → x ≤ address_space → AllPass (is_usable m) a x → run (is_usable m) a (address_space - a) ≡ run_end k x - a
  unfolding run_end
  run_is_end zero a x l n h = ended _ a x address_space h (omega arith) (λ u. absurd (omega arith))
  run_is_end (suc k) a x l n h =
      ⊎_elim
      (λ (t : is_usable m x ≡ true).
      let g = map_edge_is m x address_space ((usable_is m x).0 t).below in
      rw t (run_is_end k a (map_edge m x address_space) (omega arith) g.near (pass_on _ a x h g t)))
      (λ (t : is_usable m x ≡ false). rw t (ended _ a x address_space h (omega arith) (λ u. t)))
      (true_or_false (is_usable m x))

  pub run_computes : (a : ℕ) → a ≤ address_space → run (is_usable m) a (address_space - a) ≡ computed_run a
  run_computes a l = run_is_end address_space a a (omega arith) l (pass_start _ a)

  pub lower_computes : mem_lower m ≡ computed_lower
  unfolding mem_lower computed_lower
  lower_computes = rw (run_computes 0 (omega arith)) refl

  pub upper_computes : mem_upper m ≡ computed_upper
  unfolding mem_upper computed_upper
  upper_computes = rw (run_computes floor (omega arith)) refl
