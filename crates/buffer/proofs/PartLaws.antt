-- A part of a buffer, lent, written and given back, is a write into the buffer.
-- Assumes nothing.
use mathlib.Core.Path.{◌≡◌, sym, ◌∙◌}
use mathlib.Core.List.{List, ◌++◌}
use Prim.Native.Nat.{ℕ, ◌+◌, ◌-◌, ◌≤◌, min}
use native.Mathlib.Omega.{arith}
use lib.ListN.{length, take, drop, length-take, length-drop, length-replicate, replicate-append-replicate}
use lib.Seq.{drop-drop, length-take-le, take_at}
use Rattle.buffer.specs.Patched.{patched, zeros}
use Rattle.buffer.specs.PatchedLaws.{patched-nil, patched_split, patched_cut}

module _ (d : List ℕ) (at n : ℕ) (s : List ℕ) (e : n ≡ min (length s) (length d - at)) where
  -- nothing has room
  pub none_written : n ≤ 0 → d ≡ patched d at s
  none_written h = sym (patched-nil d at) ∙ patched_cut d at s 0 (omega arith)

  -- n bytes have room, and stand in the part from `at` on
  pub part_written : 1 ≤ n → take at d ++ (take n s ++ drop (at + n - at) (drop at d)) ≡ patched d at s
  part_written h =
      let l : length (take n s) ≡ n = length-take-le n s (omega arith) in
      let k : at + n - at ≡ length (take n s) = omega arith in
      rw (k, drop-drop) (sym (patched_split d at (take n s) (omega arith)) ∙ patched_cut d at s n (omega arith))

-- zeros, cut to those that have room
pub take-zeros : (n count : ℕ) → n ≤ count → take n (zeros count) ≡ zeros n
take-zeros n count h =
    let e : count ≡ n + (count - n) = omega arith in
    rw (e, ← replicate-append-replicate {A = ℕ} n (count - n) 0) (take_at (zeros n) (zeros (count - n)) n (length-replicate n 0))

module _ (d : List ℕ) (at n count : ℕ) (e : n ≡ min count (length d - at)) where
  fits : n ≡ min (length (zeros count)) (length d - at)
  fits = simp length-replicate e

  -- no zero has room
  pub none_cleared : n ≤ 0 → d ≡ patched d at (zeros count)
  none_cleared h = none_written d at n (zeros count) fits h

  -- n zeros have room, and the part from `at` on is cleared
  pub part_cleared : 1 ≤ n → take at d ++ (zeros (length (take (at + n - at) (drop at d))) ++ drop (at + n - at) (drop at d)) ≡ patched d at (zeros count)
  part_cleared h =
      let l : length (take (at + n - at) (drop at d)) ≡ n = simp (length-take, length-drop) (omega arith) in
      rw (l, ← take-zeros n count (omega arith)) (part_written d at n (zeros count) fits h)
