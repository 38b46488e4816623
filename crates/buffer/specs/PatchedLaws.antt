-- Laws of a patched buffer, for any buffer, offset and bytes.
--     length-patched                                 a write keeps the length
--     patched-nil, patched_past, patched_cut         nothing to write, no room at all, room for a part
--     patched_whole, patched_one                     a write over the whole buffer, of one byte
--     patched_split                                  a write that fits, as three parts
--     patched-append                                 two writes, one behind the other, are one
--     patched_swap                                   writes that share no byte may change places
--     take-patched, drop-patched, drop_inside        a part of a patched buffer is that part, patched
--     part_inside                                    a part inside the write is the same part of its bytes
--     get_or_before, get_or_inside, get_or_behind    which byte stands where
-- Assumes nothing.
use Rattle.std.specs.Prelude.{◌≡◌, refl, List, [], ◌∷◌, ◌++◌, ℕ, zero, suc, ◌+◌, ◌-◌, ◌≤◌, ◌<◌, min, length, get_or, set, take, drop}
use Rattle.std.proofs.Common.{ap, sym, ◌∙◌, suc-add, add-suc, zero-add, arith, length-take, length-drop}
use Rattle.std.proofs.Math.Seq.{take-nil, drop-nil}
use Rattle.buffer.specs.Patched.{patched}

-- a write keeps the length
pub length-patched : (d : List ℕ) (at : ℕ) (s : List ℕ) → length (patched d at s) ≡ length d
unfolding patched
length-patched [] at s = refl
length-patched (x ∷ d) zero [] = refl
length-patched (x ∷ d) zero (y ∷ s) = ap suc (length-patched d zero s)
length-patched (x ∷ d) (suc at) s = ap suc (length-patched d at s)

-- an empty write changes nothing
pub patched-nil : (d : List ℕ) (at : ℕ) → patched d at [] ≡ d
unfolding patched
patched-nil [] at = refl
patched-nil (x ∷ d) zero = refl
patched-nil (x ∷ d) (suc at) = ap (λ (l : List ℕ). x ∷ l) (patched-nil d at)

-- the first n bytes
pub take-patched : (n : ℕ) (d : List ℕ) (at : ℕ) (s : List ℕ) → take n (patched d at s) ≡ patched (take n d) at s
unfolding patched
take-patched zero d at s = refl
take-patched (suc n) [] at s = refl
take-patched (suc n) (x ∷ d) zero [] = refl
take-patched (suc n) (x ∷ d) zero (y ∷ s) = ap (λ (l : List ℕ). y ∷ l) (take-patched n d zero s)
take-patched (suc n) (x ∷ d) (suc at) s = ap (λ (l : List ℕ). x ∷ l) (take-patched n d at s)

-- what is left past n bytes that stand before the write
pub drop-patched : (n : ℕ) (d : List ℕ) (at : ℕ) (s : List ℕ) → drop n (patched d (n + at) s) ≡ patched (drop n d) at s
unfolding patched
drop-patched zero d at s = rw zero-add refl
drop-patched (suc n) [] at s = refl
drop-patched (suc n) (x ∷ d) at s = rw suc-add (drop-patched n d at s)

-- what is left from a place inside the write on, or from one behind it
pub drop_inside : (n : ℕ) (d : List ℕ) (at : ℕ) (s : List ℕ) → drop (at + n) (patched d at s) ≡ patched (drop (at + n) d) zero (drop n s)
unfolding patched
drop_inside n [] at s = rw drop-nil refl
drop_inside zero (x ∷ d) zero s = refl
drop_inside (suc n) (x ∷ d) zero [] = rw zero-add (sym (patched-nil (drop n d) zero))
drop_inside (suc n) (x ∷ d) zero (y ∷ s) = rw zero-add (rw zero-add at (drop_inside n d zero s))
drop_inside n (x ∷ d) (suc at) s = rw suc-add (drop_inside n d at s)

-- a write over the whole buffer
pub patched_whole : (d s : List ℕ) → length d ≤ length s → patched d zero s ≡ take (length d) s
unfolding patched
patched_whole [] s h = refl
patched_whole (x ∷ d) [] h = absurd (omega arith)
patched_whole (x ∷ d) (y ∷ s) h = ap (λ (l : List ℕ). y ∷ l) (patched_whole d s (omega arith))

-- n bytes from a place inside the write on
pub part_inside : (n k : ℕ) (d : List ℕ) (at : ℕ) (s : List ℕ) → k + n ≤ length s → at + length s ≤ length d → take n (drop (at + k) (patched d at s)) ≡ take n (drop k s)
part_inside n k d at s h m =
    let l : length (take n (drop (at + k) d)) ≡ n = simp (length-take, length-drop) (omega arith) in
    rw (drop_inside k d at s, take-patched n (drop (at + k) d) zero (drop k s))
    (patched_whole (take n (drop (at + k) d)) (drop k s) (rw l (simp length-drop (omega arith))) ∙ ap (λ (i : ℕ). take i (drop k s)) l)

-- a write keeps only what has room
pub patched_cut : (d : List ℕ) (at : ℕ) (s : List ℕ) (n : ℕ) → min (length s) (length d - at) ≤ n → patched d at (take n s) ≡ patched d at s
unfolding patched
patched_cut [] at s n h = refl
patched_cut (x ∷ d) zero [] n h = rw take-nil refl
patched_cut (x ∷ d) zero (y ∷ s) zero h = absurd (omega arith)
patched_cut (x ∷ d) zero (y ∷ s) (suc n) h = ap (λ (l : List ℕ). y ∷ l) (patched_cut d zero s n (omega arith))
patched_cut (x ∷ d) (suc at) s n h = ap (λ (l : List ℕ). x ∷ l) (patched_cut d at s n (omega arith))

-- a write past the end changes nothing
pub patched_past : (d : List ℕ) (at : ℕ) (s : List ℕ) → length d ≤ at → patched d at s ≡ d
patched_past d at s h = sym (patched_cut d at s 0 (omega arith)) ∙ patched-nil d at

-- a store of one byte is a write
pub patched_one : (d : List ℕ) (at y : ℕ) → set d at y ≡ patched d at (y ∷ [])
unfolding patched
patched_one [] at y = refl
patched_one (x ∷ d) zero y = ap (λ (l : List ℕ). y ∷ l) (sym (patched-nil d zero))
patched_one (x ∷ d) (suc at) y = ap (λ (l : List ℕ). x ∷ l) (patched_one d at y)

-- a write that fits, as what stands before it, its bytes, and what stands behind it
pub patched_split : (d : List ℕ) (at : ℕ) (s : List ℕ) → at + length s ≤ length d → patched d at s ≡ take at d ++ (s ++ drop (at + length s) d)
unfolding patched
patched_split [] zero [] h = refl
patched_split [] zero (y ∷ s) h = absurd (omega arith)
patched_split [] (suc at) s h = absurd (omega arith)
patched_split (x ∷ d) zero [] h = refl
patched_split (x ∷ d) zero (y ∷ s) h = rw add-suc (ap (λ (l : List ℕ). y ∷ l) (patched_split d zero s (omega arith)))
patched_split (x ∷ d) (suc at) s h = rw suc-add (ap (λ (l : List ℕ). x ∷ l) (patched_split d at s (omega arith)))

-- two writes, one behind the other, are one
pub patched-append : (d : List ℕ) (at : ℕ) (s t : List ℕ) → patched (patched d at s) (at + length s) t ≡ patched d at (s ++ t)
unfolding patched
patched-append [] at s t = refl
patched-append (x ∷ d) zero [] t = refl
patched-append (x ∷ d) zero (y ∷ s) t = rw add-suc (ap (λ (l : List ℕ). y ∷ l) (patched-append d zero s t))
patched-append (x ∷ d) (suc at) s t = rw suc-add (ap (λ (l : List ℕ). x ∷ l) (patched-append d at s t))

-- writes that share no byte may change places
pub patched_swap : (d : List ℕ) (i j : ℕ) (s t : List ℕ) → i + length s ≤ j → patched (patched d i s) j t ≡ patched (patched d j t) i s
unfolding patched
patched_swap [] i j s t h = refl
patched_swap (x ∷ d) zero j [] t h = sym (patched-nil (patched (x ∷ d) j t) zero)
patched_swap (x ∷ d) zero zero (y ∷ s) t h = absurd (omega arith)
patched_swap (x ∷ d) zero (suc j) (y ∷ s) t h = ap (λ (l : List ℕ). y ∷ l) (patched_swap d zero j s t (omega arith))
patched_swap (x ∷ d) (suc i) zero s t h = absurd (omega arith)
patched_swap (x ∷ d) (suc i) (suc j) s t h = ap (λ (l : List ℕ). x ∷ l) (patched_swap d i j s t (omega arith))

-- what stands before a write
pub get_or_before : (d : List ℕ) (at : ℕ) (s : List ℕ) (i z : ℕ) → i < at → get_or (patched d at s) i z ≡ get_or d i z
unfolding patched
get_or_before [] at s i z h = refl
get_or_before (x ∷ d) zero s i z h = absurd (omega arith)
get_or_before (x ∷ d) (suc at) s zero z h = refl
get_or_before (x ∷ d) (suc at) s (suc i) z h = get_or_before d at s i z (omega arith)

-- what stands in a write
pub get_or_inside : (d : List ℕ) (at : ℕ) (s : List ℕ) (i z : ℕ) → at + i < length d → i < length s → get_or (patched d at s) (at + i) z ≡ get_or s i z
unfolding patched
get_or_inside [] at s i z h k = absurd (omega arith)
get_or_inside (x ∷ d) zero [] i z h k = absurd (omega arith)
get_or_inside (x ∷ d) zero (y ∷ s) zero z h k = refl
get_or_inside (x ∷ d) zero (y ∷ s) (suc i) z h k = rw add-suc (get_or_inside d zero s i z (omega arith) (omega arith))
get_or_inside (x ∷ d) (suc at) s i z h k = rw suc-add (get_or_inside d at s i z (omega arith) k)

-- what stands behind a write
pub get_or_behind : (d : List ℕ) (at : ℕ) (s : List ℕ) (i z : ℕ) → at + length s ≤ i → get_or (patched d at s) i z ≡ get_or d i z
unfolding patched
get_or_behind [] at s i z h = refl
get_or_behind (x ∷ d) zero [] i z h = refl
get_or_behind (x ∷ d) zero (y ∷ s) zero z h = absurd (omega arith)
get_or_behind (x ∷ d) zero (y ∷ s) (suc i) z h = get_or_behind d zero s i z (omega arith)
get_or_behind (x ∷ d) (suc at) s zero z h = absurd (omega arith)
get_or_behind (x ∷ d) (suc at) s (suc i) z h = get_or_behind d at s i z (omega arith)
