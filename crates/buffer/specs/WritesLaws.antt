-- Laws of a row of writes.
--     length_written     the length is kept
--     written_append     a row of writes goes on where its first part ends
--     patched_outside    a byte that a write does not reach is as it was
--     written_outside    a byte that no write reaches is as it was
--     written_inside     a byte that a write reaches, and none behind it, is that write's
-- Assumes nothing.
use Rattle.std.specs.Prelude.{◌≡◌, refl, List, [], ◌∷◌, ◌++◌, ℕ, zero, suc, ◌+◌, ◌-◌, ◌≤◌, ◌<◌, length, get_or}
use Rattle.std.proofs.Common.{ap, ◌∙◌, ⊎_elim, arith}
use Rattle.laws.proofs.TestLaws.{lt_or_le}
use Rattle.buffer.specs.PatchedLaws.{length-patched, get_or_before, get_or_inside, get_or_behind}
use Rattle.buffer.specs.Writes.{Write, written}
use Rattle.buffer.specs.Patched.{patched}

abbrev pub no_write : Write
no_write = record { at = 0; bytes = [] }

abbrev pub write_no : List Write → ℕ → Write
write_no ws k = get_or ws k no_write

abbrev pub Reaches : Write → ℕ → Type 0
Reaches x i = (x.at ≤ i) × (i < x.at + length x.bytes)

pub length_written : (d : List ℕ) (ws : List Write) → length (written d ws) ≡ length d
unfolding written
length_written d [] = refl
length_written d (x ∷ ws) = length_written (patched d x.at x.bytes) ws ∙ length-patched d x.at x.bytes

pub written_append : (d : List ℕ) (vs ws : List Write) → written d (vs ++ ws) ≡ written (written d vs) ws
unfolding written
written_append d [] ws = refl
written_append d (x ∷ vs) ws = written_append (patched d x.at x.bytes) vs ws

-- a byte that a write does not reach
pub patched_outside : (d : List ℕ) (x : Write) (i z : ℕ) → (Reaches x i → ⊥) → get_or (patched d x.at x.bytes) i z ≡ get_or d i z
patched_outside d x i z h =
    ⊎_elim
    (λ (l : i < x.at). get_or_before d x.at x.bytes i z l)
    (λ (l : x.at ≤ i). ⊎_elim (λ (m : i < x.at + length x.bytes). absurd (h (l, m))) (λ (m : x.at + length x.bytes ≤ i). get_or_behind d x.at x.bytes i z m) (lt_or_le i (x.at + length x.bytes)))
    (lt_or_le i x.at)

pub written_outside : (d : List ℕ) (ws : List Write) (i z : ℕ) → ((k : ℕ) → k < length ws → Reaches (write_no ws k) i → ⊥) → get_or (written d ws) i z ≡ get_or d i z
unfolding written
written_outside d [] i z h = refl
written_outside d (x ∷ ws) i z h =
    written_outside (patched d x.at x.bytes) ws i z (λ k l. h (suc k) (omega arith))
    ∙ patched_outside d x i z (h 0 (omega arith))

pub written_inside : (d : List ℕ) (ws : List Write) (k i z : ℕ) → k < length ws → i < length d → Reaches (write_no ws k) i
    → ((j : ℕ) → k < j → j < length ws → Reaches (write_no ws j) i → ⊥)
    → get_or (written d ws) i z ≡ get_or (write_no ws k).bytes (i - (write_no ws k).at) z
unfolding written
written_inside d [] k i z l m c h = absurd (omega arith)
written_inside d (x ∷ ws) zero i z l m c h =
    let e : i ≡ x.at + (i - x.at) = omega arith in
    written_outside (patched d x.at x.bytes) ws i z (λ j n. h (suc j) (omega arith) (omega arith))
    ∙ ap (λ (n : ℕ). get_or (patched d x.at x.bytes) n z) e
    ∙ get_or_inside d x.at x.bytes (i - x.at) z (omega arith) (omega arith)
written_inside d (x ∷ ws) (suc k) i z l m c h =
    written_inside (patched d x.at x.bytes) ws k i z (omega arith) (omega (arith, length-patched d x.at x.bytes)) c (λ j n o. h (suc j) (omega arith) (omega arith))
