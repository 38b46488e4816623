-- Laws of numbers as text.
--     length_digits                  so many digits as asked for
--     decimal_short                  no number has more than ten decimal digits
--     length_field, length_rows      nine bytes for each field
--     length_fields                  and one for the end of the line
--     wrote_nothing, wrote_behind    no text, and two texts one behind the other
-- Assumes nothing.
use Rattle.std.specs.Prelude.{◌≡◌, refl, List, [], ◌∷◌, ◌++◌, ℕ, zero, suc, ◌+◌, ◌*◌, ◌/◌, ◌%◌, ◌≤◌, length, get_or}
use Rattle.std.proofs.Common.{ap, sym, ◌∙◌, add-zero, arith, length-append, length-drop}
use Rattle.buffer.specs.PatchedLaws.{patched-nil, patched-append}
use Rattle.viertompu.specs.Joined.{joined}
use Rattle.viertompu.specs.JoinedLaws.{length_joined}
use Rattle.report.specs.Text.{Wrote, newline, hex_length, decimal_length, glyph_of, digits_of, leading_zeros, decimal_text, field_text, fields_text}

pub length_digits : (base k x : ℕ) → length (digits_of base k x) ≡ k
unfolding digits_of
length_digits base zero x = refl
length_digits base (suc k) x =
    length-append (digits_of base k (x / base)) (glyph_of (x % base) ∷ []) ∙ omega (arith, length_digits base k (x / base))

pub decimal_short : (x : ℕ) → length (decimal_text x) ≤ decimal_length
unfolding decimal_text
decimal_short x =
    omega (arith, length-drop (leading_zeros (digits_of 10 decimal_length x)) (digits_of 10 decimal_length x), length_digits 10 decimal_length x)

pub length_field : (x : ℕ) → length (field_text x) ≡ 9
unfolding field_text
length_field x = ap suc (length_digits 16 hex_length x)

module _ (fields : List ℕ) where
  pub length_rows : (n : ℕ) → length (joined (λ i. field_text (get_or fields i 0)) n) ≡ 9 * n
  length_rows = length_joined (λ i. field_text (get_or fields i 0)) 9 (λ i. length_field (get_or fields i 0))

  pub length_fields : length (fields_text fields) ≡ 9 * length fields + 1
  unfolding fields_text
  length_fields =
      length-append (joined (λ i. field_text (get_or fields i 0)) (length fields)) (newline ∷ []) ∙ omega (arith, length_rows (length fields))

module _ (w : List ℕ) (at : ℕ) where
  pub wrote_nothing : Wrote w at [] w at
  wrote_nothing = record { holds = sym (patched-nil w at); ends = sym (add-zero at) }

  -- a second text behind the first
  pub wrote_behind : (t s u v : List ℕ) (m r : ℕ) → Wrote w at t u m → Wrote u m s v r → Wrote w at (t ++ s) v r
  wrote_behind t s u v m r a b =
      record {
        holds = rw (b.holds, a.ends, a.holds) (patched-append w at t s);
        ends = omega (arith, length-append t s);
      }
