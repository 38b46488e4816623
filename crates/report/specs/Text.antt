-- Numbers as text.                                                                                    rule: REVIEW
--     Wrote                          a text stands in a buffer from an offset on, and where it ends
--     glyph_of, digits_of            the characters of a number in a base
--     leading_zeros, decimal_text    a number in decimal digits, without zeros in front
--     field_text, fields_text        numbers in eight hexadecimal digits each, and the end of the line
-- Assumes nothing.
use Rattle.std.specs.Prelude.{◌≡◌, cond, List, [], ◌∷◌, ◌++◌, ℕ, zero, suc, ◌+◌, ◌-◌, ◌/◌, ◌%◌, eqb, ltb, length, drop, get_or}
use Rattle.buffer.specs.Patched.{patched}
use Rattle.viertompu.specs.Joined.{joined}

-- the buffer w holds the text t from the offset `at` on, and v is what it holds then; the text ends at r
pub record Wrote (w : List ℕ) (at : ℕ) (t v : List ℕ) (r : ℕ) : Type 0 where
  pub holds : v ≡ patched w at t
  pub ends : r ≡ at + length t

abbrev pub blank : ℕ
blank = 32

abbrev pub newline : ℕ
newline = 10

abbrev pub hex_length : ℕ
hex_length = 8

-- a word has so many decimal digits at most
abbrev pub decimal_length : ℕ
decimal_length = 10

-- 0 to 9, then A to F
abbrev pub glyph_of : ℕ → ℕ
glyph_of d = cond (ltb d 10) (48 + d) (65 + (d - 10))

-- the last k digits of x in a base, the highest first
unfoldable pub digits_of : ℕ → ℕ → ℕ → List ℕ
digits_of base zero x = []
digits_of base (suc k) x = digits_of base k (x / base) ++ (glyph_of (x % base) ∷ [])

-- how many zeros stand in front, the last digit left out
unfoldable pub leading_zeros : List ℕ → ℕ
leading_zeros [] = 0
leading_zeros (d ∷ []) = 0
leading_zeros (d ∷ e ∷ ds) = cond (eqb d 48) (suc (leading_zeros (e ∷ ds))) 0

unfoldable pub decimal_text : ℕ → List ℕ
decimal_text x = drop (leading_zeros (digits_of 10 decimal_length x)) (digits_of 10 decimal_length x)

-- a blank and eight hexadecimal digits
unfoldable pub field_text : ℕ → List ℕ
field_text x = blank ∷ digits_of 16 hex_length x

unfoldable pub fields_text : List ℕ → List ℕ
fields_text fields = joined (λ i. field_text (get_or fields i 0)) (length fields) ++ (newline ∷ [])
