-- Physical addresses.                                                               rule: ADDRESSES
--     page, word, boundary_of    the boundaries that an item may have
--     floor, top                 where placing begins, and where a window ends at the latest
--     is_multiple, round_up      meeting a boundary, and rounding up to it
--     inside                     lying in a span
-- Assumes nothing.
use Rattle.std.specs.Prelude.{Bool, true, false, cond, ◌&&◌, ℕ, ◌+◌, ◌-◌, ◌%◌, eqb, leb, ltb}

abbrev pub page : ℕ
page = 4096

abbrev pub word : ℕ
word = 4

abbrev pub floor : ℕ
floor = 0x100000

abbrev pub top : ℕ
top = 0xFFFFF000

-- the boundary of an item: a page where pages are asked for, else four bytes
abbrev pub boundary_of : Bool → ℕ
boundary_of true = page
boundary_of false = word

-- the address a meets the boundary b if it is a multiple of it
unfoldable pub is_multiple : ℕ → ℕ → Bool
is_multiple b a = eqb (a % b) 0

-- the address a rounded up to the boundary b: take the remainder, and if it is not zero go on by what is missing
unfoldable pub round_up : ℕ → ℕ → ℕ
round_up a b =
    let remainder = a % b in
    let missing = b - remainder in
    cond (eqb remainder 0) a (a + missing)

-- the address a lies from start up to but not including end
unfoldable pub inside : ℕ → ℕ → ℕ → Bool
inside start end a = leb start a && ltb a end
