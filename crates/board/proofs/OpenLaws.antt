-- Open addresses in propositions.
--     OpenOn, open_is    usable, inside the window, and not below 0x500
--     open_below         an open address is below 2^32
--     open_end           from the window's end on no address is open
--     all_open_is        every address of a span is open
-- Assumes nothing.
use Rattle.std.specs.Prelude.{◌≡◌, true, false, ◌&&◌, ◌↔◌, ℕ, ◌-◌, ◌≤◌, ◌<◌}
use Rattle.std.proofs.Math.Bool.{Bool, and-false}
use Rattle.std.proofs.Common.{arith}
use borrow.Author.Tests.{le-leb, le-ltb, leb-true}
use Rattle.std.proofs.Math.Dec.{leb}
use Rattle.laws.specs.Tests.{all_from}
use Rattle.laws.proofs.TestLaws.{and_left, and_right, all_intro, all_elim}
use Rattle.address.specs.Address.{inside}
use Rattle.address.specs.InsideLaws.{inside_is}
use Rattle.usable.specs.Usable.{address_space, is_usable}
use Rattle.usable.proofs.UsableLaws.{UsableOn, usable_is}
use Rattle.board.specs.declared.Board.{Board}
use Rattle.board.specs.Open.{bios_data_end, is_open}

pub record OpenOn (b : Board) (a : ℕ) : Type 0 where
  pub usable : UsableOn b.map a
  pub window : (b.window.start.0 ≤ a) × (a < b.window.end.0)
  pub low : bios_data_end ≤ a

module _ (b : Board) where
  pub open_is : (a : ℕ) → (is_open b a ≡ true) ↔ OpenOn b a
  unfolding is_open
  open_is a =
      let U : Bool = is_usable b.map a in
      let W : Bool = inside b.window.start.0 b.window.end.0 a in
      let L : Bool = leb bios_data_end a in (
        λ e.
            let q = and_left (U && W) L e in
            record { usable = (usable_is b.map a).0 (and_left U W q); window = (inside_is _ _ a).0 (and_right U W q); low = leb-true bios_data_end a (and_right (U && W) L e) },
        λ h. rw ((usable_is b.map a).1 h.usable, (inside_is _ _ a).1 h.window, le-leb bios_data_end a h.low),
      )

  pub open_below : (a : ℕ) → is_open b a ≡ true → a < address_space
  open_below a e = ((open_is a).0 e).usable.below

  pub open_end : (a : ℕ) → b.window.end.0 ≤ a → is_open b a ≡ false
  unfolding is_open inside
  open_end a l = rw (le-ltb a b.window.end.0 l, and-false, and-false)

  pub all_open_is : (start end : ℕ) → (all_from (is_open b) start (end - start) ≡ true) ↔ ((a : ℕ) → start ≤ a → a < end → is_open b a ≡ true)
  all_open_is start end = (
    λ e a l u. all_elim (is_open b) start (end - start) e a l (omega arith),
    λ h. all_intro (is_open b) start (end - start) (λ a l u. h a l (omega arith)),
  )
