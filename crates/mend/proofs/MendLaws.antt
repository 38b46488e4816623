-- Laws of mending.
--     magic_early           the lowest magic lies in the searched part
--     with_header           an image with a header is left alone
--     after_is              the image afterwards, by the answer
--     right_checksum_lem    the checksum is the one with which the sum is 0
--     mended_at             what is promised where a checksum is mended
-- Assumes nothing.
use Rattle.std.specs.Prelude.{◌≡◌, ℕ, ◌+◌, ◌^◌, ◌<◌, ◌≤◌, List, [], slice_index, Some, None, Ok}
use Rattle.std.proofs.Math.Path.{refl, ap}
use Rattle.std.proofs.Common.{sym, ◌∙◌, subst, append-nil, arith}
use Rattle.buffer.specs.Patched.{patched}
use Rattle.buffer.specs.PatchedLaws.{length-patched}
use Rattle.buffer.specs.WritesLaws.{patched_outside}
use Rattle.number.specs.Number.{number_at, number_bytes}
use Rattle.number.specs.NumberLaws.{length-number_bytes, number_written, number_at_before, number_at_inside}
use Rattle.address.specs.declared.ImageOffset.{ImageOffset}
use Rattle.header.specs.Header.{header}
use Rattle.header.specs.HeaderAt.{MagicAt, HeaderAt}
use Rattle.header.proofs.SearchLaws.{Answers}
use Rattle.mend.specs.Mending.{Mending}
use Rattle.mend.specs.Mend.{lowest_magic, right_checksum, change_at, mending_of, image_with, image_after}
use Rattle.mend.proofs.MagicLaws.{magic_kept, lowest_magic_lem}
use Rattle.mend.specs.Promises.{RightChecksum, MendedAt}

module _ (image : List ℕ) where
  pub magic_early : (o : ImageOffset) → lowest_magic image ≡ Some o → o.0 + 12 ≤ 8192
  magic_early o e = (subst (Answers (MagicAt image)) e (lowest_magic_lem image)).0.early

  pub with_header : (o : ImageOffset) → header image ≡ Some o → mending_of image ≡ Ok None
  unfolding mending_of
  with_header o e = rw e refl

  pub after_is : (r : Mending) → mending_of image ≡ r → image_after image ≡ image_with image r
  unfolding image_after
  after_is r e = ap (image_with image) e

pub right_checksum_lem : (flags : ℕ) → RightChecksum flags (right_checksum flags)
unfolding right_checksum
right_checksum_lem flags = record { below = omega arith; sum = omega arith; only = λ n l e. omega arith }

-- an image whose checksum at the magic at the offset o is k
module _ (image : List ℕ) (o k : ℕ) (m : MagicAt image o) where
  abbrev after : List ℕ
  after = patched image (o + 8) (number_bytes 4 k)

  -- the words before it are as they were
  before : (i : ℕ) → i + 4 ≤ o + 8 → number_at 4 after i ≡ number_at 4 image i
  before = number_at_before 4 image (o + 8) (number_bytes 4 k)

  read_back : k < 2 ^ 32 → number_at 4 after (o + 8) ≡ k
  read_back l =
      let e : o + 8 ≡ o + 8 + 0 = omega arith in
      let n = length-number_bytes 4 k in
      ap (number_at 4 after) e
      ∙ number_at_inside 4 image (o + 8) (number_bytes 4 k) 0 (omega arith) (omega (arith, m.whole))
      ∙ rw append-nil at (number_written 4 k [] l)

  kept : (i : ℕ) → (o + 8 ≤ i → i < o + 12 → ⊥) → slice_index after i ≡ slice_index image i
  kept i out =
      let n = length-number_bytes 4 k in
      patched_outside image (record { at = o + 8; bytes = number_bytes 4 k }) i 0 (λ r. out r.0 (omega (arith, n, r.1)))

  -- up to the checksum the magics are the image's
  magic_after : (p : ℕ) → p ≤ o → MagicAt image p → MagicAt after p
  magic_after p l a = magic_kept (omega (arith, length-patched image (o + 8) (number_bytes 4 k), a.whole)) (before p (omega arith)) a

  magic_before : (p : ℕ) → p ≤ o → MagicAt after p → MagicAt image p
  magic_before p l a = magic_kept (omega (arith, length-patched image (o + 8) (number_bytes 4 k), a.whole)) (sym (before p (omega arith))) a

-- the lowest magic of an image without a header is mended
pub mended_at : (image : List ℕ) (o : ImageOffset) → Answers (HeaderAt image) None → Answers (MagicAt image) (Some o)
    → MendedAt image (change_at image o) (patched image (o.0 + 8) (number_bytes 4 (change_at image o).new))
mended_at image o none a =
    let k = (change_at image o).new in
    let m = a.0 in
    let right = right_checksum_lem (number_at 4 image (o.0 + 4)) in
    let new = read_back image o.0 k m right.below in
    record {
      headless = none;
      magic = m;
      lowest = a.1;
      old = refl;
      new = new;
      right = right;
      kept = kept image o.0 k m;
      size = length-patched image (o.0 + 8) (number_bytes 4 k);
      header = record {
        magic = magic_after image o.0 k m o.0 (omega arith) m;
        sum = rw (before image o.0 k m o.0 (omega arith), before image o.0 k m (o.0 + 4) (omega arith), new, m.marked) right.sum;
      };
      first = λ p l b. a.1 p l (magic_before image o.0 k m p (omega arith) b);
    }
