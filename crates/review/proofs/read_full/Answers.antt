-- `review::read_full` meets its contract: each read goes on where the last one ended.
use Rattle.std.proofs.Common.{◌≡◌, ℕ, ◌+◌, ◌≤◌, List, ◌++◌, rules, arith, length, take, sym, ap, ◌∙◌, subst, length-take-le}
use Rattle.std.specs.Io.KnownBytes.{Consumes}
use Rattle.std.proofs.KnownBytes.{Consumes-trans}
use borrow.Rule.Slice.PartMut.{put_mid, post_of}
use lib.Seq.{take-append-add, take-append-le}
use Rattle.review.proofs.read_full.Goals as goal

-- what was read before, and m bytes of what was read behind it
taken : (a k m : ℕ) (xs ys : List ℕ) → a ≤ length xs → m ≤ length ys → take (a + m) (put_mid a k xs ys) ≡ take a xs ++ take m ys
taken a k m xs ys h n =
    let split : a + m ≡ length (take a xs) + m = omega (arith, length-take-le a xs h) in
    ap (λ (j : ℕ). take j (put_mid a k xs ys)) split ∙ take-append-add (take a xs) (ys ++ post_of a k xs) m ∙ ap (λ (l : List ℕ). take a xs ++ l) (take-append-le m ys (post_of a k xs) n)

pub loop-n-preserved : goal.loop-n-preserved
loop-n-preserved g c =
    let read = c.in_ok-more.ensures in
    record {
      in_range = search rules;
      consumed =
          subst (Consumes _ _) (sym (taken c.loop-n.n _ c.in_ok-more.more c.loop-n.buffer c.read.new.buf c.loop-n.invariant.in_range read.bound.0))
          (Consumes-trans _ _ _ _ _ c.loop-n.invariant.consumed read.bytes.0);
    }
