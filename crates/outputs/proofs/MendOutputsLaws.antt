-- The theorem: everything that `MendOutputs` states holds, for every image.
--     mend_outputs    what a mend returns, writes and leaves
-- Assumes nothing.
use Rattle.std.specs.Prelude.{◌≡◌, List, ℕ, Some, None, Ok, Err}
use Rattle.std.proofs.Math.Path.{refl, subst}
use Rattle.std.proofs.Common.{arith}
use Rattle.mend.specs.Mending.{Mending}
use Rattle.mend.specs.Mend.{mending_of, mend_number, image_after}
use Rattle.mend.specs.Promises.{MendedAt, MendPromised}
use Rattle.mend.proofs.PromisesLaws.{mend_promised}
use Rattle.viertompu.specs.Words.{word_of}
use Rattle.viertompu.specs.MendWords.{mend_words}
use Rattle.outputs.specs.MendOutputs.{MendOutputs}

module _ (image v : List ℕ) where
  by_answer : (r : Mending) → MendPromised image r v → MendOutputs image (mend_number r) (mend_words r) v
  unfolding mend_words
  by_answer (Ok None) m =
      let k = m.found.0 refl in
      record {
        refused = (λ e. absurd (omega arith), λ h. absurd (cc (m.none.1 h)));
        else_zero = λ n. refl;
        mends = (λ e. absurd (omega arith), λ h. absurd (h.0 k.0 k.1));
        mended = λ e. absurd (omega arith);
        left = λ n. (refl, m.left (λ c e. cc));
      }
  by_answer (Ok (Some c)) m =
      let d = m.mended c refl in
      let w : c.offset.0 ≡ word_of c.offset.0 = omega (arith, d.magic.early) in
      record {
        refused = (λ e. absurd (omega arith), λ h. absurd (cc (m.none.1 h)));
        else_zero = λ n. refl;
        mends = (λ e. (d.headless, (c.offset.0, d.magic)), λ h. refl);
        mended = λ e. (refl, subst (λ (o : ℕ). MendedAt image (record { offset = record { 0 = o }; old = c.old; new = c.new }) v) w d);
        left = λ n. absurd (n refl);
      }
  by_answer (Err r) m =
      record {
        refused = (λ e. m.none.0 refl, λ h. refl);
        else_zero = λ n. absurd (n refl);
        mends = (λ e. absurd (omega arith), λ h. absurd (m.none.0 refl h.1.0 h.1.1));
        mended = λ e. absurd (omega arith);
        left = λ n. (refl, m.left (λ c e. cc));
      }

pub mend_outputs : (image : List ℕ) → MendOutputs image (mend_number (mending_of image)) (mend_words (mending_of image)) (image_after image)
mend_outputs image = by_answer image (image_after image) (mending_of image) (mend_promised image)
