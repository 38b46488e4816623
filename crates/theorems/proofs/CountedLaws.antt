-- The count of false headers, in a load and in 6.
--     counted    for all that is lent
-- Assumes nothing.
use Rattle.header.proofs.FalseHeaderLaws.{false_below, false_anywhere}
use Rattle.image.specs.JudgedLaws.{good_kernel}
use Rattle.submission.specs.Format.{image_bytes}
use Rattle.submission.specs.Layout.{layout_of}
use Rattle.decision.specs.Lent.{Lent}
use Rattle.decision.specs.Read.{image_in, kernel_in}
use Rattle.decision.specs.Decided.{plan_of}
use Rattle.decision.specs.Decision.{decision_of}
use Rattle.loader.specs.LoadLaws.{loads}
use Rattle.theorems.specs.Promises.{Counted}
use Rattle.theorems.proofs.AnsweredLaws.{number_load, load_plan, header_item}

pub counted : (x : Lent) → Counted (image_bytes x.submission) (decision_of x)
unfolding plan_of layout_of
counted x =
    record {
      load = λ e.
          let k = good_kernel (image_in x) (loads x (number_load x e)).passed.image in
          rw (load_plan x e, k.counted) (false_below (image_in x) (kernel_in x).header k.found);
      none = λ e. let h = header_item x e in rw h.0 (false_anywhere (image_in x) h.1);
    }
