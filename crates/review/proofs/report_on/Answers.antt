-- `review::report_on` meets its contract: the plan of a load on the board, reported.
use Rattle.std.proofs.Common.{ℕ}
use lib.ListN.{length-replicate}
use Rattle.review.specs.Review.{window_length}
use Rattle.review.proofs.ReviewLaws.{map_is, reviewed}
use Rattle.review.proofs.report_on.Goals as goal

pub returns-clause-wrote : goal.returns-clause-wrote
returns-clause-wrote c =
    reviewed c.args.submission.now _ _ _ c.args.text.now _ _ (map_is _ c.write_words.ensures) (length-replicate {A = ℕ} window_length 0) c.viertompu_load.ensures.plan_after c.write_report.ensures.wrote
