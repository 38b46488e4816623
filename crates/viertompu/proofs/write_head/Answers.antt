-- `viertompu::write_head` meets its contract: eight stores in a row are one write.
use Rattle.std.specs.Prelude.{Ok}
use Rattle.viertompu.specs.Words.{head_words}
use Rattle.viertompu.specs.JoinedLaws.{stored}
use Rattle.viertompu.proofs.write_head.Goals as goal

pub returns : goal.returns
unfolding head_words
returns c = cc (stored c.args.plan.now 0 (head_words (Ok c.args.of_load.now)))
