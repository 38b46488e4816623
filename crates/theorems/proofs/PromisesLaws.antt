-- The theorem: everything that `Promises` states holds, for all that can be lent.
--     promised    for every submission, operator's line, memory map, first address and window
-- Assumes nothing.
use Rattle.std.specs.Prelude.{◌≡◌, List, ℕ, length}
use Rattle.decision.specs.Lent.{Lent}
use Rattle.decision.specs.Decision.{decision_of}
use Rattle.loader.specs.Memory.{memory_after}
use Rattle.loader.specs.LoadLaws.{loads}
use Rattle.theorems.specs.Promises.{Promised}
use Rattle.theorems.proofs.AnsweredLaws.{holds_in, conditions, answered, number_load, load_plan}
use Rattle.theorems.proofs.CountedLaws.{counted}
use Rattle.theorems.proofs.WrittenLaws.{written_bytes}
use Rattle.theorems.proofs.ReadBackLaws.{read_back}
use Rattle.theorems.proofs.PlacingLaws.{on_memory}

pub promised : (x : Lent) (w : List ℕ) → length w ≡ x.size → Promised x w (decision_of x) (memory_after x w)
promised x w n =
    record {
      holds = holds_in x;
      conditions = conditions x;
      answered = answered x w;
      counted = counted x;
      memory = on_memory x;
      written = λ e. rw (load_plan x e) (written_bytes x (loads x (number_load x e)) w n (number_load x e));
      read_back = λ e. rw (load_plan x e) (read_back x (loads x (number_load x e)) w n (number_load x e));
    }
