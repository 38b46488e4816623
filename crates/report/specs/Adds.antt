-- What a writer adds to its text.                                                                    rule: REVIEW
--     Adds    a text stands behind what was written, in the same buffer
-- Assumes nothing.
use Rattle.std.specs.Prelude.{◌≡◌, List, ℕ}
use Rattle.report.specs.declared.writer.Writer.{Writer}
use Rattle.report.specs.Text.{Wrote}

-- the writer p becomes q as it writes the text t
pub record Adds (p : Writer) (t : List ℕ) (q : Writer) : Type 0 where
  pub same_text : q.text.ghost_name ≡ p.text.ghost_name
  pub wrote : Wrote p.text.now p.at t q.text.now q.at
