-- Laws of what a writer adds.
--     adds_nothing             no text
--     adds_behind, adds_row    two texts one behind the other, and a row more
--     adds_ended               what the buffer holds at last
-- Assumes nothing.
use Rattle.std.specs.Prelude.{◌≡◌, refl, List, [], ◌++◌, ℕ, ◌+◌}
use Rattle.std.proofs.Common.{◌∙◌}
use Rattle.viertompu.specs.Joined.{joined}
use Rattle.viertompu.specs.JoinedLaws.{joined_more}
use Rattle.report.specs.declared.writer.Writer.{Writer}
use Rattle.report.specs.Text.{Wrote}
use Rattle.report.specs.TextLaws.{wrote_nothing, wrote_behind}
use Rattle.report.specs.Adds.{Adds}

pub adds_nothing : {p : Writer} → Adds p [] p
adds_nothing = record { same_text = refl; wrote = wrote_nothing _ _ }

-- a second text behind the first
pub adds_behind : {p m q : Writer} {t s : List ℕ} → Adds p t m → Adds m s q → Adds p (t ++ s) q
adds_behind a b = record { same_text = b.same_text ∙ a.same_text; wrote = wrote_behind _ _ _ _ _ _ _ _ a.wrote b.wrote }

pub adds_row : {p m q : Writer} (f : ℕ → List ℕ) (n : ℕ) → Adds p (joined f n) m → Adds m (f n) q → Adds p (joined f (n + 1)) q
adds_row f n a b = rw joined_more (adds_behind a b)

-- what the writer's buffer holds, once nothing more is written
pub adds_ended : {p q : Writer} {t v : List ℕ} → Adds p t q → v ≡ q.text.now → Wrote p.text.now p.at t v q.at
adds_ended a e = rw e a.wrote
