-- Several writes into one buffer, one after the other.
--     Write      bytes, and the offset from which on they are written
--     written    the buffer after a row of writes
-- Assumes nothing.
use Rattle.std.specs.Prelude.{List, [], ◌∷◌, ℕ}
use Rattle.buffer.specs.Patched.{patched}

pub record Write : Type 0 where
  pub at : ℕ
  pub bytes : List ℕ

unfoldable pub written : List ℕ → List Write → List ℕ
written d [] = d
written d (x ∷ ws) = written (patched d x.at x.bytes) ws
