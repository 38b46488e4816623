-- Edges of spans: where a span past an address begins or ends.
--     nearest       v where it lies past x and before e, else e
--     span_edge     the nearest edge of one span past x, else e
--     edge_up_to    the nearest edge past x of the spans 0 to k - 1, else e
-- Assumes nothing.
use Rattle.std.specs.Prelude.{cond, ◌&&◌, ℕ, zero, suc, ltb}

unfoldable pub nearest : ℕ → ℕ → ℕ → ℕ
nearest x e v = cond (ltb x v && ltb v e) v e

unfoldable pub span_edge : ℕ → ℕ → ℕ → ℕ → ℕ
span_edge start end x e = nearest x (nearest x e start) end

-- the spans by index: where each starts, and where it ends
unfoldable pub edge_up_to : (ℕ → ℕ) → (ℕ → ℕ) → ℕ → ℕ → ℕ → ℕ
edge_up_to start end x e zero = e
edge_up_to start end x e (suc k) = span_edge (start k) (end k) x (edge_up_to start end x e k)
