-- Spans of addresses.
--     no_span, span_no    a span of zeros, and the span of an index
--     overlap             two spans share an address
--     Holds               the span holds the address
-- Assumes nothing.
use Rattle.std.specs.Prelude.{Bool, ◌&&◌, List, ℕ, ◌≤◌, ◌<◌, ltb, get_or}
use Rattle.address.specs.declared.Span.{Span}

abbrev pub no_span : Span
no_span = record { start = record { 0 = 0 }; end = record { 0 = 0 } }

abbrev pub span_no : List Span → ℕ → Span
span_no spans i = get_or spans i no_span

-- two spans that are not empty share an address: each begins before the other ends
unfoldable pub overlap : Span → Span → Bool
overlap s t = ltb s.start.0 t.end.0 && ltb t.start.0 s.end.0

-- the span holds the address: from its start up to but not including its end
abbrev pub Holds : Span → ℕ → Type 0
Holds s a = (s.start.0 ≤ a) × (a < s.end.0)
