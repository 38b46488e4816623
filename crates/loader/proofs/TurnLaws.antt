-- One turn of each loop: a write more, behind those made.
-- Assumes nothing.
use mathlib.Core.Path.{◌≡◌, refl, ap, ◌∙◌}
use mathlib.Core.List.{List, [], ◌∷◌, ◌++◌}
use Prim.Native.Nat.{ℕ, ◌+◌, ◌-◌, ◌<◌}
use native.Mathlib.Numerals.{add-one}
use lib.ListN.{length, take, get_or}
use lib.Seq.{get_or-take}
use Rattle.laws.specs.Table.{listed}
use Rattle.buffer.specs.Patched.{patched, zeros}
use Rattle.buffer.specs.PatchedLaws.{patched-append}
use Rattle.buffer.specs.Writes.{Write, written}
use Rattle.buffer.specs.WritesLaws.{written_append}
use Rattle.address.specs.declared.Span.{Span}
use Rattle.address.specs.Span.{span_no}
use Rattle.submission.specs.declared.Layout.{Layout}
use Rattle.submission.specs.declared.Module.{Module}
use Rattle.submission.specs.Layout.{no_module, bytes_of}
use Rattle.kernel.specs.declared.Kernel.{Kernel}
use Rattle.kernel.specs.Kernel.{no_segment}
use Rattle.loader.specs.Memory.{segment_write, module_write}

-- no write yet
pub none_written : (d : List ℕ) (f : ℕ → Write) → d ≡ written d (listed f 0)
unfolding written listed
none_written d f = refl

-- one write more
pub one_written : (d w v : List ℕ) (f : ℕ → Write) (i at : ℕ) (bytes : List ℕ) → w ≡ written d (listed f i) → at ≡ (f i).at → bytes ≡ (f i).bytes
    → v ≡ patched w at bytes
    → v ≡ written d (listed f (i + 1))
unfolding written listed
one_written d w v f i at bytes e p q h = rw (add-one i, written_append d (listed f i) (f i ∷ []), ← e, ← p, ← q) h

-- bytes, and zeros behind them
pub filled : (w u v : List ℕ) (at : ℕ) (bytes : List ℕ) (count : ℕ) → u ≡ patched w at bytes → v ≡ patched u (at + length bytes) (zeros count) → v ≡ patched w at (bytes ++ zeros count)
filled w u v at bytes count e f = f ∙ ap (λ (l : List ℕ). patched l (at + length bytes) (zeros count)) e ∙ patched-append w at bytes (zeros count)

-- a module more
pub module_written : (f : ℕ) (s : List ℕ) (l : Layout) (spans : List Span) (n : ℕ) (d w v : List ℕ) (i at : ℕ) (bytes : List ℕ) (m : Module) (q : Span) → i < n
    → m ≡ get_or (take n l.modules) i no_module → q ≡ span_no spans i
    → w ≡ written d (listed (module_write f s l spans) i) → bytes ≡ bytes_of s m.«data» → at ≡ q.start.0 - f
    → v ≡ patched w at bytes
    → v ≡ written d (listed (module_write f s l spans) (i + 1))
unfolding module_write
module_written f s l spans n d w v i at bytes m q u g p e b a h =
    one_written d w v (module_write f s l spans) i at bytes e (a ∙ rw p refl) (b ∙ rw (g, get_or-take) refl) h

-- a segment more: its load bytes, and zeros behind them
pub segment_written : (f : ℕ) (image : List ℕ) (k : Kernel) (n : ℕ) (d w v : List ℕ) (i : ℕ) → i < n
    → w ≡ written d (listed (segment_write f image k) i)
    → (let s = get_or (take n k.segments) i no_segment in
    v ≡ patched w (s.start.0 - f) (bytes_of image (record { at = s.offset.0; len = s.load_end.0 - s.start.0 }) ++ zeros (s.extent_end.0 - s.load_end.0)))
    → v ≡ written d (listed (segment_write f image k) (i + 1))
unfolding segment_write
segment_written f image k n d w v i l e h = one_written d w v (segment_write f image k) i _ _ e refl refl (rw get_or-take at h)
