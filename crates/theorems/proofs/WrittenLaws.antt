-- The second promise: each byte of the window after a load.
--     written_bytes    for every load into a window of its size
-- Assumes nothing.
use Rattle.std.specs.Prelude.{◌≡◌, true, ℕ, ◌+◌, ◌-◌, ◌≤◌, ◌<◌}
use Rattle.std.proofs.Math.Path.{refl, ap}
use Rattle.std.proofs.Common.{◌∙◌}
use mathlib.Core.List.{List, [], ◌∷◌, ◌++◌}
use Rattle.std.proofs.Math.Logic.{⊎_elim}
use native.Mathlib.Omega.{arith}
use Rattle.std.proofs.Math.ListN.{length, get_or, length-append, get_or-append}
use Rattle.std.proofs.lemmas.List.{length-replicate, get_or-replicate}
use Rattle.std.proofs.Math.Seq.{get_or_at, get_or-append-add}
use Rattle.laws.specs.Checks.{passes}
use Rattle.laws.proofs.TableLaws.{length_listed, listed_at}
use Rattle.laws.proofs.TestLaws.{lt_or_le}
use Rattle.buffer.specs.Patched.{zeros}
use Rattle.buffer.specs.Writes.{written}
use Rattle.buffer.specs.WritesLaws.{no_write, write_no, Reaches, length_written, written_outside, written_inside}
use Rattle.address.specs.declared.Span.{Span}
use Rattle.address.specs.Span.{Holds, span_no}
use Rattle.submission.specs.declared.Module.{Module}
use Rattle.submission.specs.declared.Part.{Part}
use Rattle.submission.specs.Format.{module_count}
use Rattle.submission.specs.Layout.{bytes_of, module_no, layout_of}
use Rattle.submission.specs.FormatLaws.{layout_count, module_at, length-bytes_of, bytes_of_at}
use Rattle.submission.specs.RuleLaws.{data_inside}
use Rattle.kernel.specs.Kernel.{segment_no}
use Rattle.kernel.specs.KernelLaws.{GoodSegment}
use Rattle.kernel.specs.declared.Segment.{Segment}
use Rattle.image.specs.JudgedLaws.{good_kernel}
use Rattle.board.specs.Open.{bios_data_end}
use Rattle.board.proofs.OpenLaws.{open_is}
use Rattle.decision.specs.Lent.{Lent}
use Rattle.decision.specs.Read.{layout_in, image_in, kernel_in, line_in, board_in}
use Rattle.decision.specs.Decided.{plan_of}
use Rattle.decision.specs.Decision.{checks, plan_in}
use Rattle.block.specs.WritingLaws.{length_load}
use Rattle.loader.specs.Memory.{segment_write, segment_writes, module_write, module_writes, contents_in, block_write, writes_of, memory_after}
use Rattle.loader.specs.LoadLaws.{Loads, span_in, count_in, span_open, span_inside, span_apart, kernel_span, module_span, block_span, module_span_length, block_span_length}
use Rattle.loader.specs.WriteLaws.{strings_in}
use Rattle.theorems.specs.Promises.{Elsewhere, byte_at, Written}

-- the bytes that a segment writes: its load bytes from the image, and zeros
abbrev load_part : Segment → Part
load_part s = record { at = s.offset.0; len = s.load_end.0 - s.start.0 }

abbrev segment_bytes : List ℕ → Segment → List ℕ
segment_bytes image s = bytes_of image (load_part s) ++ zeros (s.extent_end.0 - s.load_end.0)

module _ (image : List ℕ) (s : Segment) (g : GoodSegment image s) where
  length_loaded : length (bytes_of image (load_part s)) ≡ s.load_end.0 - s.start.0
  length_loaded =
      ⊎_elim
      (λ (u : 0 < s.load_end.0 - s.start.0). length-bytes_of image (load_part s) (omega (arith, g.inside (s.load_end.0 - s.start.0 - 1) (omega arith))))
      (λ (u : s.load_end.0 - s.start.0 ≤ 0). let z : s.load_end.0 - s.start.0 ≡ 0 = omega arith in rw z refl)
      (lt_or_le 0 (s.load_end.0 - s.start.0))

  length_segment : length (segment_bytes image s) ≡ s.extent_end.0 - s.start.0
  length_segment =
      length-append (bytes_of image (load_part s)) (zeros (s.extent_end.0 - s.load_end.0))
      ∙ omega (arith, length_loaded, length-replicate {A = ℕ} (s.extent_end.0 - s.load_end.0) 0, g.loaded, g.end)

  segment_loaded : (d : ℕ) → d < s.load_end.0 - s.start.0 → get_or (segment_bytes image s) d 0 ≡ get_or image (s.offset.0 + d) 0
  segment_loaded d l =
      get_or-append (bytes_of image (load_part s)) (zeros (s.extent_end.0 - s.load_end.0)) 0 d (omega (arith, length_loaded))
      ∙ bytes_of_at image (load_part s) d l

  segment_zero : (d : ℕ) → s.load_end.0 - s.start.0 ≤ d → d < s.extent_end.0 - s.start.0 → get_or (segment_bytes image s) d 0 ≡ 0
  segment_zero d l m =
      let e : d ≡ length (bytes_of image (load_part s)) + (d - (s.load_end.0 - s.start.0)) = omega (arith, length_loaded) in
      ap (λ (k : ℕ). get_or (segment_bytes image s) k 0) e
      ∙ get_or-append-add (bytes_of image (load_part s)) (zeros (s.extent_end.0 - s.load_end.0)) (d - (s.load_end.0 - s.start.0)) 0
      ∙ get_or-replicate (s.extent_end.0 - s.load_end.0) (d - (s.load_end.0 - s.start.0)) 0 0 (omega (arith, g.loaded, g.end))

module _ (x : Lent) (h : Loads x) where
  -- the write of each span, in the order of the spans
  length_segments : length (segment_writes x) ≡ (kernel_in x).count
  unfolding segment_writes plan_of
  length_segments = length_listed (segment_write x.first (image_in x) (kernel_in x)) (kernel_in x).count

  length_modules : length (module_writes x) ≡ (layout_in x).count
  unfolding module_writes
  length_modules = length_listed (module_write x.first x.submission (layout_in x) (plan_in x).modules) (layout_in x).count

  length_front : length (segment_writes x ++ module_writes x) ≡ (kernel_in x).count + (layout_in x).count
  length_front = length-append (segment_writes x) (module_writes x) ∙ omega (arith, length_segments, length_modules)

  length_writes : length (writes_of x) ≡ count_in x
  unfolding writes_of
  length_writes = length-append (segment_writes x ++ module_writes x) (block_write x ∷ []) ∙ omega (arith, length_front)

  segment_write_lem : (i : ℕ) → i < (kernel_in x).count → write_no (writes_of x) i ≡ segment_write x.first (image_in x) (kernel_in x) i
  unfolding writes_of segment_writes plan_of
  segment_write_lem i u =
      get_or-append (segment_writes x ++ module_writes x) (block_write x ∷ []) no_write i (omega (arith, length_front))
      ∙ get_or-append (segment_writes x) (module_writes x) no_write i (omega (arith, length_segments))
      ∙ listed_at (segment_write x.first (image_in x) (kernel_in x)) (kernel_in x).count i no_write u

  module_write_lem : (i : ℕ) → i < (layout_in x).count → write_no (writes_of x) ((kernel_in x).count + i) ≡ module_write x.first x.submission (layout_in x) (plan_in x).modules i
  unfolding writes_of module_writes
  module_write_lem i u =
      let e : (kernel_in x).count + i ≡ length (segment_writes x) + i = omega (arith, length_segments) in
      rw e
      (get_or-append (segment_writes x ++ module_writes x) (block_write x ∷ []) no_write (length (segment_writes x) + i) (omega (arith, length_front, length_segments))
      ∙ get_or-append-add (segment_writes x) (module_writes x) i no_write
      ∙ listed_at (module_write x.first x.submission (layout_in x) (plan_in x).modules) (layout_in x).count i no_write u)

  block_write_lem : write_no (writes_of x) ((kernel_in x).count + (layout_in x).count) ≡ block_write x
  unfolding writes_of
  block_write_lem = get_or_at (segment_writes x ++ module_writes x) (block_write x) [] no_write ((kernel_in x).count + (layout_in x).count) length_front

  -- the write of a span begins at its start, and is as long
  record WriteOf (j : ℕ) : Type 0 where
    at : (write_no (writes_of x) j).at ≡ (span_in x j).start.0 - x.first
    size : length (write_no (writes_of x) j).bytes ≡ (span_in x j).end.0 - (span_in x j).start.0

  segment_of_lem : (j : ℕ) → j < (kernel_in x).count → WriteOf j
  unfolding segment_write
  segment_of_lem j u =
      let e = kernel_span x h j u in
      let g = (good_kernel (image_in x) h.passed.image).segments j u in
      record { at = rw (segment_write_lem j u, e) refl; size = rw (segment_write_lem j u, e) (length_segment (image_in x) (segment_no (kernel_in x) j) g) }

  module_of_lem : (i : ℕ) → i < (layout_in x).count → WriteOf ((kernel_in x).count + i)
  unfolding module_write
  module_of_lem i u =
      let m : i < module_count x.submission = omega (arith, layout_count x.submission) in
      let e = module_at x.submission i m in
      let d = data_inside x.submission h.passed.submission i m in
      let n = module_span_length x h i u in
      let p = ap (λ (t : Span). t.start.0) (module_span x h i u) in
      record {
        at = rw (module_write_lem i u, module_span x h i u) refl;
        size = rw (module_write_lem i u) (length-bytes_of x.submission (module_no (layout_in x) i).«data» (rw e d) ∙ omega arith);
      }

  block_of : WriteOf ((kernel_in x).count + (layout_in x).count)
  unfolding block_write contents_in
  block_of =
      let p = ap (λ (t : Span). t.start.0) (block_span x h) in
      let q = ap (λ (t : Span). t.end.0) (block_span x h) in
      let n = block_span_length x h in
      record {
        at = rw block_write_lem (ap (λ (a : ℕ). a - x.first) p);
        size = rw block_write_lem (length_load x.submission (layout_in x) (plan_in x).modules x.map (line_in x) _ _ _ (strings_in x h) ∙ omega arith);
      }

  write_of : (j : ℕ) → j < count_in x → WriteOf j
  write_of j l =
      ⊎_elim
      (λ (u : j < (kernel_in x).count). segment_of_lem j u)
      (λ (u : (kernel_in x).count ≤ j).
      let e : (kernel_in x).count + (j - (kernel_in x).count) ≡ j = omega arith in
      ⊎_elim
      (λ (v : j - (kernel_in x).count < (layout_in x).count). rw e at (module_of_lem (j - (kernel_in x).count) v))
      (λ (v : (layout_in x).count ≤ j - (kernel_in x).count). let f : (kernel_in x).count + (layout_in x).count ≡ j = omega arith in rw f at block_of)
      (lt_or_le (j - (kernel_in x).count) (layout_in x).count))
      (lt_or_le j (kernel_in x).count)

  -- a write reaches an address only if its span holds it
  holds_of : (j : ℕ) → j < count_in x → (a : ℕ) → x.first ≤ a → Reaches (write_no (writes_of x) j) (a - x.first) → Holds (span_in x j) a
  holds_of j l a u c =
      let o = write_of j l in
      let i = span_inside x h j l in
      (omega (arith, o.at, o.size, i.some, i.low), omega (arith, o.at, o.size, i.some, i.low))

  covers_of : (j : ℕ) → j < count_in x → (a : ℕ) → Holds (span_in x j) a → Reaches (write_no (writes_of x) j) (a - x.first)
  covers_of j l a m =
      let o = write_of j l in
      let i = span_inside x h j l in
      (omega (arith, o.at, o.size, i.low), omega (arith, o.at, o.size, i.low))

  module _ (w : List ℕ) (n : length w ≡ x.size) (load : passes (checks x) ≡ true) where
    memory_is : memory_after x w ≡ written w (writes_of x)
    unfolding memory_after
    memory_is = rw load refl

    -- the byte of a span is its write's
    byte_in : (j : ℕ) → j < count_in x → (a : ℕ) → Holds (span_in x j) a → byte_at x (memory_after x w) a ≡ get_or (write_no (writes_of x) j).bytes (a - (span_in x j).start.0) 0
    byte_in j l a m =
        let o = write_of j l in
        let i = span_inside x h j l in
        let e : a - x.first - (write_no (writes_of x) j).at ≡ a - (span_in x j).start.0 = omega (arith, o.at, i.low) in
        ap (λ (v : List ℕ). get_or v (a - x.first) 0) memory_is
        ∙ written_inside w (writes_of x) j (a - x.first) 0 (omega (arith, length_writes)) (omega (arith, i.low, i.high)) (covers_of j l a m)
        (λ k u v c. span_apart x h j k u (omega (arith, length_writes)) a m (holds_of k (omega (arith, length_writes)) a (omega (arith, i.low)) c))
        ∙ ap (λ (k : ℕ). get_or (write_no (writes_of x) j).bytes k 0) e

    -- the byte of no span is what was there
    byte_out : (a : ℕ) → x.first ≤ a → ((j : ℕ) → j < count_in x → Holds (span_in x j) a → ⊥) → byte_at x (memory_after x w) a ≡ byte_at x w a
    byte_out a u m =
        ap (λ (v : List ℕ). get_or v (a - x.first) 0) memory_is
        ∙ written_outside w (writes_of x) (a - x.first) 0 (λ j l c. m j (omega (arith, length_writes)) (holds_of j (omega (arith, length_writes)) a u c))

    -- a segment's bytes: its load bytes, and zeros behind them
    module _ (i : ℕ) (u : i < (kernel_in x).count) (a : ℕ) where
      in_span : (segment_no (kernel_in x) i).start.0 ≤ a → a < (segment_no (kernel_in x) i).extent_end.0 → byte_at x (memory_after x w) a ≡ get_or (segment_bytes (image_in x) (segment_no (kernel_in x) i)) (a - (segment_no (kernel_in x) i).start.0) 0
      unfolding segment_write
      in_span l m =
          let e = kernel_span x h i u in
          byte_in i (omega arith) a (rw e (l, m)) ∙ rw (segment_write_lem i u, e) refl

      loaded_byte : (segment_no (kernel_in x) i).start.0 ≤ a → a < (segment_no (kernel_in x) i).load_end.0 → byte_at x (memory_after x w) a ≡ get_or (image_in x) ((segment_no (kernel_in x) i).offset.0 + (a - (segment_no (kernel_in x) i).start.0)) 0
      loaded_byte l m =
          let g = (good_kernel (image_in x) h.passed.image).segments i u in
          in_span l (omega (arith, g.end)) ∙ segment_loaded (image_in x) (segment_no (kernel_in x) i) g (a - (segment_no (kernel_in x) i).start.0) (omega arith)

      bss_byte : (segment_no (kernel_in x) i).load_end.0 ≤ a → a < (segment_no (kernel_in x) i).extent_end.0 → byte_at x (memory_after x w) a ≡ 0
      bss_byte l m =
          let g = (good_kernel (image_in x) h.passed.image).segments i u in
          in_span (omega (arith, g.loaded)) m ∙ segment_zero (image_in x) (segment_no (kernel_in x) i) g (a - (segment_no (kernel_in x) i).start.0) (omega (arith, g.loaded)) (omega (arith, g.loaded))

    module_byte : (i : ℕ) → i < (layout_in x).count → (a : ℕ) → Holds (span_no (plan_in x).modules i) a → byte_at x (memory_after x w) a ≡ get_or x.submission ((module_no (layout_in x) i).«data».at + (a - (span_no (plan_in x).modules i).start.0)) 0
    unfolding module_write
    module_byte i u a m =
        let e = module_span x h i u in
        let n = module_span_length x h i u in
        let q : Holds (span_in x ((kernel_in x).count + i)) a = rw e at m in
        byte_in ((kernel_in x).count + i) (omega arith) a q
        ∙ rw (module_write_lem i u, e) (bytes_of_at x.submission (module_no (layout_in x) i).«data» (a - (span_in x ((kernel_in x).count + i)).start.0) (omega arith))

    elsewhere_byte : (a : ℕ) → x.first ≤ a → Elsewhere x (plan_in x) a → byte_at x (memory_after x w) a ≡ byte_at x w a
    unfolding plan_of layout_of
    elsewhere_byte a l o =
        byte_out a l
        (λ j u m.
        ⊎_elim
        (λ (v : j < (kernel_in x).count). o.kernel j v (rw (kernel_span x h j v) at m))
        (λ (v : (kernel_in x).count ≤ j).
        let e : j ≡ (kernel_in x).count + (j - (kernel_in x).count) = omega arith in
        ⊎_elim
        (λ (z : j - (kernel_in x).count < (layout_in x).count). o.modules (j - (kernel_in x).count) z (rw (module_span x h (j - (kernel_in x).count) z, ← e) m))
        (λ (z : (layout_in x).count ≤ j - (kernel_in x).count). let f : j ≡ (kernel_in x).count + (layout_in x).count = omega arith in o.block (rw (block_span x h, ← f) m))
        (lt_or_le (j - (kernel_in x).count) (layout_in x).count))
        (lt_or_le j (kernel_in x).count))

    -- every address of a span is open, and so none is below the end of the BIOS data area
    bios_byte : (a : ℕ) → x.first ≤ a → a < bios_data_end → byte_at x (memory_after x w) a ≡ byte_at x w a
    bios_byte a l u = byte_out a l (λ j v m. let o = ((open_is (board_in x) a).0 (span_open x h j v a m)).low in absurd (omega arith))

    pub written_bytes : Written x (plan_in x) w (memory_after x w)
    unfolding plan_of layout_of
    written_bytes =
        record {
          size = ap length memory_is ∙ length_written w (writes_of x);
          loaded = loaded_byte;
          bss = bss_byte;
          modules = λ i u a m. module_byte i u a m ∙ ap (λ (k : Module). get_or x.submission (k.«data».at + (a - (span_no (plan_in x).modules i).start.0)) 0) (module_at x.submission i u);
          elsewhere = λ a l m o. elsewhere_byte a l o;
          bios_data = bios_byte;
        }
