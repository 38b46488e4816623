-- The rows of a plan, as `as_chunks` lends them.
--     chunk_word, row_word           a word of a row, in the plan
--     segment_some, segment_past     the line of the segment in a row, or none
--     module_some, module_past       the same of a module
-- Assumes nothing.
use Rattle.std.specs.Prelude.{◌≡◌, List, [], ◌∷◌, ◌++◌, ℕ, zero, suc, ◌+◌, ◌*◌, ◌<◌, get_or, take, drop}
use Rattle.std.specs.Simd.{first_chunks}
use Rattle.std.proofs.Common.{ap, sym, ◌∙◌, add-zero, arith, mul-suc, get_or-take, get_or-drop}
use Rattle.submission.specs.Format.{max_modules}
use Rattle.kernel.specs.Kernel.{max_segments}
use Rattle.viertompu.specs.Words.{first_segment, words_per_segment, first_module, words_per_module}
use Rattle.report.specs.Text.{decimal_text}
use Rattle.report.specs.Report.{kernel_label, module_label, entry_word, segment_word, module_word, line_text, segment_line, module_line}
use Rattle.report.specs.ReportLaws.{segment_none, segment_line_lem, module_none, module_line_lem}

chunk_word : (n k : ℕ) (xs : List ℕ) (i j : ℕ) → i < k → j < n → get_or (get_or (first_chunks n k xs) i []) j 0 ≡ get_or xs (n * i + j) 0
chunk_word n zero xs i j u v = absurd (omega arith)
chunk_word n (suc k) xs zero j u v = get_or-take n xs j 0 v ∙ ap (λ (a : ℕ). get_or xs a 0) (omega arith)
chunk_word n (suc k) xs (suc i) j u v =
    chunk_word n k (drop n xs) i j (omega arith) v
    ∙ get_or-drop n xs (n * i + j) 0
    ∙ ap (λ (a : ℕ). get_or xs a 0) (omega (arith, mul-suc n i))

-- rows of n words each, from word a on
row_word : (p : List ℕ) (a m n k : ℕ) (rows : List (List ℕ)) (i j : ℕ) → rows ≡ first_chunks n k (take m (drop a p)) → i < k → j < n → n * i + j < m
    → get_or (get_or rows i []) j 0 ≡ get_or p (a + n * i + j) 0
row_word p a m n k rows i j e u v w =
    rw e (chunk_word n k (take m (drop a p)) i j u v)
    ∙ get_or-take m (drop a p) (n * i + j) 0 w
    ∙ get_or-drop a p (n * i + j) 0
    ∙ ap (λ (b : ℕ). get_or p b 0) (omega arith)

module _ (p : List ℕ) (k i : ℕ) (rows : List (List ℕ)) (u : i < k) where
  -- word j of the row
  abbrev row_at : ℕ → ℕ
  row_at j = get_or (get_or rows i []) j 0

  module _ (e : rows ≡ first_chunks words_per_segment k (take 48 (drop first_segment p))) (v : i < max_segments) where
    segment_is : (j : ℕ) → j < words_per_segment → row_at j ≡ segment_word p i j
    segment_is j l = row_word p first_segment 48 words_per_segment k rows i j e u l (omega arith)

    pub segment_some : (row_at 2 ≡ 0 → ⊥) → line_text kernel_label (row_at 0 ∷ row_at 1 ∷ row_at 2 ∷ entry_word p ∷ []) ≡ segment_line p i
    segment_some h =
        rw (segment_is 0 (omega arith), segment_is 1 (omega arith), segment_is 2 (omega arith), add-zero)
        (segment_line_lem p i (λ z. h (segment_is 2 (omega arith) ∙ z)))

    pub segment_past : row_at 2 ≡ 0 → segment_line p i ≡ []
    segment_past z = segment_none p i (sym (segment_is 2 (omega arith)) ∙ z)

  module _ (e : rows ≡ first_chunks words_per_module k (take 32 (drop first_module p))) (v : i < max_modules) where
    module_is : (j : ℕ) → j < words_per_module → row_at j ≡ module_word p i j
    module_is j l = row_word p first_module 32 words_per_module k rows i j e u l (omega arith)

    pub module_some : (row_at 1 ≡ 0 → ⊥) → line_text (module_label ++ decimal_text i) (row_at 0 ∷ row_at 1 ∷ []) ≡ module_line p i
    module_some h =
        rw (module_is 0 (omega arith), module_is 1 (omega arith), add-zero)
        (module_line_lem p i (λ z. h (module_is 1 (omega arith) ∙ z)))

    pub module_past : row_at 1 ≡ 0 → module_line p i ≡ []
    module_past z = module_none p i (sym (module_is 1 (omega arith)) ∙ z)
