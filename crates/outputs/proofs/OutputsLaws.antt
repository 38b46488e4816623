-- The theorem: everything that `Outputs` states holds, for all that can be lent.
--     joined_at, joined_only    a number in one of many rows; rows of nothing past the last
--     Low                       every word of a list is below 2^32
--     length_words, segment_word_lem, module_word_lem, behind_word, last_word
--                                                           which word of a load stands where
--     GoodPlan, good_plan, good         what is known of the plan of a load
--     words_of, low_of, lines_of_lem    its words and its lines
--     item_low, refusal_low             how large an item is, and the words of a refusal
--     load_outputs, refusal_outputs     a load, and a refusal
--     outputs                           for every submission, operator's line, memory map and window
-- Assumes nothing.
use Rattle.std.specs.Prelude.{◌≡◌, refl, true, false, Ok, Err, List, [], ◌∷◌, ◌++◌, ℕ, zero, suc, ◌+◌, ◌-◌, ◌*◌, ◌^◌, ◌≤◌, ◌<◌, eqb, length}
use Rattle.std.proofs.Math.Path.{sym, ap}
use Rattle.std.proofs.Common.{◌∙◌, append-nil, eq-or-lt_of_le, mul-suc, mul-le-mul_left, eqb-true}
use Rattle.std.proofs.Math.Logic.{⊎_elim}
use native.Mathlib.Omega.{arith}
use Rattle.std.proofs.lemmas.Bool.{eqb-false}
use Rattle.std.proofs.Math.ListN.{get_or, length-append, get_or-append}
use Rattle.std.proofs.Math.Seq.{get_or-append-add}
use Rattle.laws.proofs.TestLaws.{true_or_false, lt_or_le}
use Rattle.laws.proofs.TableLaws.{replicate_at}
use Rattle.buffer.specs.Patched.{zeros}
use Rattle.address.specs.declared.Span.{Span}
use Rattle.address.specs.Span.{span_no}
use Rattle.answer.specs.declared.Refusal.{Refusal}
use Rattle.answer.specs.Answer.{refusal_number, refusal_item, number_of, item_of}
use Rattle.answer.specs.AnswerLaws.{number_least, number_most, item_none}
use Rattle.submission.specs.Layout.{layout_of}
use Rattle.submission.specs.Format.{max_modules, module_count}
use Rattle.header.proofs.FalseHeaderLaws.{false_most}
use Rattle.kernel.specs.Kernel.{max_segments, segment_no}
use Rattle.image.specs.JudgedLaws.{good_kernel}
use Rattle.decision.specs.declared.Plan.{Plan}
use Rattle.decision.specs.Lent.{Lent}
use Rattle.decision.specs.Read.{layout_in, image_in, kernel_in}
use Rattle.decision.specs.Decided.{plan_of}
use Rattle.decision.specs.Plan.{Decision, plan_given}
use Rattle.decision.specs.Decision.{plan_in, decision_of}
use Rattle.loader.specs.LoadLaws.{Loads, loads, span_inside, kernel_span, module_span, block_span, modules_past}
use Rattle.loader.specs.WriteLaws.{spans_low}
use Rattle.theorems.proofs.AnsweredLaws.{number_load, load_plan, room_item, header_item}
use Rattle.viertompu.specs.Joined.{joined}
use Rattle.viertompu.specs.JoinedLaws.{length_joined}
use Rattle.viertompu.specs.Words.{head_words, segment_words, module_words, segments_words, modules_words, plan_words}
use Rattle.viertompu.proofs.TurnLaws.{refusal_words}
use Rattle.report.specs.Report.{segment_line, module_line, report_of}
use Rattle.report.specs.ReportLaws.{segment_none, segment_line_lem, module_none, module_line_lem, report_of_load, report_of_refusal}
use Rattle.outputs.specs.Outputs.{Exported, kernel_line_of, module_line_of, lines_of, Outputs}

-- the number of index j in row i, where each row has k numbers
joined_at : (f : ℕ → List ℕ) (k : ℕ) → ((i : ℕ) → length (f i) ≡ k) → (n i j : ℕ) → i < n → j < k → get_or (joined f n) (k * i + j) 0 ≡ get_or (f i) j 0
unfolding joined
joined_at f k e zero i j u v = absurd (omega arith)
joined_at f k e (suc n) i j u v =
    let l = length_joined f k e n in
    ⊎_elim
    (λ (m : suc i ≡ suc n).
    let z : k * i + j ≡ length (joined f n) + j = omega (arith, ap (λ (a : ℕ). k * a) m, mul-suc k i, mul-suc k n) in
    rw (z, get_or-append-add) (ap (λ (a : ℕ). get_or (f a) j 0) (omega arith)))
    (λ (m : suc i < suc n).
    get_or-append (joined f n) (f n) 0 (k * i + j) (omega (arith, mul-suc k i, mul-le-mul_left k m, mul-suc k n)) ∙ joined_at f k e n i j (omega arith) v)
    (eq-or-lt_of_le u)

-- rows that agree below n, and from n on are nothing
joined_only : (f g : ℕ → List ℕ) (m n : ℕ) → n ≤ m → ((i : ℕ) → i < n → f i ≡ g i) → ((i : ℕ) → n ≤ i → i < m → f i ≡ []) → joined f m ≡ joined g n
unfolding joined
joined_only f g zero n l same none = let e : n ≡ 0 = omega arith in rw e refl
joined_only f g (suc m) n l same none =
    ⊎_elim
    (λ (e : n ≡ suc m). rw (e, joined_only f g m m (omega arith) (λ i u. same i (omega arith)) (λ i u v. absurd (omega arith)), same m (omega arith)) refl)
    (λ (u : n < suc m). rw (none m (omega arith) (omega arith), append-nil) (joined_only f g m n (omega arith) same (λ i v w. none i v (omega arith))))
    (eq-or-lt_of_le l)

-- every word is below 2^32
data Low : List ℕ → Type 0 where
  none : Low []
  more : {a : ℕ} {s : List ℕ} → a < 2 ^ 32 → Low s → Low (a ∷ s)

low_at : {s : List ℕ} → Low s → (k : ℕ) → get_or s k 0 < 2 ^ 32
low_at none k = omega arith
low_at (more u l) zero = u
low_at (more u l) (suc k) = low_at l k

low_append : {s t : List ℕ} → Low s → Low t → Low (s ++ t)
low_append none m = m
low_append (more u l) m = more u (low_append l m)

low_joined : (f : ℕ → List ℕ) → ((i : ℕ) → Low (f i)) → (n : ℕ) → Low (joined f n)
unfolding joined
low_joined f l zero = none
low_joined f l (suc n) = low_append (low_joined f l n) (l n)

low_zeros : (n : ℕ) → Low (zeros n)
low_zeros zero = none
low_zeros (suc n) = more {a = 0} (omega arith) (low_zeros n)

-- the words of a load with the plan q: 8, then 48 of segments, 32 of modules, the count of false headers, and 7 zeros
module _ (q : Plan) where
  abbrev to_segments : List ℕ
  to_segments = head_words (Ok q) ++ segments_words q.kernel

  abbrev to_modules : List ℕ
  to_modules = to_segments ++ modules_words q.modules

  length_segments : length to_segments ≡ 56
  unfolding head_words
  length_segments = length-append (head_words (Ok q)) (segments_words q.kernel) ∙ omega (arith, length_joined (segment_words q.kernel) 3 (λ i. refl) max_segments)

  abbrev behind : List ℕ
  behind = q.kernel.false_headers ∷ zeros 7

  length_modules : length to_modules ≡ 88
  length_modules = length-append to_segments (modules_words q.modules) ∙ omega (arith, length_segments, length_joined (module_words q.modules) 2 (λ i. refl) max_modules)

  length_words : length (plan_words (Ok q)) ≡ 96
  unfolding plan_words
  length_words = length-append to_modules behind ∙ omega (arith, length_modules)

  segment_word_lem : (i j k : ℕ) → i < 16 → j < 3 → k ≡ 8 + (3 * i + j) → get_or (plan_words (Ok q)) k 0 ≡ get_or (segment_words q.kernel i) j 0
  unfolding plan_words head_words
  segment_word_lem i j k u v e =
      get_or-append to_modules behind 0 k (omega (arith, length_modules))
      ∙ get_or-append to_segments (modules_words q.modules) 0 k (omega (arith, length_segments))
      ∙ ap (λ (a : ℕ). get_or to_segments a 0) e
      ∙ get_or-append-add (head_words (Ok q)) (segments_words q.kernel) (3 * i + j) 0
      ∙ joined_at (segment_words q.kernel) 3 (λ a. refl) max_segments i j u v

  module_word_lem : (i j k : ℕ) → i < 16 → j < 2 → k ≡ 56 + (2 * i + j) → get_or (plan_words (Ok q)) k 0 ≡ get_or (module_words q.modules i) j 0
  unfolding plan_words
  module_word_lem i j k u v e =
      get_or-append to_modules behind 0 k (omega (arith, length_modules))
      ∙ ap (λ (a : ℕ). get_or to_modules a 0) (omega (arith, length_segments))
      ∙ get_or-append-add to_segments (modules_words q.modules) (2 * i + j) 0
      ∙ joined_at (module_words q.modules) 2 (λ a. refl) max_modules i j u v

  behind_word : (j k : ℕ) → k ≡ 88 + j → get_or (plan_words (Ok q)) k 0 ≡ get_or behind j 0
  unfolding plan_words
  behind_word j k e =
      ap (λ (a : ℕ). get_or (to_modules ++ behind) a 0) (omega (arith, length_modules))
      ∙ get_or-append-add to_modules behind j 0

  last_word : (k : ℕ) → 89 ≤ k → get_or (plan_words (Ok q)) k 0 ≡ 0
  last_word k u = behind_word (suc (k - 89)) k (omega arith) ∙ replicate_at 7 (k - 89) 0

-- what is known of the plan of a load with n modules: it has no number of more than 32 bits, and exactly the segments and the
-- modules that it has end above 0
record GoodPlan (q : Plan) (n : ℕ) : Type 0 where
  header : q.kernel.header.0 < 2 ^ 32
  false_headers : q.kernel.false_headers < 2 ^ 32
  entry : q.kernel.entry.0 < 2 ^ 32
  eax : q.eax < 2 ^ 32
  ebx : q.ebx < 2 ^ 32
  block : (q.block.start.0 < 2 ^ 32) × (q.block.end.0 < 2 ^ 32)
  segments : (i : ℕ) → ((segment_no q.kernel i).start.0 < 2 ^ 32) × ((segment_no q.kernel i).load_end.0 < 2 ^ 32) × ((segment_no q.kernel i).extent_end.0 < 2 ^ 32)
  modules : (i : ℕ) → ((span_no q.modules i).start.0 < 2 ^ 32) × ((span_no q.modules i).end.0 < 2 ^ 32)
  few_segments : q.kernel.count ≤ 16
  few_modules : n ≤ 16
  segment_some : (i : ℕ) → i < q.kernel.count → 0 < (segment_no q.kernel i).extent_end.0
  segment_past : (i : ℕ) → q.kernel.count ≤ i → (segment_no q.kernel i).extent_end.0 ≡ 0
  module_some : (i : ℕ) → i < n → 0 < (span_no q.modules i).end.0
  module_past : (i : ℕ) → n ≤ i → (span_no q.modules i).end.0 ≡ 0

module _ (x : Lent) (h : Loads x) where
  -- every number of a segment of the kernel is below 2^32, and so is the entry, which lies in one of them
  extent_low : (i : ℕ) → i < (kernel_in x).count → (segment_no (kernel_in x) i).extent_end.0 < 2 ^ 32
  extent_low i u =
      let e = ap (λ (s : Span). s.end.0) (kernel_span x h i u) in
      omega (arith, (span_inside x h i (omega arith)).top)

  segment_low : (i : ℕ) → ((segment_no (kernel_in x) i).start.0 < 2 ^ 32) × ((segment_no (kernel_in x) i).load_end.0 < 2 ^ 32) × ((segment_no (kernel_in x) i).extent_end.0 < 2 ^ 32)
  segment_low i =
      let k = good_kernel (image_in x) h.passed.image in
      ⊎_elim
      (λ (u : i < (kernel_in x).count). let s = k.segments i u in (omega (arith, s.some, extent_low i u), omega (arith, s.end, extent_low i u), extent_low i u))
      (λ (u : (kernel_in x).count ≤ i). rw (k.rest i u) (omega arith, omega arith, omega arith))
      (lt_or_le i (kernel_in x).count)

  good_plan : GoodPlan (plan_in x) (module_count x.submission)
  unfolding plan_of layout_of
  good_plan =
      let k = good_kernel (image_in x) h.passed.image in
      let b = span_inside x h ((kernel_in x).count + (layout_in x).count) (omega arith) in
      let m = spans_low x h in
      record {
        header = omega (arith, k.early);
        false_headers = omega (arith, k.counted, false_most (image_in x));
        entry = omega (arith, k.entered.3, segment_low k.entered.0);
        eax = omega arith;
        ebx = omega arith;
        block = rw (block_span x h) (omega arith, omega arith);
        segments = segment_low;
        modules = λ i.
            ⊎_elim
            (λ (u : i < (layout_in x).count). (m.starts i u, m.ends i u))
            (λ (u : (layout_in x).count ≤ i). rw (modules_past x h i u) (omega arith, omega arith))
            (lt_or_le i (layout_in x).count);
        few_segments = k.few;
        few_modules = m.few;
        segment_some = λ i u. omega (arith, (k.segments i u).some);
        segment_past = λ i u. rw (k.rest i u) refl;
        module_some = λ i u. rw (module_span x h i u) (omega (arith, (span_inside x h ((kernel_in x).count + i) (omega arith)).some));
        module_past = λ i u. rw (modules_past x h i u) refl;
      }

-- the words of a load say its plan, and each is below 2^32
module _ (q : Plan) (n : ℕ) (g : GoodPlan q n) where
  words_of : Exported q (plan_words (Ok q))
  unfolding plan_words head_words
  words_of =
      record {
        number = refl;
        item = refl;
        header = omega arith;
        entry = omega arith;
        eax = refl;
        ebx = refl;
        block_start = omega arith;
        block_end = omega arith;
        starts = λ i u. segment_word_lem q i 0 (8 + 3 * i) u (omega arith) (omega arith) ∙ omega (arith, g.segments i);
        load_ends = λ i u. segment_word_lem q i 1 (8 + 3 * i + 1) u (omega arith) (omega arith) ∙ omega (arith, g.segments i);
        extent_ends = λ i u. segment_word_lem q i 2 (8 + 3 * i + 2) u (omega arith) (omega arith) ∙ omega (arith, g.segments i);
        module_starts = λ i u. module_word_lem q i 0 (56 + 2 * i) u (omega arith) (omega arith) ∙ omega (arith, g.modules i);
        module_ends = λ i u. module_word_lem q i 1 (56 + 2 * i + 1) u (omega arith) (omega arith) ∙ omega (arith, g.modules i);
        false_headers = behind_word q 0 88 refl;
        rest = last_word q;
      }

  low_of : Low (plan_words (Ok q))
  unfolding plan_words head_words
  low_of =
      low_append
      (low_append
      (low_append
      (more (omega arith) (more (omega arith) (more (omega arith) (more (omega arith) (more g.eax (more g.ebx (more (omega arith) (more (omega arith) none))))))))
      (low_joined (segment_words q.kernel) (λ i. more (omega arith) (more (omega arith) (more (omega arith) none))) max_segments))
      (low_joined (module_words q.modules) (λ i. more (omega arith) (more (omega arith) none)) max_modules))
      (more g.false_headers (low_zeros 7))

-- and its lines: the report leaves out the places past the last segment and the last module
module _ (q : Plan) (n : ℕ) (p : List ℕ) (g : GoodPlan q n) (w : Exported q p) where
  kernel_lines : joined (segment_line p) max_segments ≡ joined (kernel_line_of q) q.kernel.count
  kernel_lines =
      joined_only (segment_line p) (kernel_line_of q) max_segments q.kernel.count g.few_segments
      (λ i u.
      let v : i < 16 = omega arith in
      cc (segment_line_lem p i (λ z. omega (arith, g.segment_some i u, w.extent_ends i v)), w.starts i v, w.load_ends i v, w.extent_ends i v, w.entry))
      (λ i u v. segment_none p i (w.extent_ends i v ∙ g.segment_past i u))

  module_lines : joined (module_line p) max_modules ≡ joined (module_line_of q) n
  module_lines =
      joined_only (module_line p) (module_line_of q) max_modules n g.few_modules
      (λ i u.
      let v : i < 16 = omega arith in
      cc (module_line_lem p i (λ z. omega (arith, g.module_some i u, w.module_ends i v)), w.module_starts i v, w.module_ends i v))
      (λ i u v. module_none p i (w.module_ends i v ∙ g.module_past i u))

  lines_of_lem : report_of p ≡ lines_of q n
  lines_of_lem = sym (report_of_load p w.number) ∙ cc (kernel_lines, module_lines, w.block_start, w.block_end)

-- an item is the index of one of 16 modules, or how many false headers there are: at most 2,046
item_low : (x : Lent) → item_of (decision_of x) < 2 ^ 32
item_low x =
    ⊎_elim
    (λ (t : eqb (number_of (decision_of x)) 16 ≡ true). let r = room_item x (eqb-true _ 16 t) in omega (arith, r.2.count))
    (λ (t : eqb (number_of (decision_of x)) 16 ≡ false).
    ⊎_elim
    (λ (u : eqb (number_of (decision_of x)) 6 ≡ true). omega (arith, (header_item x (eqb-true _ 6 u)).0, false_most (image_in x)))
    (λ (u : eqb (number_of (decision_of x)) 6 ≡ false). omega (arith, item_none (decision_of x) (eqb-false _ 6 u) (eqb-false _ 16 t)))
    (true_or_false (eqb (number_of (decision_of x)) 6)))
    (true_or_false (eqb (number_of (decision_of x)) 16))

refusal_low : (r : Refusal) → refusal_item r < 2 ^ 32 → Low (plan_words (Err r))
refusal_low r l = rw refusal_words (more {a = refusal_number r} (omega (arith, number_most r)) (more l (low_zeros 94)))

-- the plan of a load
good : (x : Lent) → number_of (decision_of x) ≡ 0 → GoodPlan (plan_given (decision_of x)) (module_count x.submission)
good x e = rw (load_plan x e) (good_plan x (loads x (number_load x e)))

module _ (n : ℕ) where
  load_outputs : (q : Plan) → GoodPlan q n → Outputs (Ok q) n (plan_words (Ok q)) (report_of (plan_words (Ok q)))
  load_outputs q g =
      record {
        size = length_words q;
        low = low_at (low_of q n g);
        load_words = λ e. words_of q n g;
        load_text = λ e. lines_of_lem q n (plan_words (Ok q)) g (words_of q n g);
        refusal_words = λ h. absurd (h refl);
        refusal_text = λ h. absurd (h refl);
      }

  refusal_outputs : (r : Refusal) → refusal_item r < 2 ^ 32 → Outputs (Err r) n (plan_words (Err r)) (report_of (plan_words (Err r)))
  unfolding plan_words head_words
  refusal_outputs r l =
      record {
        size = ap length (refusal_words r);
        low = low_at (refusal_low r l);
        load_words = λ e. absurd (omega (arith, number_least r));
        load_text = λ e. absurd (omega (arith, number_least r));
        refusal_words = λ h. refusal_words r;
        refusal_text = λ h. sym (report_of_refusal (plan_words (Err r)) h);
      }

  of_decision : (d : Decision) → (number_of d ≡ 0 → GoodPlan (plan_given d) n) → item_of d < 2 ^ 32 → Outputs d n (plan_words d) (report_of (plan_words d))
  of_decision (Ok q) g l = load_outputs q (g refl)
  of_decision (Err r) g l = refusal_outputs r l

pub outputs : (x : Lent) → Outputs (decision_of x) (module_count x.submission) (plan_words (decision_of x)) (report_of (plan_words (decision_of x)))
outputs x = of_decision (module_count x.submission) (decision_of x) (good x) (item_low x)
