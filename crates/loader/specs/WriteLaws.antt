-- What writing a load rests on.
--     spans_low, strings_in, room                       the information block can be written
--     layout_read                                       the layout read again is the load's
--     all_written                                       the three writers together make the writes of a load
--     decision_loaded, memory_loaded, memory_refused    a load and a refusal, as the decision hands them over
-- Assumes nothing.
use Rattle.std.specs.Bool.{⊤}
use Rattle.std.specs.Prelude.{Ok, Err, ◌≡◌, List, [], ◌∷◌, ◌++◌, ℕ, ◌+◌, ◌-◌, ◌^◌, ◌≤◌, ◌<◌, length}
use Rattle.std.proofs.Math.Path.{refl}
use Rattle.std.proofs.Common.{ap, ◌∙◌, arith}
use Rattle.std.proofs.Math.Bool.{true, false}
use Rattle.laws.specs.Table.{listed}
use Rattle.laws.specs.Checks.{first_of, passes}
use Rattle.laws.proofs.CheckLaws.{passes_on, ok_passed, err_failed}
use Rattle.buffer.specs.Patched.{patched}
use Rattle.buffer.specs.Writes.{written}
use Rattle.buffer.specs.WritesLaws.{written_append}
use Rattle.address.specs.declared.Span.{Span}
use Rattle.address.specs.Span.{span_no}
use Rattle.answer.specs.declared.Refusal.{Refusal}
use Rattle.submission.specs.declared.Layout.{Layout}
use Rattle.submission.specs.Format.{module_count, max_modules}
use Rattle.submission.specs.Layout.{bytes_of}
use Rattle.submission.specs.FormatLaws.{layout_count, module_at}
use Rattle.submission.specs.Parse.{parsed_submission}
use Rattle.submission.specs.RuleLaws.{parsed_good, string_inside}
use Rattle.kernel.specs.Kernel.{max_segments}
use Rattle.decision.specs.declared.Plan.{Plan}
use Rattle.decision.specs.Plan.{plan_given}
use Rattle.decision.specs.Lent.{Lent}
use Rattle.decision.specs.Read.{layout_in, kernel_in, line_in}
use Rattle.decision.specs.Decided.{plan_of}
use Rattle.decision.specs.Decision.{checks, plan_in, decision_of}
use Rattle.decision.specs.DecisionLaws.{prepared}
use Rattle.block.specs.Block.{block_of}
use Rattle.block.specs.Writing.{SpansLow, StringsIn, Room}
use Rattle.loader.specs.Memory.{segment_write, module_write, contents_for, contents_in, block_write, segment_writes, module_writes, writes_of, memory_after}
use Rattle.loader.specs.Ready.{PlanOfLoad}
use Rattle.loader.specs.LoadLaws.{Loads, span_in, span_inside, module_span, block_span, block_span_length}

module _ (x : Lent) (h : Loads x) where
  module_inside : (i : ℕ) → i < (layout_in x).count → ((span_no (plan_in x).modules i).start.0 < 2 ^ 32) × ((span_no (plan_in x).modules i).end.0 < 2 ^ 32)
  module_inside i u =
      let s = span_inside x h ((kernel_in x).count + i) (omega arith) in
      rw (module_span x h i u) (omega (arith, s.some, s.top), omega (arith, s.top))

  pub spans_low : SpansLow (layout_in x) (plan_in x).modules
  spans_low = record { few = (prepared x h.passed).modules; starts = λ i u. (module_inside i u).0; ends = λ i u. (module_inside i u).1 }

  pub strings_in : StringsIn x.submission (layout_in x)
  strings_in =
      record {
        few = (prepared x h.passed).modules;
        within = λ i u.
            let m : i < module_count x.submission = omega (arith, layout_count x.submission) in
            rw (module_at x.submission i m) (string_inside x.submission h.passed.submission i m);
      }

  pub room : Room (layout_in x) (length x.map) (length (line_in x)) (plan_in x).block.start.0 ((plan_in x).block.start.0 - x.first) x.size
  room =
      let s = span_inside x h ((kernel_in x).count + (layout_in x).count) (omega arith) in
      let p : (plan_in x).block.start.0 ≡ (span_in x ((kernel_in x).count + (layout_in x).count)).start.0 = ap (λ (t : Span). t.start.0) (block_span x h) in
      let q : (plan_in x).block.end.0 ≡ (span_in x ((kernel_in x).count + (layout_in x).count)).end.0 = ap (λ (t : Span). t.end.0) (block_span x h) in
      let n = block_span_length x h in
      record { low = omega (arith, s.top); inside = omega (arith, s.low, s.high) }

  -- the layout read again is the load's
  pub layout_read : parsed_submission x.submission ≡ Ok (layout_in x)
  layout_read = parsed_good x.submission h.passed.rules

-- the plan and the layout as they are handed over
module _ (x : Lent) (h : Loads x) (p : Plan) (l : Layout) (pe : p ≡ plan_in x) (le : l ≡ layout_in x) where
  pub few_segments : p.kernel.count ≤ max_segments
  unfolding plan_of
  few_segments = rw pe (prepared x h.passed).segments

  pub few_modules : l.count ≤ max_modules
  few_modules = rw le (prepared x h.passed).modules

  pub block_ready : (size : ℕ) → size ≡ x.size
      → SpansLow l p.modules × StringsIn x.submission l × Room l (length x.map) (length (line_in x)) p.block.start.0 (p.block.start.0 - x.first) size
  block_ready size e =
      let a = spans_low x h in
      let b = strings_in x h in
      let c = room x h in (
        record { few = rw le a.few; starts = rw (le, pe) a.starts; ends = rw (le, pe) a.ends },
        record { few = rw le b.few; within = rw le b.within },
        record { low = rw (le, pe) c.low; inside = rw (le, pe, e) c.inside },
      )

  pub all_written : (w u v z image : List ℕ) → image ≡ bytes_of x.submission l.image
      → u ≡ written w (listed (segment_write x.first image p.kernel) p.kernel.count)
      → v ≡ written u (listed (module_write x.first x.submission l p.modules) l.count)
      → z ≡ patched v (p.block.start.0 - x.first) (block_of (contents_for x.submission x.operator x.map l p.modules p.block.start.0))
      → z ≡ written w (writes_of x)
  unfolding writes_of segment_writes module_writes block_write contents_in written
  all_written w u v z image ie a b c =
      c ∙ rw (b, a, ie, pe, le, written_append w (segment_writes x ++ module_writes x) (block_write x ∷ []), written_append w (segment_writes x) (module_writes x)) refl

-- the decision as it is handed over
module _ (x : Lent) where
  pub decision_loaded : (u : ⊤) (q : Plan) → first_of (checks x) (tt {0}) ≡ Ok u → q ≡ plan_given (decision_of x) → PlanOfLoad x q
  unfolding decision_of
  decision_loaded u q e f =
      let l = (ok_passed (checks x) u (tt {0}) e).0 in
      record { load = l; plan = f ∙ rw (passes_on (checks x) (plan_in x) l) refl }

  pub memory_loaded : passes (checks x) ≡ true → (w v : List ℕ) → v ≡ written w (writes_of x) → v ≡ memory_after x w
  unfolding memory_after
  memory_loaded l w v f = rw l f

  pub memory_refused : (r : Refusal) → first_of (checks x) (tt {0}) ≡ Err r → (w : List ℕ) → w ≡ memory_after x w
  unfolding memory_after
  memory_refused r e w = let l : passes (checks x) ≡ false = err_failed (checks x) r (tt {0}) e in rw l refl
