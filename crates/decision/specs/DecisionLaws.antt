-- What the checks before 15 show, and how the decision goes on from them.
--     lent_chain                                             its stages, one after the other
--     LentPassed, lent_passed                                what is known where none of them applies
--     prepared, block_small                                  so that the items can be placed
--     read_given, read_refused                               what reading into a room gives
--     submission_refused, .. image_refused                   the decision where a stage refuses
--     Stages, stages_known                                   what the stages read where none does
--     decided_on                                             then the decision is the one on memory
--     board_is, block_length_is, prepared_is, decision_is    the same as the calls hand it over
--     memory_value, memory_given                             what the checks on memory answer, and the plan that they leave
-- Assumes nothing.
use Rattle.std.specs.Bool.{⊤}
use Rattle.std.specs.Result.{result_and}
use Rattle.std.specs.Prelude.{MatchResult, Result, Ok, Err, ◌≡◌, refl, true, false, ℕ, ◌+◌, ◌^◌, ◌≤◌, ◌<◌}
use Rattle.std.proofs.Math.Path.{sym, ap}
use Rattle.std.proofs.Common.{arith, ◌∙◌}
use mathlib.Core.List.{List, [], ◌++◌, append_assoc, append-nil}
use Rattle.std.proofs.Math.ListN.{length}
use Rattle.laws.specs.Checks.{first_of, passes}
use Rattle.address.specs.Address.{top}
use Rattle.address.specs.declared.Span.{Span}
use Rattle.laws.proofs.CheckLaws.{passes_both, passes_on, ok_passed, chain_append, chain_first, chain_second}
use Rattle.answer.specs.declared.Refusal.{Refusal}
use Rattle.submission.specs.declared.Layout.{Layout}
use Rattle.submission.specs.declared.Module.{Module}
use Rattle.submission.specs.Format.{module_count, max_modules}
use Rattle.submission.specs.Layout.{bytes_of, module_no}
use Rattle.submission.specs.FormatLaws.{layout_count, module_at}
use Rattle.submission.specs.Rules.{submission_checks, max_line, max_string}
use Rattle.submission.specs.Parse.{parsed_submission}
use Rattle.submission.specs.RuleLaws.{good_submission, parsed_layout}
use Rattle.submission.specs.GoodSubmission.{GoodSubmission}
use Rattle.command_line.specs.CommandLine.{operator_checks}
use Rattle.command_line.specs.CommandLineLaws.{line_length_lem}
use Rattle.kernel.specs.declared.Kernel.{Kernel}
use Rattle.image.specs.Judged.{image_checks}
use Rattle.image.specs.Judge.{judged}
use Rattle.image.specs.JudgedLaws.{good_kernel}
use Rattle.memory_map.specs.declared.MemoryMap.{MemoryMap}
use Rattle.memory_map.specs.Map.{map_checks, bad_map, first_pairs, map_of}
use Rattle.memory_map.specs.Parse.{parsed_map}
use Rattle.memory_map.specs.PairsLaws.{good_counted, load_good}
use Rattle.board.specs.declared.Board.{Board}
use Rattle.board.specs.Window.{window_checks, window_span}
use Rattle.board.proofs.WindowLaws.{window_fits}
use Rattle.block.specs.Block.{string_lengths, block_length}
use Rattle.block.specs.WritingLaws.{block_bound}
use Rattle.decision.specs.Lent.{Lent}
use Rattle.decision.specs.Read.{layout_in, image_in, kernel_in, line_in, board_in, block_length_in}
use Rattle.decision.specs.Decided.{memory_checks, memory_plan, memory_decision}
use Rattle.decision.specs.declared.Plan.{Plan}
use Rattle.decision.specs.Plan.{no_plan, plan_given}
use Rattle.decision.specs.Decision.{lent_checks, checks, plan_in, decision_of}
use Rattle.decision.specs.PlacedLaws.{Prepared}

module _ (x : Lent) where
  lent_right :
      lent_checks x
      ≡ submission_checks x.submission ++ (operator_checks x.operator ++ (window_checks x.first x.size ++ (map_checks x.map ++ image_checks (image_in x))))
  unfolding lent_checks
  lent_right = simp append_assoc

  -- the stages, one after the other, whatever their values
  lent_chain : {A B C D F : Type 0} (a : A) (b : B) (c : C) (d : D) (z : F)
      → first_of (lent_checks x) z
      ≡ result_and (first_of (submission_checks x.submission) a)
      (result_and (first_of (operator_checks x.operator) b)
      (result_and (first_of (window_checks x.first x.size) c) (result_and (first_of (map_checks x.map) d) (first_of (image_checks (image_in x)) z))))
  lent_chain a b c d z =
      rw (
        lent_right,
        chain_append (submission_checks x.submission) (operator_checks x.operator ++ (window_checks x.first x.size ++ (map_checks x.map ++ image_checks (image_in x)))) a z,
        chain_append (operator_checks x.operator) (window_checks x.first x.size ++ (map_checks x.map ++ image_checks (image_in x))) b z,
        chain_append (window_checks x.first x.size) (map_checks x.map ++ image_checks (image_in x)) c z,
        chain_append (map_checks x.map) (image_checks (image_in x)) d z,
      )

-- what is known where none of the checks before 15 applies
pub record LentPassed (x : Lent) : Type 0 where
  pub rules : passes (submission_checks x.submission) ≡ true
  pub submission : GoodSubmission x.submission
  pub operator : passes (operator_checks x.operator) ≡ true
  pub window : x.first + x.size ≤ top
  pub map : bad_map x.map ≡ false
  pub image : passes (image_checks (image_in x)) ≡ true

module _ (x : Lent) where
  pub lent_passed : passes (lent_checks x) ≡ true → LentPassed x
  lent_passed h =
      let a = passes_both (submission_checks x.submission) _ (rw (lent_right x) at h) in
      let b = passes_both (operator_checks x.operator) _ a.1 in
      let c = passes_both (window_checks x.first x.size) _ b.1 in
      let d = passes_both (map_checks x.map) _ c.1 in
      record {
        rules = a.0;
        submission = good_submission x.submission a.0;
        operator = b.0;
        window = (window_fits x.first x.size).0 c.0;
        map = load_good x.map d.0;
        image = d.1;
      }

module _ (x : Lent) (p : LentPassed x) where
  count_small : (layout_in x).count ≤ max_modules
  count_small = rw (layout_count x.submission) p.submission.count

  string_small : (i : ℕ) → i < (layout_in x).count → (module_no (layout_in x) i).string.len ≤ max_string
  string_small i l =
      let h : i < module_count x.submission = omega (arith, layout_count x.submission) in
      omega (arith, ap (λ (m : Module). m.string.len) (module_at x.submission i h), p.submission.string i h)

  -- the information block is short, and not empty
  pub block_small : (1 ≤ block_length_in x) × (block_length_in x < 2 ^ 13)
  unfolding block_length
  block_small =
      let b = block_bound (layout_in x) max_string (length x.map) (length (line_in x)) string_small in
      let l : length (line_in x) ≤ max_line = line_length_lem x.operator x.submission in
      let c = count_small in
      omega (arith, b, (good_counted x.map p.map).short)

  pub prepared : Prepared (board_in x) (kernel_in x) (layout_in x) (block_length_in x)
  unfolding first_pairs
  prepared =
      record {
        window = p.window;
        segments = (good_kernel (image_in x) p.image).few;
        modules = count_small;
        bytes = λ i l.
            let h : i < module_count x.submission = omega (arith, layout_count x.submission) in
            omega (arith, ap (λ (m : Module). m.«data».len) (module_at x.submission i h), p.submission.bytes i h);
        block = block_small.0;
      }

-- what the stages hand over where none of them refuses
pub record Stages (x : Lent) (l : Layout) (w : Span) (m : MemoryMap) (k : Kernel) : Type 0 where
  pub passed : passes (lent_checks x) ≡ true
  pub layout : l ≡ layout_in x
  pub window : w ≡ window_span x.first x.size
  pub map : m ≡ map_of x.map
  pub kernel : k ≡ kernel_in x

-- what `read_into` puts into the room, and what it refuses, as the answer r that it read
module _ {A : Type 0} (a : Result ⊤ Refusal) (v : A) (r p : Result A Refusal) (f : result_and a (Ok v) ≡ r) (e : r ≡ p) where
  pub read_given : (u : ⊤) → a ≡ Ok u → p ≡ Ok v
  read_given u h = sym (f ∙ e) ∙ ap (λ (b : Result ⊤ Refusal). result_and b (Ok v)) h

  pub read_refused : (x : Refusal) → a ≡ Err x → p ≡ Err x
  read_refused x h = sym (f ∙ e) ∙ ap (λ (b : Result ⊤ Refusal). result_and b (Ok v)) h

-- a refusal, as the decision gives it
abbrev pub Refused : Lent → Refusal → Type 0
Refused x r = (Err r ≡ first_of (checks x) (tt {0})) × (no_plan ≡ plan_given (decision_of x))

-- what the stages give, one after the other: s the submission, o the operator's line, and so on
module _ (x : Lent) where
  refused : (r : Refusal) → Err r ≡ first_of (lent_checks x) (tt {0}) → Refused x r
  unfolding decision_of checks
  refused r h =
      (chain_first (lent_checks x) _ r (tt {0}) (tt {0}) (sym h), rw (← chain_first (lent_checks x) _ r (tt {0}) (plan_in x) (sym h)) refl)

  pub submission_refused : (r : Refusal) → parsed_submission x.submission ≡ Err r → Refused x r
  unfolding parsed_submission
  submission_refused r h = refused r (rw (lent_chain x (layout_in x) (tt {0}) (tt {0}) (tt {0}) (tt {0}), h) refl)

  module _ (l : Layout) (s : parsed_submission x.submission ≡ Ok l) where
    pub operator_refused : (r : Refusal) → first_of (operator_checks x.operator) (tt {0}) ≡ Err r → Refused x r
    unfolding parsed_submission
    operator_refused r h = refused r (rw (lent_chain x (layout_in x) (tt {0}) (tt {0}) (tt {0}) (tt {0}), s, h) refl)

    module _ (u : ⊤) (o : first_of (operator_checks x.operator) (tt {0}) ≡ Ok u) where
      pub window_refused : (r : Refusal) → first_of (window_checks x.first x.size) (window_span x.first x.size) ≡ Err r → Refused x r
      unfolding parsed_submission
      window_refused r h = refused r (rw (lent_chain x (layout_in x) (tt {0}) (window_span x.first x.size) (tt {0}) (tt {0}), s, o, h) refl)

      module _ (w : Span) (v : first_of (window_checks x.first x.size) (window_span x.first x.size) ≡ Ok w) where
        pub map_refused : (r : Refusal) → parsed_map x.map ≡ Err r → Refused x r
        unfolding parsed_submission parsed_map
        map_refused r h = refused r (rw (lent_chain x (layout_in x) (tt {0}) (window_span x.first x.size) (map_of x.map) (tt {0}), s, o, v, h) refl)

        module _ (m : MemoryMap) (p : parsed_map x.map ≡ Ok m) (i : List ℕ) (is : i ≡ bytes_of x.submission l.image) where
          layout_known : l ≡ layout_in x
          layout_known = (parsed_layout x.submission l s).1

          image_known : i ≡ image_in x
          image_known = rw layout_known at is

          pub image_refused : (r : Refusal) → judged i ≡ Err r → Refused x r
          unfolding parsed_submission parsed_map judged checks decision_of
          image_refused r h =
              let g : first_of (lent_checks x) (kernel_in x) ≡ Err r =
              rw (lent_chain x (layout_in x) (tt {0}) (window_span x.first x.size) (map_of x.map) (kernel_in x), s, o, v, p, ← image_known, h) refl in
              (chain_first (lent_checks x) _ r (kernel_in x) (tt {0}) g, rw (← chain_first (lent_checks x) _ r (kernel_in x) (plan_in x) g) refl)

          pub stages_known : (k : Kernel) → judged i ≡ Ok k → Stages x l w m k
          unfolding parsed_submission parsed_map judged
          stages_known k h =
              let z : first_of (lent_checks x) (kernel_in x) ≡ Ok k =
              rw (lent_chain x (layout_in x) (tt {0}) (window_span x.first x.size) (map_of x.map) (kernel_in x), s, o, v, p, ← image_known, h) refl in
              let q = ok_passed (lent_checks x) k (kernel_in x) z in
              record {
                passed = q.0;
                layout = layout_known;
                window = (ok_passed (window_checks x.first x.size) w (window_span x.first x.size) v).1;
                map = (ok_passed (map_checks x.map) m (map_of x.map) p).1;
                kernel = q.1;
              }

  pub decided_on : passes (lent_checks x) ≡ true → memory_decision (board_in x) (kernel_in x) (layout_in x) (block_length_in x) ≡ decision_of x
  unfolding decision_of checks
  decided_on h = chain_second (lent_checks x) (memory_checks (board_in x) (kernel_in x) (layout_in x) (block_length_in x)) _ _ (plan_in x) (passes_on (lent_checks x) (tt {0}) h)

-- what the last stage is called with
module _ (x : Lent) (b : Board) (k : Kernel) (l : Layout) (n : ℕ) (be : b ≡ board_in x) (ke : k ≡ kernel_in x) (le : l ≡ layout_in x) (ne : n ≡ block_length_in x) where
  pub prepared_is : LentPassed x → Prepared b k l n
  prepared_is p =
      let q = prepared x p in
      record {
        window = rw be q.window;
        segments = rw ke q.segments;
        modules = rw le q.modules;
        bytes = rw le q.bytes;
        block = rw ne q.block;
      }

  pub decision_is : passes (lent_checks x) ≡ true → memory_decision b k l n ≡ decision_of x
  decision_is h = rw (be, ke, le, ne) (decided_on x h)

  -- where the checks before 15 pass, those on memory are left, whatever the value
  memory_left : {A : Type 0} (z : A) → passes (lent_checks x) ≡ true → first_of (memory_checks b k l n) z ≡ first_of (checks x) z
  unfolding checks
  memory_left z h = rw (be, ke, le, ne) (chain_second (lent_checks x) _ _ (tt {0}) z (passes_on (lent_checks x) (tt {0}) h))

  pub memory_value : (r : Result ⊤ Refusal) → passes (lent_checks x) ≡ true → r ≡ first_of (memory_checks b k l n) (tt {0}) → r ≡ first_of (checks x) (tt {0})
  memory_value r h e = e ∙ memory_left (tt {0}) h

  -- the plan that they leave, v, in the place of zeros w
  pub memory_given : (r : Result ⊤ Refusal) (w v : Plan) → passes (lent_checks x) ≡ true → r ≡ first_of (memory_checks b k l n) (tt {0}) → w ≡ no_plan
      → MatchResult r (λ _. v ≡ memory_plan b k l n) (λ _. v ≡ w) → v ≡ plan_given (decision_of x)
  unfolding decision_of
  memory_given (Ok u) w v h e f m =
      let p = (ok_passed (memory_checks b k l n) _ _ (sym e)).0 in
      rw (← memory_left (plan_in x) h, passes_on (memory_checks b k l n) (plan_in x) p) (m ∙ rw (be, ke, le, ne) refl)
  memory_given (Err q) w v h e f m =
      let g : first_of (memory_checks b k l n) (plan_in x) ≡ Err q =
      sym (chain_first (memory_checks b k l n) [] q (tt {0}) (plan_in x) (sym e) ∙ rw append-nil refl) in
      rw (← memory_left (plan_in x) h, g) (m ∙ f)

pub block_length_is : (x : Lent) (l : Layout) (line : List ℕ) (n : ℕ) → l ≡ layout_in x → line ≡ line_in x
    → n ≡ block_length (string_lengths l l.count) (length x.map) (length line)
    → n ≡ block_length_in x
block_length_is x l line n le ze e = rw (le, ze) at e

pub board_is : (x : Lent) (m : MemoryMap) (w : Span) → m ≡ map_of x.map → w ≡ window_span x.first x.size → record { map = m; window = w } ≡ board_in x
board_is x m w me we = rw (me, we)
