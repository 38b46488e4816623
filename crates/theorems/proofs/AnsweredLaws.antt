-- The first promise: each answer exactly on its condition.
--     holds_in                  whether the condition of a refusal holds
--     conditions                what these conditions say
--     answered                  for all that is lent
--     number_load, load_plan    the number 0 is a load, and gives its plan
--     refusal_plan              a refusal gives zeros
--     room_item, header_item    what the items of 16 and 6 are
-- Assumes nothing.
use Rattle.std.specs.Prelude.{◌≡◌, Bool, true, not, ◌&&◌, ◌||◌, List, ◌↔◌, ◌⊎◌, ltb, Option, Some, None, Ok, Err}
use Rattle.std.proofs.Math.Path.{refl, ap}
use Rattle.std.proofs.Common.{sym, subst, ◌∙◌, ⊎_elim, eq-or-lt_of_le}
use Rattle.std.proofs.Math.Bool.{false}
use Rattle.std.proofs.lemmas.Bool.{false≢true}
use Prim.Native.Nat.{ℕ, suc, ◌+◌, ◌-◌, ◌/◌, ◌%◌, ◌^◌, ◌≤◌, ◌<◌}
use native.Mathlib.Omega.{arith}
use borrow.Author.Tests.{eq-eqb, ne_eqb, ltb-false, le-ltb, ltb-true, not-false}
use Rattle.std.proofs.Math.Dec.{eqb}
use Rattle.std.proofs.Math.ListN.{length}
use Rattle.laws.specs.Checks.{only_if, passes}
use Rattle.laws.specs.Tests.{any}
use Rattle.laws.proofs.CheckLaws.{passes_on, err_failed, not_to_true, not_to_false}
use Rattle.laws.proofs.TestLaws.{or_none_left, or_none_right, eqb_is, ltb_is, not_is, false_is, or_is, and_is}
use Rattle.number.specs.Number.{number_at}
use Rattle.address.specs.Address.{top}
use Rattle.answer.specs.Answer.{number_of, item_of}
use Rattle.answer.specs.AnswerLaws.{item_none}
use Rattle.answer.specs.Chain.{check_order, place_in, Before}
use Rattle.answer.specs.ChainLaws.{numbers, distinct, applies_for, applies_other, answer_for, first_answer, answer_number, number_first, none_given, none_applies, number_load as chain_load}
use Rattle.submission.specs.Scan.{has_zero}
use Rattle.submission.specs.ScanLaws.{no_zero, zero_free}
use Rattle.submission.specs.Layout.{layout_of}
use Rattle.submission.specs.Rules.{max_line, is_submission, rules_hold, submission_checks}
use Rattle.submission.specs.GoodSubmission.{NoZero, GoodSubmission}
use Rattle.submission.specs.RuleLaws.{marked_is, submission_good_is}
use Rattle.submission.specs.Format.{module_count}
use Rattle.command_line.specs.CommandLine.{operator_checks}
use Rattle.address.specs.declared.ImageOffset.{ImageOffset}
use Rattle.header.specs.Header.{header}
use Rattle.header.specs.HeaderAt.{HeaderAt}
use Rattle.header.specs.FalseHeader.{false_headers}
use Rattle.header.proofs.HeaderLaws.{header_none, none_header, lowest_header}
use Rattle.elf.specs.Elf.{is_elf, elf_header}
use Rattle.elf.specs.Segments.{elf_kernel}
use Rattle.elf.specs.Checks.{well_formed, bad_no, elf_checks}
use Rattle.elf.specs.ElfLaws.{elf_good_is, headers_good_is, segments_apart_is}
use Rattle.kernel.specs.declared.Kernel.{Kernel}
use Rattle.kernel.specs.Checks.{entry_checks, extents_overlap}
use Rattle.image.specs.Load.{flags_at, fields_at, load_offset, load_length, load_end, full_header}
use Rattle.image.specs.Judged.{no_header, offset_of, unknown_request, undefined_bits, no_addresses, unknown_kind, cut_off, before_image, past_image, bss_below, header_offset, header_flags, found_header, is_addressed, header_checks, load_checks, field_checks, kind_checks, image_checks}
use Rattle.image.specs.JudgedLaws.{fields_entry_is, elf_entry_is}
use Rattle.memory_map.specs.Map.{bad_map, map_checks}
use Rattle.memory_map.specs.PairsLaws.{map_good_is}
use Rattle.board.specs.Window.{window_checks}
use Rattle.decision.specs.Lent.{Lent}
use Rattle.decision.specs.Read.{image_in}
use Rattle.decision.specs.Decided.{kernel_checks, room_checks}
use Rattle.decision.specs.Plan.{Decision, no_plan, plan_given}
use Rattle.decision.specs.Decision.{lent_checks, checks, decision_of, plan_in, placed_in}
use Rattle.loader.specs.Memory.{memory_after}
use Rattle.theorems.specs.Promises.{OfLoad, OfFields, OfElf, OfHeader, bit16, Conditions, Answered}

-- the condition of a refusal is that its check applies
abbrev pub holds_in : Lent → ℕ → Bool
holds_in x k = applies_for (checks x) k

-- the checks on address fields and their load, by the tests of the definitions
module _ (image : List ℕ) (o : ℕ) (c : ℕ → Bool) where
  of_load : (offset len n : ℕ)
      → c 12 ≡ past_image (fields_at image o) offset len n
      → c 13 ≡ bss_below (fields_at image o) (load_end (fields_at image o) len)
      → (c 14 ≡ true) ↔ (((fields_at image o).entry_addr.0 < (fields_at image o).load_addr.0) ⊎ (load_end (fields_at image o) len ≤ (fields_at image o).entry_addr.0))
      → OfLoad (fields_at image o) offset len n c
  of_load offset len n e12 e13 e14 =
      let h = fields_at image o in
      let end = h.load_end_addr.0 in
      let bss = h.bss_end_addr.0 in
      record {
        c12 = rw e12 (or_is (not (eqb end 0) && ltb end h.load_addr.0) (ltb n (offset + len)) (and_is (not (eqb end 0)) (ltb end h.load_addr.0) (not_is (eqb end 0) (eqb_is end 0)) (ltb_is end h.load_addr.0)) (ltb_is n (offset + len)));
        c13 = rw e13 (and_is (not (eqb bss 0)) (ltb bss (h.load_addr.0 + len)) (not_is (eqb bss 0) (eqb_is bss 0)) (ltb_is bss (h.load_addr.0 + len)));
        c14 = e14;
      }

  of_fields :
      c 9 ≡ cut_off o (length image) → c 10 ≡ before_image (fields_at image o) o
      → OfLoad (fields_at image o) (load_offset (fields_at image o) o) (load_length (fields_at image o) (load_offset (fields_at image o) o) (length image)) (length image) c
      → ((k : ℕ) → 18 ≤ k → k ≤ 20 → c k ≡ false)
      → OfFields image o c
  unfolding fields_at
  of_fields e9 e10 load none =
      let a = number_at 4 image (o + 12) in
      let b = number_at 4 image (o + 16) in
      record {
        c9 = rw e9 (or_is (ltb 8192 (o + full_header)) (ltb (length image) (o + full_header)) (ltb_is 8192 (o + full_header)) (ltb_is (length image) (o + full_header)));
        c10 = rw e10 (or_is (ltb a b) (ltb o (a - b)) (ltb_is a b) (ltb_is o (a - b)));
        load = load;
        no_elf = none;
      }

-- what holds of a and of the numbers behind it up to b holds of those from a on
from_on : (P : ℕ → Type 0) (a b : ℕ) → P a → ((k : ℕ) → suc a ≤ k → k ≤ b → P k) → (k : ℕ) → a ≤ k → k ≤ b → P k
from_on P a b p h k l m = ⊎_elim (λ (e : a ≡ k). subst P e p) (λ (u : a < k). h k u m) (eq-or-lt_of_le l)

-- a search that found nothing
of_search : (s : List ℕ) (r : Option ImageOffset) → header s ≡ r → (no_header (header s) ≡ true) ↔ ((o : ℕ) → HeaderAt s o → ⊥)
of_search s None e = (λ t. header_none s e, λ n. rw e refl)
of_search s (Some o) e = (λ t. absurd (false≢true (rw e at t)), λ n. rw (none_header s n) refl)

found_nothing : (r : Option ImageOffset) → no_header r ≡ true → r ≡ None
found_nothing None t = refl
found_nothing (Some o) t = absurd (false≢true t)

operator_is : (line : List ℕ) → ((ltb max_line (length line) || has_zero line) ≡ false) ↔ ((length line ≤ max_line) × NoZero line)
operator_is line =
    let p = ltb max_line (length line) in (
      λ e. (ltb-false max_line (length line) (or_none_left p (has_zero line) e), no_zero line (or_none_right p (has_zero line) e)),
      λ h. rw (le-ltb max_line (length line) h.0, zero_free line h.1) refl,
    )

-- a refusal's plan is zeros
zeros_given : (d : Decision) → (number_of d ≡ 0 → ⊥) → plan_given d ≡ no_plan
zeros_given (Ok q) h = absurd (h refl)
zeros_given (Err r) h = refl

module _ (x : Lent) where
  -- the offset of the lowest header is the one that the checks read
  header_known : (o : ℕ) → HeaderAt (image_in x) o → ((p : ℕ) → p < o → HeaderAt (image_in x) p → ⊥) → header_offset (image_in x) ≡ o
  header_known o h low = ap offset_of (lowest_header (image_in x) o h low)

  -- a check that is made only where t holds
  made : (t u : Bool) → t ≡ true → (t && u) ≡ u
  made t u e = rw e

  -- where flag bit 16 is set the address fields decide
  module _ (a : is_addressed (image_in x) ≡ true) where
    at_fields : (o : ℕ) → header_offset (image_in x) ≡ o → OfFields (image_in x) o (holds_in x)
    unfolding applies_for only_if checks lent_checks submission_checks operator_checks window_checks map_checks header_checks load_checks field_checks kind_checks entry_checks elf_checks image_checks
    at_fields o e =
        let image = image_in x in
        let n = length image in
        let offset = load_offset (fields_at image o) o in
        let P : ℕ → Type 0 = λ k. holds_in x k ≡ false in
        of_fields image o (holds_in x)
        (made _ _ a ∙ ap (λ (i : ℕ). cut_off i n) e)
        (made _ _ a ∙ ap (λ (i : ℕ). before_image (fields_at image i) i) e)
        (of_load image o (holds_in x) offset (load_length (fields_at image o) offset n) n
        (made _ _ a ∙ ap (λ (i : ℕ). past_image (fields_at image i) (load_offset (fields_at image i) i) (load_length (fields_at image i) (load_offset (fields_at image i) i) n) n) e)
        (made _ _ a ∙ ap (λ (i : ℕ). bss_below (fields_at image i) (load_end (fields_at image i) (load_length (fields_at image i) (load_offset (fields_at image i) i) n))) e)
        (subst (λ (i : ℕ). (holds_in x 14 ≡ true) ↔ (((fields_at image i).entry_addr.0 < (fields_at image i).load_addr.0) ⊎ (load_end (fields_at image i) (load_length (fields_at image i) (load_offset (fields_at image i) i) n) ≤ (fields_at image i).entry_addr.0))) e (fields_entry_is image a)))
        (from_on P 18 20 (rw a) (from_on P 19 20 (rw a) (from_on P 20 20 (rw a) (λ k l m. absurd (omega arith)))))

  -- where it is clear the table of an ELF image does
  module _ (a : is_addressed (image_in x) ≡ false) where
    abbrev elf_in : Kernel
    elf_in = elf_kernel (image_in x) (found_header (image_in x))

    at_elf : OfElf (image_in x) (holds_in x)
    unfolding applies_for only_if checks lent_checks submission_checks operator_checks window_checks map_checks header_checks load_checks field_checks kind_checks entry_checks elf_checks image_checks kernel_checks room_checks
    at_elf =
        let image = image_in x in
        let found = found_header image in
        let none = not_to_true (is_addressed image) a in
        let P : ℕ → Type 0 = λ k. holds_in x k ≡ false in
        record {
          c18 = rw none (false_is (not (well_formed (elf_header image) (length image)) || eqb elf_in.count 0) (elf_good_is image found));
          c19 = rw none (false_is (any (bad_no image) (elf_header image).e_phnum) (headers_good_is image));
          c20 = rw none (false_is (extents_overlap elf_in) (segments_apart_is image found));
          c14 = elf_entry_is image a;
          no_fields = from_on P 9 13 (rw a) (from_on P 10 13 (rw a) (from_on P 11 13 refl (from_on P 12 13 (rw a) (from_on P 13 13 (rw a) (λ k l m. absurd (omega arith))))));
        }

  at_header : (o : ℕ) → header_offset (image_in x) ≡ o → OfHeader (image_in x) o (holds_in x)
  unfolding applies_for only_if checks lent_checks submission_checks operator_checks window_checks map_checks header_checks load_checks field_checks kind_checks entry_checks elf_checks image_checks unknown_kind
  at_header o e =
      let image = image_in x in
      let f = flags_at image o in
      let e7 = ap (λ (i : ℕ). unknown_request (flags_at image i)) e in
      let e25 = ap (λ (i : ℕ). undefined_bits (flags_at image i)) e in
      let e8 = ap (λ (i : ℕ). unknown_kind image (flags_at image i)) e in
      let bit : header_flags image / 2 ^ 16 % 2 ≡ bit16 image o = ap (λ (i : ℕ). flags_at image i / 2 ^ 16 % 2) e in
      record {
        c7 = rw e7 (not_is (eqb (f / 2 ^ 2 % 2 ^ 14) 0) (eqb_is (f / 2 ^ 2 % 2 ^ 14) 0));
        c25 = rw e25 (not_is (eqb (f / 2 ^ 17 % 2 ^ 15) 0) (eqb_is (f / 2 ^ 17 % 2 ^ 15) 0));
        c8 = rw e8 (and_is (no_addresses f) (not (is_elf image)) (eqb_is (f / 2 ^ 16 % 2) 0) (not_is (is_elf image) (eqb_is (number_at 4 image 0) 0x464C457F)));
        fields = λ b. at_fields (not_to_true (no_addresses (header_flags image)) (ne_eqb _ 0 (λ (z : header_flags image / 2 ^ 16 % 2 ≡ 0). omega arith))) o e;
        elf = λ b. at_elf (not_to_false (no_addresses (header_flags image)) (eq-eqb _ 0 (bit ∙ b)));
      }

  pub conditions : Conditions x (holds_in x)
  unfolding applies_for only_if checks lent_checks submission_checks operator_checks window_checks map_checks header_checks load_checks field_checks kind_checks entry_checks elf_checks image_checks layout_of
  conditions =
      record {
        c1 = not_is (is_submission x.submission) (marked_is x.submission);
        c2 = not_is (rules_hold x.submission) (submission_good_is x.submission);
        c3 = false_is (ltb max_line (length x.operator) || has_zero x.operator) (operator_is x.operator);
        c4 = ltb_is top (x.first + x.size);
        c5 = false_is (bad_map x.map) (map_good_is x.map);
        c6 = of_search (image_in x) (header (image_in x)) refl;
        header = λ o h low. at_header o (header_known o h low);
      }

  -- the numbers of the checks are those of the order, each once
  pub numbers_are : numbers (checks x) ≡ check_order
  unfolding numbers only_if checks lent_checks submission_checks operator_checks window_checks map_checks header_checks load_checks field_checks kind_checks entry_checks elf_checks image_checks kernel_checks room_checks
  numbers_are = refl

  numbered : distinct (numbers (checks x)) ≡ true
  unfolding distinct place_in
  numbered = rw numbers_are refl

  checks_many : length (checks x) ≡ length check_order
  unfolding only_if checks lent_checks submission_checks operator_checks window_checks map_checks header_checks load_checks field_checks kind_checks entry_checks elf_checks image_checks kernel_checks room_checks
  checks_many = refl

  pub number_load : number_of (decision_of x) ≡ 0 → passes (checks x) ≡ true
  unfolding decision_of
  number_load = chain_load (checks x) (plan_in x)

  -- a load gives its plan
  pub load_plan : number_of (decision_of x) ≡ 0 → plan_given (decision_of x) ≡ plan_in x
  unfolding decision_of
  load_plan e = ap plan_given (passes_on (checks x) (plan_in x) (number_load e))

  pub refusal_plan : (number_of (decision_of x) ≡ 0 → ⊥) → plan_given (decision_of x) ≡ no_plan
  refusal_plan = zeros_given (decision_of x)

  refusal_window : (w : List ℕ) (d : Decision) → decision_of x ≡ d → (number_of d ≡ 0 → ⊥) → memory_after x w ≡ w
  unfolding memory_after decision_of
  refusal_window w (Ok q) e h = absurd (h refl)
  refusal_window w (Err r) e h = let l : passes (checks x) ≡ false = err_failed (checks x) r (plan_in x) e in rw l refl

  -- a number is given exactly where its check is the first that applies
  refusal_is : (k : ℕ) → 1 ≤ k → (number_of (decision_of x) ≡ k) ↔ ((holds_in x k ≡ true) × ((j : ℕ) → Before j k → holds_in x j ≡ false))
  unfolding decision_of
  refusal_is k l = (
    λ h. rw (← numbers_are) (number_first (checks x) (plan_in x) k numbered l h),
    λ h. ap number_of (first_answer (checks x) (plan_in x) k numbered h.0 (rw numbers_are h.1)) ∙ answer_number (checks x) (plan_in x) k h.0,
  )

  none_is : (number_of (decision_of x) ≡ 0) ↔ ((k : ℕ) → holds_in x k ≡ false)
  unfolding decision_of
  none_is = (none_applies (checks x) (plan_in x), none_given (checks x) (plan_in x) numbered)

  -- 16 has the index of a module for its item
  pub room_item : number_of (decision_of x) ≡ 16 → (item_of (decision_of x) ≡ (placed_in x).done) × ((placed_in x).done < module_count x.submission) × GoodSubmission x.submission
  unfolding place_in answer_for applies_for only_if decision_of checks lent_checks submission_checks operator_checks window_checks map_checks header_checks load_checks field_checks kind_checks entry_checks elf_checks image_checks kernel_checks room_checks layout_of
  room_item e =
      let f = number_first (checks x) (plan_in x) 16 numbered (omega arith) e in
      let early : Before 2 16 = omega arith in (
        ap item_of (first_answer (checks x) (plan_in x) 16 numbered f.0 f.1),
        ltb-true _ _ f.0,
        (submission_good_is x.submission).0 (not-false _ (f.1 2 (rw numbers_are early))),
      )

  -- 6 has the count of false headers for its item, and no header was found
  pub header_item : number_of (decision_of x) ≡ 6 → (item_of (decision_of x) ≡ false_headers (image_in x)) × (header (image_in x) ≡ None)
  unfolding place_in answer_for applies_for only_if decision_of checks lent_checks submission_checks operator_checks window_checks map_checks header_checks load_checks field_checks kind_checks entry_checks elf_checks image_checks kernel_checks room_checks layout_of
  header_item e =
      let f = number_first (checks x) (plan_in x) 6 numbered (omega arith) e in
      (ap item_of (first_answer (checks x) (plan_in x) 6 numbered f.0 f.1), found_nothing (header (image_in x)) f.0)

  -- a number that is not in the order of checks has no condition
  other_none : (k : ℕ) → length check_order ≤ place_in check_order k → holds_in x k ≡ false
  other_none k l = applies_other (checks x) k (rw numbers_are (omega (arith, checks_many)))

  -- and is not given
  not_given : {k : ℕ} → number_of (decision_of x) ≡ k → 1 ≤ k → length check_order ≤ place_in check_order k → ⊥
  not_given {k} e l m = false≢true (sym (other_none k m) ∙ ((refusal_is k l).0 e).0)

  pub answered : (w : List ℕ) → Answered (decision_of x) w (memory_after x w) (holds_in x)
  unfolding place_in
  answered w =
      record {
        refusal = refusal_is;
        load = none_is;
        other = other_none;
        no_eleven = λ e. not_given e (omega arith) (omega arith);
        item = item_none (decision_of x);
        plan = refusal_plan;
        window = refusal_window w (decision_of x) refl;
      }
