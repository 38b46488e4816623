-- What an accepted submission keeps.
--     GoodSubmission, good_submission, submission-good         every rule of a submission, as facts: it is good_submission exactly where they hold
--     image_inside, line_inside, data_inside, string_inside    its parts lie inside it
--     line_no_zero, string_no_zero                             no zero byte in its command line and strings
--     image_bound, data_bound                                  lengths of 32 bits
--     parsed_good, parsed_layout, parsed_none, parsed_failed,
--     parsed_modules                                           what a parse gives
-- Assumes nothing.
use Rattle.std.specs.Prelude.{Result, Ok, Err, is_ok, ◌≡◌, Bool, false, ◌&&◌, ◌||◌, ◌⊎◌, ◌↔◌, List, ℕ, ◌+◌, ◌^◌, ◌≤◌, ◌<◌, length, take, drop, get_or}
use Rattle.std.proofs.Math.Path.{refl}
use Rattle.std.proofs.Common.{sym, ◌∙◌, inl, inr, eq-or-lt_of_le}
use Rattle.std.proofs.Math.Bool.{true, not}
use Rattle.std.proofs.lemmas.Bool.{false≢true}
use Rattle.std.proofs.Math.Logic.{⊎_elim}
use native.Mathlib.Omega.{arith}
use borrow.Author.Tests.{leb-true, le-leb, eqb-true, eq-eqb, not-true, not-false}
use Rattle.std.proofs.Math.Dec.{leb, eqb}
use Rattle.laws.specs.Tests.{all_from}
use Rattle.laws.proofs.TestLaws.{true_or_false, and_left, and_right, all_intro, all_elim}
use Rattle.laws.specs.Checks.{first_of, passes}
use Rattle.laws.proofs.CheckLaws.{passes_on, ok_is, ok_passed, err_failed}
use Rattle.std.specs.Result.{result_unwrap_or}
use Rattle.number.specs.NumberLaws.{Bytes, bytes_drop, number_bound}
use Rattle.answer.specs.declared.Refusal.{Refusal}
use Rattle.submission.specs.Scan.{has_zero, same_bytes}
use Rattle.submission.specs.ScanLaws.{no_zero, same_is, zero_free}
use Rattle.submission.specs.Format.{mark, version, module_count, image_length, line_length, prefix_size, entry_offset, data_length, string_length, ceiling, image_start, line_start, data_start, string_start, parts_end, line_bytes, string_bytes, max_modules}
use Rattle.submission.specs.Layout.{line_part, module_of, layout_of, bytes_of}
use Rattle.submission.specs.Parse.{no_layout, parsed_submission}
use Rattle.submission.specs.FormatLaws.{data_behind_line, data_behind_string, data_order, length-bytes_of, bytes_of_at, layout_count}
use Rattle.submission.specs.Rules.{max_line, max_string, is_submission, in_limits, entry_holds, string_holds, rules_hold, submission_checks}
use Rattle.submission.specs.declared.Part.{Part}
use Rattle.submission.specs.declared.Layout.{Layout}
use Rattle.submission.specs.GoodSubmission.{GoodSubmission, NoZero, Marked}

-- no zero byte in a part
part_no_zero : (s : List ℕ) (p : Part) → p.at + p.len ≤ length s → NoZero (bytes_of s p) → (i : ℕ) → i < p.len → get_or s (p.at + i) 0 ≡ 0 → ⊥
part_no_zero s p h z i l e =
    let k : i < length (bytes_of s p) = rw (length-bytes_of s p h) l in
    z i k (bytes_of_at s p i l ∙ e)

six : (a b c d e f : Bool) → a && b && c && d && e && f ≡ true → (a ≡ true) × (b ≡ true) × (c ≡ true) × (d ≡ true) × (e ≡ true) × (f ≡ true)
six true true true true true true h = (refl, refl, refl, refl, refl, refl)
six true true true true true false h = absurd (false≢true h)
six true true true true false f h = absurd (false≢true h)
six true true true false e f h = absurd (false≢true h)
six true true false d e f h = absurd (false≢true h)
six true false c d e f h = absurd (false≢true h)
six false b c d e f h = absurd (false≢true h)

-- a refusal gives no layout
given_none : (r : Result Layout Refusal) → is_ok r ≡ false → result_unwrap_or r no_layout ≡ no_layout
given_none (Ok l) h = absurd (false≢true (sym h))
given_none (Err e) h = refl

-- version 1 or 2
one_or_two : (v : ℕ) → 1 ≤ v → v ≤ 2 → (v ≡ 1) ⊎ (v ≡ 2)
one_or_two v l u = ⊎_elim (λ (e : v ≡ 2). inr e) (λ (m : v < 2). inl (omega arith)) (eq-or-lt_of_le u)

-- in version 1 zero for a ceiling c
no_ceiling_is : (v c : ℕ) → (not (eqb v 1) || eqb c 0 ≡ true) ↔ (v ≡ 1 → c ≡ 0)
no_ceiling_is v c = (
  λ h e. eqb-true c 0 (rw (eq-eqb v 1 e) at h),
  λ h. ⊎_elim (λ (t : eqb v 1 ≡ true). rw (t, eq-eqb c 0 (h (eqb-true v 1 t))) refl) (λ (t : eqb v 1 ≡ false). rw t refl) (true_or_false (eqb v 1)),
)

module _ (s : List ℕ) where
  header_facts : is_submission s ≡ true → (prefix_size ≤ length s) × (take 3 s ≡ mark) × ((version s ≡ 1) ⊎ (version s ≡ 2))
  unfolding is_submission
  header_facts h =
      let a = leb prefix_size (length s) in
      let b = same_bytes (take 3 s) mark in
      let c = leb 1 (version s) in
      let d = leb (version s) 2 in
      let abc = and_left (a && b && c) d h in
      let ab = and_left (a && b) c abc in (
        leb-true prefix_size (length s) (and_left a b ab),
        (same_is (take 3 s) mark).0 (and_right a b ab),
        one_or_two (version s) (leb-true _ _ (and_right (a && b) c abc)) (leb-true _ _ (and_right (a && b && c) d h)),
      )

  is_submission_lem : passes (submission_checks s) ≡ true → is_submission s ≡ true
  unfolding passes submission_checks
  is_submission_lem h = not-false _ (not-true _ (and_left (not (not (is_submission s))) (not (not (rules_hold s)) && true) h))

  holds_rules : passes (submission_checks s) ≡ true → rules_hold s ≡ true
  unfolding passes submission_checks
  holds_rules h = not-false _ (not-true _ (and_left (not (not (rules_hold s))) true (and_right (not (not (is_submission s))) (not (not (rules_hold s)) && true) h)))

  -- what a parse gives
  pub parsed_good : passes (submission_checks s) ≡ true → parsed_submission s ≡ Ok (layout_of s)
  unfolding parsed_submission
  parsed_good h = passes_on (submission_checks s) (layout_of s) h

  pub parsed_layout : (l : Layout) → parsed_submission s ≡ Ok l → (passes (submission_checks s) ≡ true) × (l ≡ layout_of s)
  unfolding parsed_submission
  parsed_layout l h = ok_passed (submission_checks s) l (layout_of s) h

  pub parsed_failed : (r : Refusal) → parsed_submission s ≡ Err r → passes (submission_checks s) ≡ false
  unfolding parsed_submission
  parsed_failed r h = err_failed (submission_checks s) r (layout_of s) h

  pub parsed_none : passes (submission_checks s) ≡ false → result_unwrap_or (parsed_submission s) no_layout ≡ no_layout
  unfolding parsed_submission
  parsed_none h = given_none (parsed_submission s) (ok_is (submission_checks s) (layout_of s) ∙ h)

  -- the rules, one by one
  rules_apart : rules_hold s ≡ true
      → (leb (module_count s) max_modules ≡ true)
      × (leb (line_length s) max_line ≡ true)
      × (all_from (entry_holds s) 0 (module_count s) ≡ true)
      × (eqb (parts_end s) (length s) ≡ true)
      × (not (has_zero (bytes_of s (line_part s))) ≡ true)
      × (all_from (string_holds s) 0 (module_count s) ≡ true)
  unfolding rules_hold
  rules_apart h = six _ _ _ _ _ _ h

  entry_facts : all_from (entry_holds s) 0 (module_count s) ≡ true → (i : ℕ) → i < module_count s → (1 ≤ data_length s i) × (string_length s i ≤ max_string) × (version s ≡ 1 → ceiling s i ≡ 0)
  unfolding in_limits
  entry_facts h i l =
      let a = leb 1 (data_length s i) in
      let b = leb (string_length s i) max_string in
      let c = not (eqb (version s) 1) || eqb (ceiling s i) 0 in
      let abc = all_elim (entry_holds s) 0 (module_count s) h i (omega arith) (omega arith) in
      let ab = and_left (a && b) c abc in
      (leb-true _ _ (and_left a b ab), leb-true _ _ (and_right a b ab), (no_ceiling_is (version s) (ceiling s i)).0 (and_right (a && b) c abc))

  string_facts : all_from (string_holds s) 0 (module_count s) ≡ true → (i : ℕ) → i < module_count s → has_zero (bytes_of s (module_of s i).string) ≡ false
  unfolding string_holds
  string_facts h i l = not-true _ (all_elim (string_holds s) 0 (module_count s) h i (omega arith) (omega arith))

  -- the rules behind 1
  pub marked_is : (is_submission s ≡ true) ↔ Marked s
  unfolding is_submission
  marked_is = (
    λ h. let f = header_facts h in record { long = f.0; mark = f.1; version = f.2 },
    λ m.
        let v : (1 ≤ version s) × (version s ≤ 2) = ⊎_elim (λ (e : version s ≡ 1). (omega arith, omega arith)) (λ (e : version s ≡ 2). (omega arith, omega arith)) m.version in
        rw (le-leb prefix_size (length s) m.long, (same_is (take 3 s) mark).1 m.mark, le-leb 1 (version s) v.0, le-leb (version s) 2 v.1) refl,
  )

  -- and those behind 2
  rules_good : rules_hold s ≡ true → GoodSubmission s
  rules_good h =
      let r = rules_apart h in
      record {
        count = leb-true _ _ r.0;
        line = leb-true _ _ r.1;
        bytes = λ i l. (entry_facts r.2 i l).0;
        string = λ i l. (entry_facts r.2 i l).1;
        zeros = λ e i l. (entry_facts r.2 i l).2 e;
        end = eqb-true _ _ r.3;
        line_text = no_zero (line_bytes s) (not-true _ r.4);
        string_text = λ i l. no_zero (string_bytes s i) (string_facts r.5 i l);
      }

  good_rules : GoodSubmission s → rules_hold s ≡ true
  unfolding rules_hold in_limits string_holds
  good_rules a =
      let entry : (i : ℕ) → i < module_count s → entry_holds s i ≡ true = λ i m. rw (le-leb 1 (data_length s i) (a.bytes i m), le-leb (string_length s i) max_string (a.string i m), (no_ceiling_is (version s) (ceiling s i)).1 (λ e. a.zeros e i m)) refl in
      let text : (i : ℕ) → i < module_count s → string_holds s i ≡ true = λ i m. rw (zero_free (string_bytes s i) (a.string_text i m)) refl in
      rw (
        le-leb (module_count s) max_modules a.count,
        le-leb (line_length s) max_line a.line,
        all_intro (entry_holds s) 0 (module_count s) (λ i l m. entry i (omega arith)),
        eq-eqb (parts_end s) (length s) a.end,
        zero_free (line_bytes s) a.line_text,
        all_intro (string_holds s) 0 (module_count s) (λ i l m. text i (omega arith)),
      )
      refl

  pub submission_good_is : (rules_hold s ≡ true) ↔ GoodSubmission s
  submission_good_is = (rules_good, good_rules)

  -- an accepted submission keeps them
  pub good_submission : passes (submission_checks s) ≡ true → GoodSubmission s
  good_submission h = rules_good (holds_rules h)

pub parsed_modules : (s : List ℕ) → (result_unwrap_or (parsed_submission s) no_layout).count ≤ max_modules
unfolding no_layout
parsed_modules s =
    ⊎_elim
    (λ (h : passes (submission_checks s) ≡ true). rw (parsed_good s h, layout_count s) (good_submission s h).count)
    (λ (h : passes (submission_checks s) ≡ false). rw (parsed_none s h) (omega arith))
    (true_or_false (passes (submission_checks s)))

module _ (s : List ℕ) (h : GoodSubmission s) where
  pub image_inside : image_start s + image_length s ≤ length s
  image_inside = omega (arith, h.end, data_order s 0 (module_count s) (omega arith), data_behind_line s)

  pub line_inside : line_start s + line_length s ≤ length s
  line_inside = omega (arith, h.end, data_order s 0 (module_count s) (omega arith), data_behind_line s)

  pub string_inside : (i : ℕ) → i < module_count s → string_start s i + string_length s i ≤ length s
  string_inside i l = omega (arith, h.end, data_order s (i + 1) (module_count s) (omega arith), data_behind_string s i)

  pub data_inside : (i : ℕ) → i < module_count s → data_start s i + data_length s i ≤ length s
  data_inside i l = omega (arith, string_inside i l)

  pub line_no_zero : (i : ℕ) → i < line_length s → get_or s (line_start s + i) 0 ≡ 0 → ⊥
  line_no_zero i l e = part_no_zero s (line_part s) line_inside h.line_text i l e

  pub string_no_zero : (i : ℕ) → i < module_count s → (j : ℕ) → j < string_length s i → get_or s (string_start s i + j) 0 ≡ 0 → ⊥
  string_no_zero i l j k e = part_no_zero s (module_of s i).string (string_inside i l) (h.string_text i l) j k e

-- lengths of 32 bits, for a list of bytes
module _ (s : List ℕ) (b : Bytes s) where
  pub image_bound : image_length s < 2 ^ 32
  image_bound = number_bound 4 (drop 6 s) (bytes_drop 6 s b)

  pub data_bound : (i : ℕ) → data_length s i < 2 ^ 32
  data_bound i = number_bound 4 (drop (entry_offset i) s) (bytes_drop (entry_offset i) s b)
