-- A load on the board, reported, and what is printed.
--     map_is                          the map's bytes are the board's
--     reviewed                        the report on the plan of a load on the board is the review
--     printed_over, printed_within    what is printed begins with the message where too much was read, else with the review
-- Assumes nothing.
use mathlib.Core.Path.{◌≡◌, refl, ◌∙◌}
use mathlib.Core.List.{List, [], ◌∷◌}
use Prim.Native.Nat.{ℕ, ◌≤◌, ◌<◌}
use native.Mathlib.Omega.{arith}
use borrow.Author.Tests.{lt-ltb, le-ltb}
use lib.ListN.{length, take, length-take}
use lib.Seq.{take_all}
use Rattle.buffer.specs.Patched.{patched, zeros}
use Rattle.buffer.specs.PatchedLaws.{part_inside}
use Rattle.number.specs.Number.{number_bytes, word_bytes}
use Rattle.decision.specs.Decision.{decision_of}
use Rattle.viertompu.specs.Words.{plan_words}
use Rattle.report.specs.Text.{Wrote}
use Rattle.report.specs.Report.{report_of}
use Rattle.review.specs.Review.{pair_bytes, board_map, first_address, window_length, review_of, max_input, over_message, printed_for}

pub map_is : (m : List ℕ) → m ≡ patched (zeros 48) 0 (word_bytes (20 ∷ 0 ∷ 0 ∷ 0x9FC00 ∷ 0 ∷ 1 ∷ 20 ∷ 0x100000 ∷ 0 ∷ 0x700000 ∷ 0 ∷ 1 ∷ [])) → m ≡ board_map
unfolding patched board_map pair_bytes word_bytes number_bytes
map_is m e = e

pub reviewed : (s m : List ℕ) (n : ℕ) (plan w v : List ℕ) (r : ℕ) → m ≡ board_map → n ≡ window_length
    → plan ≡ plan_words (decision_of (record { submission = s; operator = []; map = m; first = first_address; size = n }))
    → Wrote w 0 (report_of plan) v r → Wrote w 0 (review_of s) v r
unfolding review_of
reviewed s m n plan w v r e f g h = rw (← e, ← f, ← g) h

-- a text written from the first byte on, with room for it, is what the buffer begins with
begins : (w t v : List ℕ) (r : ℕ) → Wrote w 0 t v r → r ≤ length w → take r v ≡ t
begins w t v r h n =
    let l : r ≡ length t = omega (arith, h.ends) in
    rw (h.holds, l) (part_inside (length t) 0 w 0 t (omega arith) (omega arith) ∙ take_all (length t) t (omega arith))

module _ (s : List ℕ) (n : ℕ) (w v : List ℕ) (r : ℕ) where
  pub printed_over : max_input < length s → max_input < n → Wrote w 0 over_message v r → r ≤ length w → take r v ≡ printed_for (take n s)
  unfolding printed_for
  printed_over g h t l =
      let e : max_input < length (take n s) = simp length-take (omega arith) in
      begins w over_message v r t l ∙ rw (lt-ltb max_input (length (take n s)) e) refl

  pub printed_within : n ≤ max_input → Wrote w 0 (review_of (take n s)) v r → r ≤ length w → take r v ≡ printed_for (take n s)
  unfolding printed_for
  printed_within h t l =
      let e : length (take n s) ≤ max_input = simp length-take (omega arith) in
      begins w (review_of (take n s)) v r t l ∙ rw (le-ltb max_input (length (take n s)) e) refl
