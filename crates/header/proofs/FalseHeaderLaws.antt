-- How many false headers the search passes over, in propositions.
--     false_here, no_magic, no_room    the test at an offset
--     false_below, false_anywhere      so many numbers k have a false header at 4k: below the header found, or in the searched part
--     false_most                       at most 2,046
--     header_same, searched_part, searched_cut
--                                      what stands behind the searched part has no share in the answer
-- Assumes nothing.
use Rattle.std.specs.Prelude.{◌≡◌, ℕ, ◌+◌, ◌*◌, ◌/◌, ◌%◌, ◌<◌, ◌≤◌, min, Bool, true, false, not, ◌&&◌, ◌↔◌, List, length, take, ◌==◌, Option, Some, None}
use Rattle.std.proofs.Math.Path.{ap, sym}
use Rattle.std.proofs.Common.{◌∙◌, arith, take_all}
use Rattle.std.proofs.Math.Logic.{⊎_elim}
use borrow.Author.Tests.{le-leb}
use Rattle.std.proofs.Math.ListN.{length-take}
use Rattle.laws.proofs.PassingLaws.{passing_most, passing_past, passing_same}
use Rattle.laws.specs.HowMany.{HowMany}
use Rattle.laws.proofs.HowManyLaws.{passing_how_many}
use Rattle.laws.proofs.TestLaws.{lt_or_le, eqb_is, not_is, and_is}
use Rattle.laws.proofs.CheckLaws.{and_both, and_fails_left, and_fails_right, not_to_true}
use Rattle.number.specs.Number.{number_at}
use Rattle.address.specs.declared.ImageOffset.{ImageOffset}
use Rattle.header.specs.Header.{header_magic, search_limit, short_header, has_room, sum_is_zero, words, header_from, header}
use Rattle.header.specs.FalseHeader.{is_false_header, is_false_header_at, is_false_place, places_passed, false_headers, searched}
use Rattle.header.specs.HeaderAt.{FalseHeaderAt}
use Rattle.header.proofs.RoomLaws.{room_is, past_end, past_limit}
use Rattle.header.proofs.HeaderLaws.{word_take}

-- the test at an offset
module _ (image : List ℕ) (o : ℕ) where
  abbrev room : Bool
  room = has_room image o

  abbrev marked : Bool
  marked = number_at 4 image o == header_magic

  abbrev zero : Bool
  zero = sum_is_zero (number_at 4 image o) (number_at 4 image (o + 4)) (number_at 4 image (o + 8))

  -- it says what the proposition says
  false_is : o % 4 ≡ 0 → (is_false_header_at image o ≡ true) ↔ FalseHeaderAt image o
  unfolding is_false_header_at is_false_header
  false_is z =
      let words = and_is marked (not zero) (eqb_is _ _) (not_is zero (eqb_is _ _)) in
      let is = and_is room (marked && not zero) (room_is image o) words in (
        λ t. let r = is.0 t in record { magic = record { multiple = z; whole = r.0.0; early = r.0.1; marked = r.1.0 }; sum = r.1.1 },
        λ h. let m = h.magic in is.1 ((m.whole, m.early), (m.marked, h.sum)),
      )

  pub false_here : o + short_header ≤ length image → o + short_header ≤ search_limit → marked ≡ true → zero ≡ false → is_false_header_at image o ≡ true
  unfolding is_false_header_at is_false_header
  false_here l m e f = and_both room (marked && not zero) ((room_is image o).1 (l, m)) (and_both marked (not zero) e (not_to_true zero f))

  pub no_magic : marked ≡ false → is_false_header_at image o ≡ false
  unfolding is_false_header_at is_false_header
  no_magic e = and_fails_right room (marked && not zero) (and_fails_left marked (not zero) e)

  pub no_room : length image < o + short_header → is_false_header_at image o ≡ false
  unfolding is_false_header_at is_false_header
  no_room l = and_fails_left room (marked && not zero) (past_end image o l)

  too_late : search_limit < o + short_header → is_false_header_at image o ≡ false
  unfolding is_false_header_at is_false_header
  too_late l = and_fails_left room (marked && not zero) (past_limit image o l)

-- so many numbers k have a false header at 4k
module _ (image : List ℕ) where
  abbrev FalsePlace : ℕ → Type 0
  FalsePlace k = FalseHeaderAt image (4 * k)

  counted : (r : Option ImageOffset) → header image ≡ r → HowMany FalsePlace (places_passed r) (false_headers image)
  unfolding false_headers
  counted r e = rw e (passing_how_many (is_false_place image) FalsePlace (places_passed r) (λ k. false_is image (4 * k) (omega arith)))

  -- below the header found
  pub false_below : (o : ImageOffset) → header image ≡ Some o → HowMany FalsePlace (o.0 / 4) (false_headers image)
  false_below o = counted (Some o)

  -- in the searched part, where there is no header
  pub false_anywhere : header image ≡ None → HowMany FalsePlace 2048 (false_headers image)
  false_anywhere = counted None

  pub false_most : false_headers image ≤ 2046
  unfolding false_headers
  false_most =
      let n = places_passed (header image) in
      ⊎_elim
      (λ (l : n < 2046). omega (arith, passing_most (is_false_place image) n))
      (λ (l : 2046 ≤ n). rw (passing_past (is_false_place image) 2046 n l (λ k m. too_late image (4 * k) (omega arith))) (passing_most (is_false_place image) 2046))
      (lt_or_le n 2046)

-- the searched part of an image
module _ (image : List ℕ) where
  abbrev part : List ℕ
  part = take search_limit image

  length_part : (n : ℕ) → n ≤ search_limit → n ≤ length image → n ≤ length part
  length_part n l m = simp length-take (omega arith)

  part_short : length part ≤ search_limit
  part_short = simp length-take (omega arith)

  -- it has the false headers of the image
  false_same : (o : ℕ) → is_false_header_at part o ≡ is_false_header_at image o
  unfolding is_false_header_at
  false_same o =
      ⊎_elim
      (λ (l : search_limit < o + short_header). too_late part o l ∙ sym (too_late image o l))
      (λ (l : o + short_header ≤ search_limit).
      ⊎_elim
      (λ (m : length image < o + short_header). no_room part o (simp length-take (omega arith)) ∙ sym (no_room image o m))
      (λ (m : o + short_header ≤ length image).
      rw (le-leb (o + short_header) (length part) (length_part (o + short_header) l m), le-leb (o + short_header) (length image) m, word_take search_limit image o (omega arith), word_take search_limit image (o + 4) (omega arith), word_take search_limit image (o + 8) (omega arith)))
      (lt_or_le (length image) (o + short_header)))
      (lt_or_le search_limit (o + short_header))

  pub header_same : header part ≡ header image
  unfolding header
  header_same = ap (λ (s : List ℕ). header_from 0 (words s)) (take_all search_limit part part_short)

  pub searched_part : searched part ≡ searched image
  unfolding false_headers
  searched_part = rw (header_same, passing_same (is_false_place part) (is_false_place image) (λ k. false_same (4 * k)) (places_passed (header image)))

  -- the first n bytes are the searched part
  cut : (n : ℕ) → n ≡ min (length image) search_limit → take n image ≡ part
  cut n e =
      ⊎_elim
      (λ (l : length image < search_limit). take_all n image (omega arith) ∙ sym (take_all search_limit image (omega arith)))
      (λ (l : search_limit ≤ length image). let q : n ≡ search_limit = omega arith in ap (λ (k : ℕ). take k image) q)
      (lt_or_le (length image) search_limit)

  pub searched_cut : (n : ℕ) → n ≡ min (length image) search_limit → searched (take n image) ≡ searched image
  searched_cut n e = ap searched (cut n e) ∙ searched_part
