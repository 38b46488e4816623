-- Laws of the lowest magic of an image.
--     magic_is, no_magic, without_room    the test at an offset
--     magic_kept                          a magic in another list
--     lowest_magic_lem                    what the search for it answers, in propositions
--     magic_found, magic_none             its answer from what is known of all places
--     magic_part                          what stands behind the searched part has no share in the answer
-- Assumes nothing.
use Rattle.std.specs.Prelude.{◌≡◌, ℕ, ◌+◌, ◌*◌, ◌/◌, ◌%◌, ◌<◌, ◌≤◌, min, Bool, true, false, ◌↔◌, List, length, take, ◌==◌, Option, Some, None}
use Rattle.std.proofs.Math.Path.{ap}
use Rattle.std.proofs.Common.{sym, ◌∙◌, arith, length-take}
use Rattle.std.proofs.lemmas.Bool.{false≢true}
use Rattle.laws.specs.First.{Found, none, at, first}
use Rattle.laws.proofs.FirstLaws.{Lowest, first_at, first_none, first_lowest}
use Rattle.laws.proofs.TestLaws.{eqb_is, and_is}
use Rattle.laws.proofs.CheckLaws.{and_fails_left, and_fails_right}
use Rattle.number.specs.Number.{number_at}
use Rattle.address.specs.declared.ImageOffset.{ImageOffset}
use Rattle.header.specs.Header.{header_magic, search_limit, short_header, has_room}
use Rattle.header.specs.HeaderAt.{MagicAt}
use Rattle.header.proofs.RoomLaws.{room_is}
use Rattle.header.proofs.SearchLaws.{Answers, one_answer}
use Rattle.header.proofs.HeaderLaws.{word_take}
use Rattle.mend.specs.Mend.{is_magic_at, is_magic_place, place_offset, lowest_magic}

-- the test at an offset
module _ (image : List ℕ) (o : ℕ) where
  abbrev room : Bool
  room = has_room image o

  abbrev marked : Bool
  marked = number_at 4 image o == header_magic

  -- it says what the proposition says
  pub magic_is : o % 4 ≡ 0 → (is_magic_at image o ≡ true) ↔ MagicAt image o
  unfolding is_magic_at
  magic_is z =
      let is = and_is room marked (room_is image o) (eqb_is _ _) in (
        λ t. let r = is.0 t in record { multiple = z; whole = r.0.0; early = r.0.1; marked = r.1 },
        λ m. is.1 ((m.whole, m.early), m.marked),
      )

  pub no_magic : marked ≡ false → is_magic_at image o ≡ false
  unfolding is_magic_at
  no_magic e = and_fails_right room marked e

  pub without_room : room ≡ false → is_magic_at image o ≡ false
  unfolding is_magic_at
  without_room e = and_fails_left room marked e

-- a magic stands in another list too that has its word and room for it
pub magic_kept : {s t : List ℕ} {o : ℕ} → o + short_header ≤ length t → number_at 4 t o ≡ number_at 4 s o → MagicAt s o → MagicAt t o
magic_kept l e m = record { multiple = m.multiple; whole = l; early = m.early; marked = e ∙ m.marked }

module _ (image : List ℕ) where
  -- a magic passes the test of its place
  placed : (o : ℕ) → MagicAt image o → is_magic_place image (o / 4) ≡ true
  placed o m = ap (is_magic_at image) (omega (arith, m.multiple)) ∙ (magic_is image o m.multiple).1 m

  of_places : (r : Found) → Lowest (is_magic_place image) (search_limit / 4) 0 r → Answers (MagicAt image) (place_offset r)
  of_places none h = λ o m. false≢true (sym (h (o / 4) (omega arith) (omega (arith, m.early))) ∙ placed o m)
  of_places (at k) h = (
    (magic_is image (4 * k) (omega arith)).0 h.2,
    λ p l m. false≢true (sym (h.3 (p / 4) (omega arith) (omega (arith, m.multiple))) ∙ placed p m),
  )

  -- it is the lowest in the image
  pub lowest_magic_lem : Answers (MagicAt image) (lowest_magic image)
  unfolding lowest_magic
  lowest_magic_lem = of_places (first (is_magic_place image) (search_limit / 4) 0) (first_lowest (is_magic_place image) (search_limit / 4) 0)

  -- the place k has the magic, and none before it
  pub magic_found : (k : ℕ) → is_magic_place image k ≡ true → ((j : ℕ) → j < k → is_magic_place image j ≡ false) → Some (record { 0 = 4 * k }) ≡ lowest_magic image
  unfolding lowest_magic
  magic_found k t h =
      let m = (magic_is image (4 * k) (omega arith)).0 t in
      ap place_offset (sym (first_at (is_magic_place image) (search_limit / 4) 0 k (omega arith) (omega (arith, m.early)) t (λ j l. h j)))

  -- no place has it
  pub magic_none : ((j : ℕ) → is_magic_place image j ≡ false) → None ≡ lowest_magic image
  unfolding lowest_magic
  magic_none h = ap place_offset (sym (first_none (is_magic_place image) (search_limit / 4) 0 (λ j l m. h j)))

-- the searched part of an image has its magics
module _ (image : List ℕ) where
  abbrev part : List ℕ
  part = take search_limit image

  to_part : (o : ℕ) → MagicAt image o → MagicAt part o
  to_part o m = magic_kept (simp length-take (omega (arith, m.whole, m.early))) (word_take search_limit image o (omega (arith, m.early))) m

  of_part : (o : ℕ) → MagicAt part o → MagicAt image o
  of_part o m =
      let l : o + short_header ≤ min search_limit (length image) = simp length-take at m.whole in
      magic_kept (omega arith) (sym (word_take search_limit image o (omega (arith, m.early)))) m

  same_answer : (r : Option ImageOffset) → Answers (MagicAt part) r → Answers (MagicAt image) r
  same_answer None h = λ o m. h o (to_part o m)
  same_answer (Some o) h = (of_part o.0 h.0, λ p l m. h.1 p l (to_part p m))

  pub magic_part : lowest_magic part ≡ lowest_magic image
  magic_part = one_answer (MagicAt image) (lowest_magic part) (lowest_magic image) (same_answer (lowest_magic part) (lowest_magic_lem part)) (lowest_magic_lem image)
