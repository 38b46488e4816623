-- What `position` answers over every fourth window of the searched part, and that it is the lowest magic.
--     there           where an item comes, what holds of it
--     size, word_is   the length of the searched part, and the magic's word in a window
--     given           what the closure gives for the place k
--     none_given      no place has the magic
--     lowest_found    the lowest magic is found
-- Assumes nothing.
use Rattle.std.proofs.Common.{◌≡◌, ℕ, ◌+◌, ◌-◌, ◌*◌, ◌<◌, ◌≤◌, min, Bool, true, false, List, length, take, drop, get_or, sym, refl, ap, ◌∙◌, ⊎_elim, arith, eqb-true, length-take, ◌==◌}
use Rattle.std.specs.Prelude.{Option, Some, None, MatchOption}
use Rattle.std.specs.Bool.{IsTrue}
use Rattle.std.specs.Option.{option_map, is_some, IfSome, IsSomeAnd}
use Rattle.std.specs.Fn.{Called}
use Rattle.std.specs.Iterator.Runs.{Run, IsStepByRun, IsWindowsRun, CallKeepsClosure, AllItemsGive, IsFirstToGive}
use Rattle.std.proofs.lemmas.Bool.{false≢true}
use denote.Ref.{Bor}
use denote.Param.Members.{Mut}
use Rattle.laws.proofs.TestLaws.{lt_or_le}
use Rattle.number.specs.Number.{number, number_at}
use Rattle.address.specs.declared.ImageOffset.{ImageOffset}
use Rattle.header.specs.Header.{header_magic, search_limit, short_header}
use Rattle.header.specs.HeaderAt.{MagicAt}
use Rattle.header.proofs.HeaderLaws.{word_take}
use Rattle.header.proofs.RoomLaws.{past_end, past_limit}
use Rattle.mend.specs.Mend.{lowest_magic}
use Rattle.mend.proofs.MagicLaws.{magic_is, no_magic, without_room, magic_found, magic_none}

there : (o : Option (Bor (List ℕ))) (P : Bor (List ℕ) → Type 0) (m : ℕ) → option_map (λ x. get_or x.now 0 0) o ≡ Some m → IfSome o P → IsSomeAnd o P
there None P m e h = absurd (false≢true (ap is_some e))
there (Some x) P m e h = h

-- the run p takes every fourth item of q, the windows of z bytes, which are 12, in the first n bytes of the image
module _ {S T : Type 0} {steps : S → Option (Bor (List ℕ)) → S → Type 0} {source : T → Option (Bor (List ℕ)) → T → Type 0} (p : Run steps) (q : Run source) (image : List ℕ) (n : ℕ) (end : n ≡ min (length image) search_limit) (walk : IsStepByRun p q 4) (z : ℕ) (wide : z ≡ short_header) (views : IsWindowsRun q z (take n image)) where
  size : length (take n image) ≡ n
  size = simp length-take (omega (arith, end))

  word_is : (k : ℕ) (l : List ℕ) → l ≡ take z (drop (k * 4) (take n image)) → k * 4 + short_header ≤ n → number_at 4 l 0 ≡ number_at 4 image (4 * k)
  word_is k l e m =
      let f : k * 4 ≡ 4 * k = omega arith in
      ap (number 4) e
      ∙ word_take z (drop (k * 4) (take n image)) 0 (omega arith)
      ∙ word_take n image (k * 4) (omega arith)
      ∙ ap (number_at 4 image) f

  -- the closure f tests for the magic
  module _ {F : Type 0} (g : Mut F (Bor (List ℕ) × Unit {0}) Bool) (f : F) (keeps : CallKeepsClosure g f) (tests : (x : Bor (List ℕ)) (b : Bool) → Called g f (x, tt) b f → b ≡ (number_at 4 x.now 0 == header_magic)) where
    given : (k : ℕ) (b : Bool) (o : Option (Bor (List ℕ))) → p.at k ≡ o → IsSomeAnd o (λ x. Called g f (x, tt) b f) → ((number_at 4 image (4 * k) == header_magic) ≡ b) × (4 * k + short_header ≤ n)
    given k b None e h = absurd h
    given k b (Some x) e h =
        let v = rw (sym (walk.4 k) ∙ e) at (views.2 (k * 4)) in
        let m : k * 4 + short_header ≤ n = omega (arith, v.1, size, wide) in
        (sym (tests x b h ∙ ap (λ (w : ℕ). w == header_magic) (word_is k x.now v.2.0 m)), omega arith)

    none_given : p.whole ≡ true → AllItemsGive p g f false → (k : ℕ) → 4 * k + short_header ≤ n → (number_at 4 image (4 * k) == header_magic) ≡ false
    none_given w all k l =
        let whole : q.len ≡ length (take n image) + 1 - z = views.1 (walk.0 ∙ w) in
        let m : k * 4 < q.len = omega (arith, size, wide) in
        (given k false (p.at k) refl (there (p.at k) _ _ (ap (option_map (λ x. get_or x.now 0 0)) (walk.4 k) ∙ views.3 (k * 4) 0 m) (all keeps k))).0

    pub lowest_found : (r : Option ℕ) → MatchOption r (IsTrue p.whole × AllItemsGive p g f false) (λ i. (p.len ≡ i + 1) × IsFirstToGive p g f true false i) → ◌≡◌ {A = Option ImageOffset} (option_map (λ k. record { 0 = 4 * k }) r) (lowest_magic image)
    lowest_found None h =
        magic_none image
        (λ j.
        ⊎_elim
        (λ (l : n < 4 * j + short_header).
        without_room image (4 * j)
        (⊎_elim
        (λ (m : length image < 4 * j + short_header). past_end image (4 * j) m)
        (λ (m : 4 * j + short_header ≤ length image). past_limit image (4 * j) (omega arith))
        (lt_or_le (length image) (4 * j + short_header))))
        (λ (l : 4 * j + short_header ≤ n). no_magic image (4 * j) (none_given h.0 h.1 j l))
        (lt_or_le n (4 * j + short_header)))
    lowest_found (Some i) h =
        let first = h.1 keeps in
        let t = given i true (p.at i) refl first.0 in
        let m : MagicAt image (4 * i) = record { multiple = omega arith; whole = omega (arith, t.1, end); early = omega (arith, t.1, end); marked = eqb-true _ _ t.0 } in
        magic_found image i ((magic_is image (4 * i) (omega arith)).1 m) (λ j l. no_magic image (4 * j) (given j false (p.at j) refl (first.1 j l)).0)
