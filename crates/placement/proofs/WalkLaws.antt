-- A walk from edge to edge finds the lowest place.
--     Tried            what the walk knows at a candidate a, with x reached: from a up to x all is free, and no address below a serves
--     tried_start      the first candidate is the floor, rounded up
--     tried_on         free up to the next edge: the walk goes on there
--     tried_past       not free up to the next edge: the next candidate is the edge, rounded up
--     tried_found      the item ends at x or before, under its ceiling: a is its place
--     tried_end        nothing is free from x on: there is no room
--     tried_ceiling    from a the item would end above its ceiling: there is no room
-- Assumes nothing.
use Rattle.std.specs.Prelude.{◌≡◌, Bool, true, false, ◌&&◌, ℕ, ◌+◌, ◌%◌, ◌≤◌, ◌<◌}
use Rattle.std.proofs.Math.Path.{ap, sym}
use Rattle.std.proofs.Common.{◌∙◌, arith}
use Rattle.std.proofs.Math.Bool.{and-false}
use Rattle.std.proofs.Math.Logic.{⊎_elim}
use borrow.Author.Tests.{eq-eqb, ne_eqb, leb-false, lt-leb}
use Rattle.laws.proofs.TestLaws.{lt_or_le, all_intro, all_not}
use Rattle.laws.specs.First.{none, at}
use Rattle.laws.proofs.FirstLaws.{first_none, first_at}
use Rattle.address.specs.Address.{floor, page, is_multiple, round_up, boundary_of}
use Rattle.address.specs.RoundLaws.{rounded, boundary_some}
use Rattle.edge.specs.EdgeLaws.{Edge}
use Rattle.edge.specs.PassLaws.{AllPass, pass_start, pass_on}
use Rattle.usable.specs.Usable.{address_space}
use Rattle.placement.specs.declared.Item.{Item}
use Rattle.placement.specs.Lowest.{under_ceiling, fits, lowest}

pub record Tried (free : ℕ → Bool) (q : Item) (a x : ℕ) : Type 0 where
  pub low : floor ≤ a
  pub below : a < address_space
  pub multiple : a % boundary_of q.pages ≡ 0
  pub clear : AllPass free a x
  pub before : (s : ℕ) → floor ≤ s → s < a → fits free q s ≡ false

module _ (free : ℕ → Bool) (q : Item) where
  -- an address that is not free keeps the item from each place that would hold it
  not_over : (s y : ℕ) → s ≤ y → y < s + q.length → free y ≡ false → fits free q s ≡ false
  unfolding fits
  not_over s y l m e = ap (λ (b : Bool). is_multiple (boundary_of q.pages) s && under_ceiling q s && b) (all_not free s q.length y l m e) ∙ and-false (is_multiple (boundary_of q.pages) s && under_ceiling q s)

  not_multiple : (s : ℕ) → (s % boundary_of q.pages ≡ 0 → ⊥) → fits free q s ≡ false
  unfolding fits is_multiple
  not_multiple s e = rw (ne_eqb _ _ e)

  -- where the item would end above its ceiling, it does so from each higher address
  not_under : (a s : ℕ) → under_ceiling q a ≡ false → a ≤ s → fits free q s ≡ false
  unfolding fits under_ceiling
  not_under a s e l =
      let over : q.ceiling.0 < s + q.length = omega (arith, leb-false (a + q.length) q.ceiling.0 e) in
      rw (lt-leb _ _ over, and-false)

  -- x is not free, and nothing is from there up to e: no place from a on and below e serves
  not_up_to : (a x e s : ℕ) → x < a + q.length → free x ≡ false → ((y : ℕ) → x ≤ y → y < e → free y ≡ free x) → a ≤ x → a ≤ s → s < e → fits free q s ≡ false
  not_up_to a x e s short f same k l m =
      ⊎_elim
      (λ lt. not_over s s (omega arith) (omega arith) (same s (omega arith) m ∙ f))
      (λ le. not_over s x le (omega arith) f)
      (lt_or_le x s)

  bounded : (0 < boundary_of q.pages) × (boundary_of q.pages ≤ page)
  bounded = boundary_some q.pages

  pub tried_start : Tried free q (round_up floor (boundary_of q.pages)) (round_up floor (boundary_of q.pages))
  tried_start =
      let r = rounded floor (boundary_of q.pages) bounded.0 in
      record {
        low = r.low;
        below = omega (arith, bounded.1);
        multiple = r.multiple;
        clear = pass_start _ _;
        before = λ s l m. not_multiple s (λ z. omega (arith, r.lowest s l z));
      }

  pub tried_on : (a x : ℕ) {e w : ℕ} → Tried free q a x → Edge free x w e → free x ≡ true → Tried free q a e
  tried_on a x t g f =
      record { low = t.low; below = t.below; multiple = t.multiple; clear = pass_on _ _ _ t.clear g f; before = t.before }

  pub tried_past : (a x e : ℕ) {w : ℕ} → w + page ≤ address_space → x < a + q.length → Tried free q a x → Edge free x w e → free x ≡ false → Tried free q (round_up e (boundary_of q.pages)) (round_up e (boundary_of q.pages))
  tried_past a x e small short t g f =
      let r = rounded e (boundary_of q.pages) bounded.0 in
      let c = t.clear in
      record {
        low = omega arith;
        below = omega (arith, bounded.1);
        multiple = r.multiple;
        clear = pass_start _ _;
        before = λ s l m.
            ⊎_elim
            (λ lt. t.before s l lt)
            (λ le. ⊎_elim (λ lt. not_up_to a x e s short f g.same c.from le lt) (λ up. not_multiple s (λ z. omega (arith, r.lowest s up z))) (lt_or_le s e))
            (lt_or_le s a);
      }

  pub tried_found : (a x : ℕ) → Tried free q a x → a + q.length ≤ x → under_ceiling q a ≡ true → lowest free q ≡ at a
  unfolding lowest fits is_multiple
  tried_found a x t l u =
      first_at _ _ _ a t.low (omega (arith, t.below))
      (rw (eq-eqb _ _ t.multiple, u) (all_intro free a q.length (λ y u v. t.clear.all y u (omega arith))))
      t.before

  pub tried_end : (a x : ℕ) → x < a + q.length → Tried free q a x → ((y : ℕ) → x ≤ y → free y ≡ false) → lowest free q ≡ none
  unfolding lowest
  tried_end a x short t f =
      first_none _ _ _
      (λ s l m.
      ⊎_elim
      (λ lt. t.before s l lt)
      (λ le. not_up_to a x (s + 1) s short (f x (omega arith)) (λ y u v. f y u ∙ sym (f x (omega arith))) t.clear.from le (omega arith))
      (lt_or_le s a))

  pub tried_ceiling : (a x : ℕ) → Tried free q a x → under_ceiling q a ≡ false → lowest free q ≡ none
  unfolding lowest
  tried_ceiling a x t u = first_none _ _ _ (λ s l m. ⊎_elim (λ lt. t.before s l lt) (λ le. not_under a s u le) (lt_or_le s a))
