-- The lowest place in propositions, over any test of open addresses that ends at 2^32.
--     suits_is                  the test of an address is that it suits
--     place_lowest              the place is a exactly where a suits and no lower address does
--     no_room                   there is no room exactly where no address suits
--     place_below, place_end    a place is below 2^32, and so is the item's last byte
--     no_ceiling                a ceiling of 2^32 asks nothing
--     low_ceiling               a ceiling at the floor leaves no room
--     ceiling_keeps             a ceiling moves nothing
-- Assumes nothing.
use Rattle.std.specs.Prelude.{◌≡◌, refl, true, false, ◌&&◌, ◌↔◌, ℕ, ◌+◌, ◌-◌, ◌%◌, ◌≤◌, ◌<◌, Some, None}
use Rattle.std.proofs.Common.{sym, ◌∙◌, ⊎_elim, arith}
use Rattle.std.proofs.Math.Path.{ap}
use Rattle.std.proofs.Math.Bool.{Bool}
use Rattle.std.proofs.lemmas.Bool.{false≢true}
use borrow.Author.Tests.{eq-eqb, eqb-true, le-leb, leb-true}
use Rattle.std.proofs.Math.Dec.{eqb, leb}
use Rattle.laws.specs.Tests.{all_from}
use Rattle.laws.proofs.TestLaws.{true_or_false, lt_or_le, and_left, and_right, all_intro, all_elim}
use Rattle.laws.specs.First.{Found, none, at}
use Rattle.laws.proofs.FirstLaws.{Lowest, first_at, first_none, at_lowest, none_lowest}
use Rattle.address.specs.declared.PhysAddr.{PhysAddr}
use Rattle.address.specs.Address.{floor, is_multiple, boundary_of}
use Rattle.usable.specs.Usable.{address_space}
use Rattle.placement.specs.declared.Spans.{Spans}
use Rattle.placement.specs.declared.Item.{Item}
use Rattle.placement.specs.Free.{is_free}
use Rattle.placement.proofs.FreeLaws.{Free, free_is}
use Rattle.placement.specs.InOrder.{ItemSuits}
use Rattle.placement.specs.Lowest.{under_ceiling, fits, lowest, place_of, lowest_place}

place_at : (f : Found) (a : PhysAddr) → place_of f ≡ Some a → f ≡ at a.0
place_at none a e = let z : ◌≡◌ {A = ℕ} 0 1 = cc in absurd (omega arith)
place_at (at b) a e =
    let q : ◌≡◌ {A = PhysAddr} (record { 0 = b }) a = cc in
    ap (λ (p : PhysAddr). at p.0) q

place_none : (f : Found) → place_of f ≡ None → f ≡ none
place_none none e = refl
place_none (at b) e = let z : ◌≡◌ {A = ℕ} 0 1 = cc in absurd (omega arith)

module _ (o : ℕ → Bool) (t : Spans) (q : Item) where
  pub suits_is : (a : ℕ) → ((floor ≤ a) × (fits (is_free o t) q a ≡ true)) ↔ ItemSuits o t q a
  unfolding fits is_multiple under_ceiling
  suits_is a =
      let M : Bool = eqb (a % boundary_of q.pages) 0 in
      let C : Bool = leb (a + q.length) q.ceiling.0 in
      let F : Bool = all_from (is_free o t) a q.length in (
        λ e.
            let h : (y : ℕ) → a ≤ y → y < a + q.length → Free o t y = λ y l u. (free_is o t y).0 (all_elim (is_free o t) a q.length (and_right (M && C) F e.1) y l u) in
            let m = and_left (M && C) F e.1 in
            record {
              low = e.0;
              boundary = eqb-true _ _ (and_left M C m);
              under = leb-true _ _ (and_right M C m);
              opened = λ y l u. (h y l u).opened;
              apart = λ y l u. (h y l u).apart;
            },
        λ h. (h.low, rw (eq-eqb _ _ h.boundary, le-leb _ _ h.under) (all_intro (is_free o t) a q.length (λ y l u. (free_is o t y).1 (record { opened = h.opened y l u; apart = h.apart y l u })))),
      )

  no_fit : (a : ℕ) → floor ≤ a → (fits (is_free o t) q a ≡ false) ↔ (ItemSuits o t q a → ⊥)
  no_fit a l = (
    λ e h. false≢true (sym e ∙ ((suits_is a).1 h).1),
    λ h. ⊎_elim (λ e. absurd (h ((suits_is a).0 (l, e)))) (λ e. e) (true_or_false (fits (is_free o t) q a)),
  )

  found : (a : PhysAddr) → lowest_place o t q ≡ Some a → Lowest (fits (is_free o t) q) (address_space - floor) floor (at a.0)
  unfolding lowest_place lowest
  found a e = at_lowest (fits (is_free o t) q) (address_space - floor) floor a.0 (place_at _ a e)

  pub place_below : (a : PhysAddr) → lowest_place o t q ≡ Some a → a.0 < address_space
  place_below a e = omega (arith, (found a e).1)

  pub place_suits : (a : PhysAddr) → lowest_place o t q ≡ Some a → ItemSuits o t q a.0
  place_suits a e = (suits_is a.0).0 ((found a e).0, (found a e).2)

  module _ (small : (a : ℕ) → o a ≡ true → a < address_space) where
    -- an item all of whose addresses are open ends at 2^32 at the latest
    pub no_ceiling : (a : ℕ) → 0 < q.length → ((y : ℕ) → a ≤ y → y < a + q.length → o y ≡ true) → a + q.length ≤ address_space
    no_ceiling a l h = omega (arith, small (a + (q.length - 1)) (h (a + (q.length - 1)) (omega arith) (omega arith)))

    pub place_end : (a : PhysAddr) → lowest_place o t q ≡ Some a → a.0 + q.length ≤ address_space
    place_end a e =
        ⊎_elim
        (λ l. no_ceiling a.0 l (place_suits a e).opened)
        (λ l. omega (arith, place_below a e))
        (lt_or_le 0 q.length)

    module _ (some : 0 < q.length) where
      below_limit : (a : ℕ) → ItemSuits o t q a → a < address_space
      below_limit a h = small a (h.opened a (omega arith) (omega arith))

      pub place_lowest : (a : PhysAddr) → (lowest_place o t q ≡ Some a) ↔ (ItemSuits o t q a.0 × ((s : ℕ) → s < a.0 → ItemSuits o t q s → ⊥))
      unfolding lowest_place lowest
      place_lowest a = (
        λ e. (place_suits a e, λ s l h. (no_fit s h.low).0 ((found a e).3 s h.low l) h),
        λ h.
            ap place_of
            (first_at _ _ _ a.0 h.0.low (omega (arith, below_limit a.0 h.0)) ((suits_is a.0).1 h.0).1 (λ s l u. (no_fit s l).1 (h.1 s u))),
      )

      pub no_room : (lowest_place o t q ≡ None) ↔ ((s : ℕ) → ItemSuits o t q s → ⊥)
      unfolding lowest_place lowest
      no_room = (
        λ e s h. (no_fit s h.low).0 (none_lowest (fits (is_free o t) q) (address_space - floor) floor (place_none _ e) s h.low (omega (arith, below_limit s h))) h,
        λ h. ap place_of (first_none _ _ _ (λ s l u. (no_fit s l).1 (h s))),
      )

      pub low_ceiling : q.ceiling.0 ≤ floor → lowest_place o t q ≡ None
      low_ceiling c = no_room.1 (λ s h. omega (arith, h.low, h.under))

abbrev pub without_ceiling : Item → Item
without_ceiling q = record { length = q.length; pages = q.pages; ceiling = record { 0 = address_space } }

-- an item that has a place under its ceiling has the same one without it
pub ceiling_keeps : (o : ℕ → Bool) (t : Spans) (q : Item) → ((a : ℕ) → o a ≡ true → a < address_space) → 0 < q.length → (a : PhysAddr) → lowest_place o t q ≡ Some a → lowest_place o t (without_ceiling q) ≡ Some a
ceiling_keeps o t q small some a e =
    let p = (place_lowest o t q small some a).0 e in
    let h = p.0 in
    (place_lowest o t (without_ceiling q) small some a).1 (
      record { low = h.low; boundary = h.boundary; under = no_ceiling o t q small a.0 some h.opened; opened = h.opened; apart = h.apart },
      λ s l k. p.1 s l (record { low = k.low; boundary = k.boundary; under = omega (arith, h.under); opened = k.opened; apart = k.apart }),
    )
