-- Free addresses in propositions.
--     taken-is         some span taken holds the address
--     Free, free_is    open, and no span taken holds the address
-- Assumes nothing.
use Rattle.std.specs.Prelude.{◌≡◌, Bool, true, false, not, ◌↔◌, ℕ, ◌<◌}
use Rattle.std.proofs.Common.{sym, ◌∙◌}
use Rattle.std.proofs.Math.Bool.{false≢true}
use Rattle.std.proofs.Math.Logic.{⊎_elim}
use Rattle.std.proofs.lemmas.Bool.{not-true}
use Rattle.laws.proofs.TestLaws.{true_or_false, and_left, and_right, any_none, none_any}
use Rattle.address.specs.Address.{inside}
use Rattle.address.specs.Span.{span_no, Holds}
use Rattle.address.specs.InsideLaws.{inside_is}
use Rattle.placement.specs.declared.Spans.{Spans}
use Rattle.placement.specs.Free.{taken_by, is_taken, is_free}

pub record Free (o : ℕ → Bool) (t : Spans) (a : ℕ) : Type 0 where
  pub opened : o a ≡ true
  pub apart : (i : ℕ) → i < t.count → Holds (span_no t.list i) a → ⊥

module _ (t : Spans) (a : ℕ) where
  pub not_taken_is : (is_taken t a ≡ false) ↔ ((i : ℕ) → i < t.count → Holds (span_no t.list i) a → ⊥)
  unfolding is_taken taken_by
  not_taken_is = (
    λ e i l h. false≢true (sym (none_any _ t.count e i l) ∙ (inside_is _ _ a).1 h),
    λ h. any_none _ t.count (λ i l. ⊎_elim (λ k. absurd (h i l ((inside_is _ _ a).0 k))) (λ k. k) (true_or_false (inside (span_no t.list i).start.0 (span_no t.list i).end.0 a))),
  )

pub free_is : (o : ℕ → Bool) (t : Spans) (a : ℕ) → (is_free o t a ≡ true) ↔ Free o t a
unfolding is_free
free_is o t a = (
  λ e.
      record {
        opened = and_left (o a) (not (is_taken t a)) e;
        apart = (not_taken_is t a).0 (not-true (is_taken t a) (and_right (o a) (not (is_taken t a)) e));
      },
  λ h. rw (h.opened, (not_taken_is t a).1 h.apart),
)
