-- What proves that a result is the first refusal of a chain of checks: `search chain depth 20`; and that a test of the code is a
-- test of the definitions: `search tests depth 8`.
--     chain, tests               the rule sets
--     none, here, on             no check is left, the first applies, it does not
--     or_left to not_to_false    a test of tests is true, or is not
--     told                       a test by its result
--     rest_or, rest_and          what is left of a test whose first part is known
--     chosen_first, -second      a choice by a known test
--     passes_append, passes_both    no check of two chains applies where none of either does
--     check_passed                  no check of a chain applies, so neither the first nor one of the rest
--     passes_on, ok_is, ok_passed   a chain gives its value exactly where none of its checks applies
--     err_failed                    a chain that refuses has a check that applies
--     chain_append, chain_first, chain_second
--                                   the first of two chains refuses, or the second decides
--     only_true, only_false, only_behind    checks that are made, and checks that are not
-- Assumes nothing.
use Rattle.std.specs.Prelude.{◌≡◌, Bool, true, cond, not, ◌&&◌, ◌||◌, Result, Ok, Err, is_ok}
use Rattle.std.proofs.Math.Path.{refl}
use Rattle.std.proofs.Common.{sym, ap, ◌∙◌}
use Rattle.std.proofs.lemmas.Bool.{false≢true}
use Rattle.std.proofs.Math.Bool.{false, and_assoc}
use Rattle.std.specs.Result.{result_and}
use mathlib.Core.List.{List, [], ◌∷◌, ◌++◌, append-nil}
use borrow.Author.Tests.{lt-ltb, le-ltb, le-leb, lt-leb, eq-eqb, ne_eqb, not-true}
use Rattle.laws.specs.Checks.{Check, only_if, first_of, passes, ◌gives◌}
use Rattle.laws.proofs.TestLaws.{and_left, and_right}

module _ {E : Type 0} where
  -- no check of two chains applies where none of either does
  pub passes_append : (ks ls : List (Check E)) → passes (ks ++ ls) ≡ passes ks && passes ls
  unfolding passes
  passes_append [] ls = refl
  passes_append (k ∷ ks) ls = rw (passes_append ks ls) (sym (and_assoc (not k.applies) (passes ks) (passes ls)))

  pub passes_both : (ks ls : List (Check E)) → passes (ks ++ ls) ≡ true → (passes ks ≡ true) × (passes ls ≡ true)
  passes_both ks ls h =
      let e : passes ks && passes ls ≡ true = sym (passes_append ks ls) ∙ h in
      (and_left (passes ks) (passes ls) e, and_right (passes ks) (passes ls) e)

  -- neither the first check applies nor one of the rest
  pub check_passed : (t : Bool) (e : E) (ks : List (Check E)) → passes (t gives e ∷ ks) ≡ true → (t ≡ false) × (passes ks ≡ true)
  unfolding passes
  check_passed t e ks h = (not-true t (and_left (not t) (passes ks) h), and_right (not t) (passes ks) h)

  -- checks that are made
  pub only_true : (ks : List (Check E)) → only_if true ks ≡ ks
  unfolding only_if
  only_true [] = refl
  only_true (k ∷ ks) = rw (only_true ks)

module _ {E A : Type 0} where
  -- no check applies, so the chain gives its value
  pub passes_on : (ks : List (Check E)) (z : A) → passes ks ≡ true → first_of ks z ≡ Ok z
  unfolding passes first_of
  passes_on [] z h = refl
  passes_on (k ∷ ks) z h =
      let e : k.applies ≡ false = not-true _ (and_left (not k.applies) (passes ks) h) in
      rw e (passes_on ks z (and_right (not k.applies) (passes ks) h))

  by_test : (t : Bool) (e : E) (r : Result A E) (p : Bool) → is_ok r ≡ p → is_ok (cond t (Err e) r) ≡ not t && p
  by_test true e r p h = refl
  by_test false e r p h = h

  -- a chain gives its value exactly where none of its checks applies
  pub ok_is : (ks : List (Check E)) (z : A) → is_ok (first_of ks z) ≡ passes ks
  unfolding passes first_of
  ok_is [] z = refl
  ok_is (k ∷ ks) z = by_test k.applies k.refusal (first_of ks z) (passes ks) (ok_is ks z)

  pub ok_passed : (ks : List (Check E)) (v z : A) → first_of ks z ≡ Ok v → (passes ks ≡ true) × (v ≡ z)
  ok_passed ks v z h =
      let p : passes ks ≡ true = sym (ok_is ks z) ∙ ap is_ok h in
      (p, cc (h, passes_on ks z p))

  pub err_failed : (ks : List (Check E)) (e : E) (z : A) → first_of ks z ≡ Err e → passes ks ≡ false
  err_failed ks e z h = sym (ok_is ks z) ∙ ap is_ok h

  -- checks that are not made
  pub only_false : (ks ls : List (Check E)) (z : A) → first_of (only_if false ks ++ ls) z ≡ first_of ls z
  unfolding only_if first_of
  only_false [] ls z = refl
  only_false (k ∷ ks) ls z = only_false ks ls z

  pub only_behind : (ks ls : List (Check E)) (z : A) → first_of (ks ++ only_if false ls) z ≡ first_of ks z
  unfolding first_of
  only_behind [] ls z = rw (← append-nil (only_if false ls)) (only_false ls [] z)
  only_behind (k ∷ ks) ls z = rw (only_behind ks ls z)

  -- none applies
  pub none : (r : Result A E) (z : A) → r ≡ Ok z → r ≡ first_of [] z
  unfolding first_of
  none r z e = e

  -- the first applies
  pub here : (t : Bool) (e : E) (z : A) (ks : List (Check E)) → t ≡ true → Err e ≡ first_of (record { applies = t; refusal = e } ∷ ks) z
  unfolding first_of
  here t e z ks h = rw h refl

  -- the first does not apply
  pub on : (t : Bool) (r : Result A E) (e : E) (z : A) (ks : List (Check E)) → t ≡ false → r ≡ first_of ks z → r ≡ first_of (record { applies = t; refusal = e } ∷ ks) z
  unfolding first_of
  on t r e z ks f h = rw f h

module _ {E A B : Type 0} where
  joined_by : (t : Bool) (e : E) (r : Result B E) (s : Result A E) → cond t (Err e) (result_and r s) ≡ result_and (cond t (Err e) r) s
  joined_by true e r s = refl
  joined_by false e r s = refl

  -- the second of two chains decides where the first does not refuse, whatever the first's value
  pub chain_append : (ks ls : List (Check E)) (b : B) (z : A) → first_of (ks ++ ls) z ≡ result_and (first_of ks b) (first_of ls z)
  unfolding first_of
  chain_append [] ls b z = refl
  chain_append (k ∷ ks) ls b z = rw (chain_append ks ls b z) (joined_by k.applies k.refusal (first_of ks b) (first_of ls z))

  pub chain_first : (ks ls : List (Check E)) (e : E) (b : B) (z : A) → first_of ks b ≡ Err e → Err e ≡ first_of (ks ++ ls) z
  chain_first ks ls e b z h = rw (chain_append ks ls b z, h) refl

  pub chain_second : (ks ls : List (Check E)) (v b : B) (z : A) → first_of ks b ≡ Ok v → first_of ls z ≡ first_of (ks ++ ls) z
  chain_second ks ls v b z h = rw (chain_append ks ls b z, h) refl

pub or_left : (a b : Bool) → a ≡ true → (a || b) ≡ true
or_left a b e = rw e refl

pub or_right : (a b : Bool) → b ≡ true → (a || b) ≡ true
or_right true b e = refl
or_right false b e = e

pub or_none : (a b : Bool) → a ≡ false → b ≡ false → (a || b) ≡ false
or_none a b e f = rw e f

pub and_both : (a b : Bool) → a ≡ true → b ≡ true → (a && b) ≡ true
and_both a b e f = rw e f

pub and_fails_left : (a b : Bool) → a ≡ false → (a && b) ≡ false
and_fails_left a b e = rw e refl

pub and_fails_right : (a b : Bool) → b ≡ false → (a && b) ≡ false
and_fails_right true b e = e
and_fails_right false b e = refl

pub not_to_true : (a : Bool) → a ≡ false → not a ≡ true
not_to_true a e = rw e refl

pub not_to_false : (a : Bool) → a ≡ true → not a ≡ false
not_to_false a e = rw e refl

pub ruleset chain = (none, here, on, or_left, or_right, or_none, and_both, and_fails_left, and_fails_right, not_to_true, not_to_false, lt-ltb, le-ltb, le-leb, lt-leb, eq-eqb, ne_eqb)

pub told : {a b t : Bool} → a ≡ b → a ≡ t → b ≡ t
told e f = sym e ∙ f

pub rest_or : (a b : Bool) → a ≡ false → b ≡ a || b
rest_or a b e = rw e

pub rest_and : (a b : Bool) → a ≡ true → b ≡ a && b
rest_and a b e = rw e

module _ {A : Type 0} where
  pub chosen_first : (t : Bool) (a b : A) → t ≡ true → a ≡ cond t a b
  chosen_first t a b e = rw e

  pub chosen_second : (t : Bool) (a b : A) → t ≡ false → b ≡ cond t a b
  chosen_second t a b e = rw e

pub ruleset tests = (chain, rest_or, rest_and, chosen_first, chosen_second)
