-- The plan of a decision.
--     refusal_zeros    that of a refusal is all zeros, the numbers handed over included
--     load_plan        that of a load is its plan
--     decision_made    an answer and the plan given make the decision
--     number_made      and the answer's number is its number
-- Assumes nothing.
use Rattle.std.specs.Prelude.{◌≡◌, refl, replicate, Result, Ok, Err}
use Rattle.std.specs.Bool.{⊤}
use Rattle.std.proofs.Common.{sym, ap, ◌∙◌}
use Rattle.std.specs.Result.{result_and}
use mathlib.Core.List.{[], append-nil}
use Rattle.laws.specs.Checks.{first_of}
use Rattle.laws.proofs.CheckLaws.{chain_append}
use Rattle.address.specs.Span.{no_span}
use Rattle.answer.specs.Answer.{number_of}
use Rattle.answer.specs.declared.Refusal.{Refusal}
use Rattle.kernel.specs.Kernel.{no_kernel}
use Rattle.decision.specs.declared.Plan.{Plan}
use Rattle.decision.specs.Plan.{Decision, no_plan, plan_given}
use Rattle.decision.specs.Lent.{Lent}
use Rattle.decision.specs.Decision.{checks, plan_in, decision_of}

pub refusal_zeros : (r : Refusal) → plan_given (Err r) ≡ record { kernel = no_kernel; modules = replicate 16 no_span; block = no_span; eax = 0; ebx = 0 }
unfolding no_plan
refusal_zeros r = refl

pub load_plan : (q : Plan) → plan_given (Ok q) ≡ q
load_plan q = refl

both : (a : Result ⊤ Refusal) (d : Decision) (z : Plan) → d ≡ result_and a (Ok z) → result_and a (Ok (plan_given d)) ≡ d
both (Ok u) d z e = rw e refl
both (Err r) d z e = rw e refl

number_by : (a : Result ⊤ Refusal) (q : Plan) → number_of (result_and a (Ok q)) ≡ number_of a
number_by (Ok u) q = refl
number_by (Err r) q = refl

pub decision_made : (x : Lent) (a : Result ⊤ Refusal) (q : Plan) → a ≡ first_of (checks x) (tt {0}) → q ≡ plan_given (decision_of x) → result_and a (Ok q) ≡ decision_of x
unfolding decision_of first_of
decision_made x a q e f =
    let d : first_of (checks x) (plan_in x) ≡ result_and (first_of (checks x) (tt {0})) (Ok (plan_in x)) =
    rw append-nil at (chain_append (checks x) [] (tt {0}) (plan_in x)) in
    rw (f, e) (both (first_of (checks x) (tt {0})) (first_of (checks x) (plan_in x)) (plan_in x) d)

pub number_made : (x : Lent) (a : Result ⊤ Refusal) (q : Plan) → a ≡ first_of (checks x) (tt {0}) → q ≡ plan_given (decision_of x) → number_of a ≡ number_of (decision_of x)
number_made x a q e f = sym (number_by a q) ∙ ap number_of (decision_made x a q e f)
