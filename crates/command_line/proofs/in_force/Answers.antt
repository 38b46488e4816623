-- `command_line::in_force` meets its contract: a refusal empties the line, and then the operator's goes first.
-- Assumes nothing.
use Rattle.std.specs.Prelude.{◌≡◌, Bool, not, Result, is_ok}
use Rattle.std.specs.Bool.{⊤}
use Rattle.std.proofs.Common.{List, ℕ, sym, ap, ◌∙◌, arith, tests}
use Rattle.laws.specs.Checks.{first_of, passes}
use Rattle.laws.proofs.CheckLaws.{ok_is}
use Rattle.answer.specs.declared.Refusal.{Refusal}
use Rattle.submission.specs.Layout.{layout_of, bytes_of}
use Rattle.submission.specs.FormatLaws.{layout_line}
use Rattle.submission.specs.RuleLaws.{parsed_layout, parsed_failed}
use Rattle.submission.specs.declared.Layout.{Layout}
use Rattle.command_line.specs.CommandLine.{operator_checks}
use Rattle.command_line.specs.CommandLineLaws.{line_refused_submission, line_refused_operator, line_of_operator, line_of_submission}
use Rattle.command_line.proofs.in_force.Goals as goal

-- whether the check refuses tells whether it applies
operator_told : (line : List ℕ) (r : Result ⊤ Refusal) (b t : Bool) → r ≡ first_of (operator_checks line) (tt {0}) → is_ok r ≡ not b → b ≡ t → passes (operator_checks line) ≡ not t
operator_told line r b t e n h = sym (ok_is (operator_checks line) (tt {0})) ∙ ap is_ok (sym e) ∙ n ∙ ap not h

pub returns-in_default : goal.returns-in_default
returns-in_default c = sym (line_refused_submission _ _ (parsed_failed _ _ (sym c.parse.ensures ∙ c.in_default.is)))

pub returns-then-is_err : goal.returns-then-is_err
returns-then-is_err c =
    let k = operator_told c.args.operator.now _ _ _ c.check_operator.ensures c.is_err.ensures.negation c.if-is_err.true in
    sym (line_refused_operator _ _ k)

pub returns-then-not-is_empty : goal.returns-then-not-is_empty
returns-then-not-is_empty c =
    let h = (parsed_layout _ _ (sym c.parse.ensures ∙ c.in-Ok.is)).0 in
    let k = operator_told c.args.operator.now _ _ _ c.check_operator.ensures c.is_err.ensures.negation c.if-is_err.false in
    sym (line_of_operator _ _ h k (grind (arith, tests)))

pub returns : goal.returns
returns c =
    let h = parsed_layout _ _ (sym c.parse.ensures ∙ c.in-Ok.is) in
    let k = operator_told c.args.operator.now _ _ _ c.check_operator.ensures c.is_err.ensures.negation c.if-is_err.false in
    let l = ap (λ (m : Layout). bytes_of c.args.submission.now m.line) h.1 ∙ ap (bytes_of c.args.submission.now) (layout_line c.args.submission.now) in
    c.bytes_of.ensures ∙ l ∙ sym (line_of_submission _ _ h.0 k (grind (arith, tests)))
