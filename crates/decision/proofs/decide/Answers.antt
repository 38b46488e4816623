-- `decision::decide` meets its contract: a refusal of the checks before 15, or the decision on memory.
-- Assumes nothing.
use Rattle.std.specs.Prelude.{◌≡◌, Ok, Err}
use Rattle.std.proofs.Common.{arith, sym, ◌∙◌, rules}
use Rattle.std.proofs.lemmas.Result.{err_from_is_err_and}
use Rattle.laws.specs.Checks.{first_of}
use Rattle.submission.specs.Parse.{parsed_submission}
use Rattle.board.specs.Window.{window_checks, window_span}
use Rattle.memory_map.specs.Parse.{parsed_map}
use Rattle.image.specs.Judge.{judged}
use Rattle.decision.specs.Lent.{Lent, lent}
use Rattle.decision.specs.DecisionLaws.{read_given, read_refused, submission_refused, operator_refused, window_refused, map_refused, image_refused, lent_passed, prepared, block_small, stages_known, board_is, block_length_is, prepared_is, memory_value, memory_given}
use Rattle.decision.proofs.decide.Goals as goal

pub returns-in_err-read_into-clause-value : goal.returns-in_err-read_into-clause-value
returns-in_err-read_into-clause-value c =
    let x : Lent = lent c.args.submission.now c.args.operator.now c.args.map.now c.args.first c.args.size in
    let p = err_from_is_err_and c.from_residual.result c.from_residual.ensures.1 in
    let r : parsed_submission c.args.submission.now ≡ Err c.in_err-read_into.field-0.0 = read_refused _ _ _ _ c.read_into.ensures.value.2 (search rules) _ c.in_err-read_into.was in
    rw (p.1, p.2) (submission_refused x _ r).0

pub returns-in_err-read_into-clause-plan_after : goal.returns-in_err-read_into-clause-plan_after
returns-in_err-read_into-clause-plan_after c =
    let x : Lent = lent c.args.submission.now c.args.operator.now c.args.map.now c.args.first c.args.size in
    let r : parsed_submission c.args.submission.now ≡ Err c.in_err-read_into.field-0.0 = read_refused _ _ _ _ c.read_into.ensures.value.2 (search rules) _ c.in_err-read_into.was in
    c.none.ensures ∙ (submission_refused x _ r).1

pub returns-in_err-check_operator-clause-value : goal.returns-in_err-check_operator-clause-value
returns-in_err-check_operator-clause-value c =
    let x : Lent = lent c.args.submission.now c.args.operator.now c.args.map.now c.args.first c.args.size in
    let s : parsed_submission c.args.submission.now ≡ Ok c.read_into.new.room = read_given _ _ _ _ c.read_into.ensures.value.2 (search rules) _ c.in_ok-read_into.was in
    let p = err_from_is_err_and c.from_residual-in_err-check_operator.result c.from_residual-in_err-check_operator.ensures.1 in
    rw (p.1, p.2) (operator_refused x _ s _ (sym c.check_operator.ensures ∙ c.in_err-check_operator.was)).0

pub returns-in_err-check_operator-clause-plan_after : goal.returns-in_err-check_operator-clause-plan_after
returns-in_err-check_operator-clause-plan_after c =
    let x : Lent = lent c.args.submission.now c.args.operator.now c.args.map.now c.args.first c.args.size in
    let s : parsed_submission c.args.submission.now ≡ Ok c.read_into.new.room = read_given _ _ _ _ c.read_into.ensures.value.2 (search rules) _ c.in_ok-read_into.was in
    c.none.ensures ∙ (operator_refused x _ s _ (sym c.check_operator.ensures ∙ c.in_err-check_operator.was)).1

pub returns-in_err-window-clause-value : goal.returns-in_err-window-clause-value
returns-in_err-window-clause-value c =
    let x : Lent = lent c.args.submission.now c.args.operator.now c.args.map.now c.args.first c.args.size in
    let s : parsed_submission c.args.submission.now ≡ Ok c.read_into.new.room = read_given _ _ _ _ c.read_into.ensures.value.2 (search rules) _ c.in_ok-read_into.was in
    let o = sym c.check_operator.ensures ∙ c.in_ok-check_operator.was in
    let p = err_from_is_err_and c.from_residual-in_err-window.result c.from_residual-in_err-window.ensures.1 in
    rw (p.1, p.2) (window_refused x _ s _ o c.in_err-window.field-0.0 (search rules)).0

pub returns-in_err-window-clause-plan_after : goal.returns-in_err-window-clause-plan_after
returns-in_err-window-clause-plan_after c =
    let x : Lent = lent c.args.submission.now c.args.operator.now c.args.map.now c.args.first c.args.size in
    let s : parsed_submission c.args.submission.now ≡ Ok c.read_into.new.room = read_given _ _ _ _ c.read_into.ensures.value.2 (search rules) _ c.in_ok-read_into.was in
    let o = sym c.check_operator.ensures ∙ c.in_ok-check_operator.was in
    c.none.ensures ∙ (window_refused x _ s _ o c.in_err-window.field-0.0 (search rules)).1

pub returns-in_err-read_into-2-clause-value : goal.returns-in_err-read_into-2-clause-value
returns-in_err-read_into-2-clause-value c =
    let x : Lent = lent c.args.submission.now c.args.operator.now c.args.map.now c.args.first c.args.size in
    let s : parsed_submission c.args.submission.now ≡ Ok c.read_into.new.room = read_given _ _ _ _ c.read_into.ensures.value.2 (search rules) _ c.in_ok-read_into.was in
    let o = sym c.check_operator.ensures ∙ c.in_ok-check_operator.was in
    let w : first_of (window_checks c.args.first c.args.size) (window_span c.args.first c.args.size) ≡ Ok c.in_ok-window.window = search rules in
    let p = err_from_is_err_and c.from_residual-in_err-read_into-2.result c.from_residual-in_err-read_into-2.ensures.1 in
    let r : parsed_map c.args.map.now ≡ Err c.in_err-read_into-2.field-0.0 = read_refused _ _ _ _ c.read_into-2.ensures.value.2 (search rules) _ c.in_err-read_into-2.was in
    rw (p.1, p.2) (map_refused x _ s _ o _ w _ r).0

pub returns-in_err-read_into-2-clause-plan_after : goal.returns-in_err-read_into-2-clause-plan_after
returns-in_err-read_into-2-clause-plan_after c =
    let x : Lent = lent c.args.submission.now c.args.operator.now c.args.map.now c.args.first c.args.size in
    let s : parsed_submission c.args.submission.now ≡ Ok c.read_into.new.room = read_given _ _ _ _ c.read_into.ensures.value.2 (search rules) _ c.in_ok-read_into.was in
    let o = sym c.check_operator.ensures ∙ c.in_ok-check_operator.was in
    let w : first_of (window_checks c.args.first c.args.size) (window_span c.args.first c.args.size) ≡ Ok c.in_ok-window.window = search rules in
    let r : parsed_map c.args.map.now ≡ Err c.in_err-read_into-2.field-0.0 = read_refused _ _ _ _ c.read_into-2.ensures.value.2 (search rules) _ c.in_err-read_into-2.was in
    c.none.ensures ∙ (map_refused x _ s _ o _ w _ r).1

pub returns-in_err-read_into-3-clause-value : goal.returns-in_err-read_into-3-clause-value
returns-in_err-read_into-3-clause-value c =
    let x : Lent = lent c.args.submission.now c.args.operator.now c.args.map.now c.args.first c.args.size in
    let s : parsed_submission c.args.submission.now ≡ Ok c.read_into.new.room = read_given _ _ _ _ c.read_into.ensures.value.2 (search rules) _ c.in_ok-read_into.was in
    let o = sym c.check_operator.ensures ∙ c.in_ok-check_operator.was in
    let w : first_of (window_checks c.args.first c.args.size) (window_span c.args.first c.args.size) ≡ Ok c.in_ok-window.window = search rules in
    let m : parsed_map c.args.map.now ≡ Ok c.read_into-2.new.room = read_given _ _ _ _ c.read_into-2.ensures.value.2 (search rules) _ c.in_ok-read_into-2.was in
    let p = err_from_is_err_and c.from_residual-in_err-read_into-3.result c.from_residual-in_err-read_into-3.ensures.1 in
    let r : judged c.bytes_of-image.result.now ≡ Err c.in_err-read_into-3.field-0.0 = read_refused _ _ _ _ c.read_into-3.ensures.value.2 (search rules) _ c.in_err-read_into-3.was in
    rw (p.1, p.2) (image_refused x _ s _ o _ w _ m _ c.bytes_of-image.ensures _ r).0

pub returns-in_err-read_into-3-clause-plan_after : goal.returns-in_err-read_into-3-clause-plan_after
returns-in_err-read_into-3-clause-plan_after c =
    let x : Lent = lent c.args.submission.now c.args.operator.now c.args.map.now c.args.first c.args.size in
    let s : parsed_submission c.args.submission.now ≡ Ok c.read_into.new.room = read_given _ _ _ _ c.read_into.ensures.value.2 (search rules) _ c.in_ok-read_into.was in
    let o = sym c.check_operator.ensures ∙ c.in_ok-check_operator.was in
    let w : first_of (window_checks c.args.first c.args.size) (window_span c.args.first c.args.size) ≡ Ok c.in_ok-window.window = search rules in
    let m : parsed_map c.args.map.now ≡ Ok c.read_into-2.new.room = read_given _ _ _ _ c.read_into-2.ensures.value.2 (search rules) _ c.in_ok-read_into-2.was in
    let r : judged c.bytes_of-image.result.now ≡ Err c.in_err-read_into-3.field-0.0 = read_refused _ _ _ _ c.read_into-3.ensures.value.2 (search rules) _ c.in_err-read_into-3.was in
    c.none.ensures ∙ (image_refused x _ s _ o _ w _ m _ c.bytes_of-image.ensures _ r).1

pub block_length-length-requires : goal.block_length-length-requires
block_length-length-requires c =
    let x : Lent = lent c.args.submission.now c.args.operator.now c.args.map.now c.args.first c.args.size in
    let s : parsed_submission c.args.submission.now ≡ Ok c.read_into.new.room = read_given _ _ _ _ c.read_into.ensures.value.2 (search rules) _ c.in_ok-read_into.was in
    let o = sym c.check_operator.ensures ∙ c.in_ok-check_operator.was in
    let w : first_of (window_checks c.args.first c.args.size) (window_span c.args.first c.args.size) ≡ Ok c.in_ok-window.window = search rules in
    let m : parsed_map c.args.map.now ≡ Ok c.read_into-2.new.room = read_given _ _ _ _ c.read_into-2.ensures.value.2 (search rules) _ c.in_ok-read_into-2.was in
    let k : judged c.bytes_of-image.result.now ≡ Ok c.read_into-3.new.room = read_given _ _ _ _ c.read_into-3.ensures.value.2 (search rules) _ c.in_ok-read_into-3.was in
    let a = stages_known x _ s _ o _ w _ m _ c.bytes_of-image.ensures _ k in
    let p = lent_passed x a.passed in
    rw (a.layout, c.in_force-line.ensures) ((prepared x p).modules, omega (arith, (block_small x p).1))

pub decide_memory-requires : goal.decide_memory-requires
decide_memory-requires c =
    let x : Lent = lent c.args.submission.now c.args.operator.now c.args.map.now c.args.first c.args.size in
    let s : parsed_submission c.args.submission.now ≡ Ok c.read_into.new.room = read_given _ _ _ _ c.read_into.ensures.value.2 (search rules) _ c.in_ok-read_into.was in
    let o = sym c.check_operator.ensures ∙ c.in_ok-check_operator.was in
    let w : first_of (window_checks c.args.first c.args.size) (window_span c.args.first c.args.size) ≡ Ok c.in_ok-window.window = search rules in
    let m : parsed_map c.args.map.now ≡ Ok c.read_into-2.new.room = read_given _ _ _ _ c.read_into-2.ensures.value.2 (search rules) _ c.in_ok-read_into-2.was in
    let k : judged c.bytes_of-image.result.now ≡ Ok c.read_into-3.new.room = read_given _ _ _ _ c.read_into-3.ensures.value.2 (search rules) _ c.in_ok-read_into-3.was in
    let a = stages_known x _ s _ o _ w _ m _ c.bytes_of-image.ensures _ k in
    let n = block_length_is x _ _ _ a.layout c.in_force-line.ensures c.block_length-length.ensures in
    prepared_is x _ _ _ _ (board_is x _ _ a.map a.window) a.kernel a.layout n (lent_passed x a.passed)

pub returns-clause-value : goal.returns-clause-value
returns-clause-value c =
    let x : Lent = lent c.args.submission.now c.args.operator.now c.args.map.now c.args.first c.args.size in
    let s : parsed_submission c.args.submission.now ≡ Ok c.read_into.new.room = read_given _ _ _ _ c.read_into.ensures.value.2 (search rules) _ c.in_ok-read_into.was in
    let o = sym c.check_operator.ensures ∙ c.in_ok-check_operator.was in
    let w : first_of (window_checks c.args.first c.args.size) (window_span c.args.first c.args.size) ≡ Ok c.in_ok-window.window = search rules in
    let m : parsed_map c.args.map.now ≡ Ok c.read_into-2.new.room = read_given _ _ _ _ c.read_into-2.ensures.value.2 (search rules) _ c.in_ok-read_into-2.was in
    let k : judged c.bytes_of-image.result.now ≡ Ok c.read_into-3.new.room = read_given _ _ _ _ c.read_into-3.ensures.value.2 (search rules) _ c.in_ok-read_into-3.was in
    let a = stages_known x _ s _ o _ w _ m _ c.bytes_of-image.ensures _ k in
    let n = block_length_is x _ _ _ a.layout c.in_force-line.ensures c.block_length-length.ensures in
    memory_value x _ _ _ _ (board_is x _ _ a.map a.window) a.kernel a.layout n _ a.passed c.decide_memory.ensures.value

pub returns-clause-plan_after : goal.returns-clause-plan_after
returns-clause-plan_after c =
    let x : Lent = lent c.args.submission.now c.args.operator.now c.args.map.now c.args.first c.args.size in
    let s : parsed_submission c.args.submission.now ≡ Ok c.read_into.new.room = read_given _ _ _ _ c.read_into.ensures.value.2 (search rules) _ c.in_ok-read_into.was in
    let o = sym c.check_operator.ensures ∙ c.in_ok-check_operator.was in
    let w : first_of (window_checks c.args.first c.args.size) (window_span c.args.first c.args.size) ≡ Ok c.in_ok-window.window = search rules in
    let m : parsed_map c.args.map.now ≡ Ok c.read_into-2.new.room = read_given _ _ _ _ c.read_into-2.ensures.value.2 (search rules) _ c.in_ok-read_into-2.was in
    let k : judged c.bytes_of-image.result.now ≡ Ok c.read_into-3.new.room = read_given _ _ _ _ c.read_into-3.ensures.value.2 (search rules) _ c.in_ok-read_into-3.was in
    let a = stages_known x _ s _ o _ w _ m _ c.bytes_of-image.ensures _ k in
    let n = block_length_is x _ _ _ a.layout c.in_force-line.ensures c.block_length-length.ensures in
    memory_given x _ _ _ _ (board_is x _ _ a.map a.window) a.kernel a.layout n _ _ _ a.passed c.decide_memory.ensures.value c.none.ensures c.decide_memory.ensures.plan_after
