-- `submission::parse` meets its contract: each return gives what its test decides.
use Rattle.std.specs.Prelude.{Result, Ok}
use Rattle.std.proofs.Common.{◌∙◌, ap, sym, arith}
use Rattle.answer.specs.declared.Refusal.{Refusal}
use Rattle.submission.specs.declared.Layout.{Layout}
use Rattle.submission.proofs.ParseLaws.{too_many, not_parsed, bad_parsed, good_parsed}
use Rattle.submission.proofs.parse.Goals as goal

loaded : Layout → Result Layout Refusal
loaded l = Ok l

pub returns-then-not-is_submission : goal.returns-then-not-is_submission
returns-then-not-is_submission c = not_parsed c.args.s.now (sym c.if-not-is_submission.ensures)

pub returns-then-count-gt-MAX_MODULES : goal.returns-then-count-gt-MAX_MODULES
returns-then-count-gt-MAX_MODULES c = bad_parsed c.args.s.now (sym c.if-not-is_submission.ensures) (too_many c.args.s.now (omega arith))

pub returns-then-not-rules_hold : goal.returns-then-not-rules_hold
returns-then-not-rules_hold c = bad_parsed c.args.s.now (sym c.if-not-is_submission.ensures) (sym c.if-not-rules_hold.ensures)

pub returns : goal.returns
returns c = rw (c.read_layout-layout.ensures) (good_parsed c.args.s.now (sym c.if-not-is_submission.ensures) (sym c.if-not-rules_hold.ensures))
