-- `memory_map::parse` meets its contract.
use Rattle.std.proofs.Common.{sym, ◌∙◌, eqb-true, arith}
use Rattle.std.proofs.lemmas.Bool.{eqb-false}
use Rattle.memory_map.specs.Pairs.{next_offset}
use Rattle.memory_map.specs.PairsLaws.{empty_bad, long_bad, parsed_bad}
use Rattle.memory_map.proofs.ReadingLaws.{none_read, too_many, is_broken, one_more, all_read}
use Rattle.memory_map.proofs.parse.Goals as goal
use Rattle.memory_map.proofs.parse.Goals.{then-is_empty-via-then-is_empty, then-is_empty-via-else-is_empty+then-m-gt-MAX_MAP}

pub returns-then-is_empty : goal.returns-then-is_empty
returns-then-is_empty c =
    elim c.then-is_empty.branch [
      | then-is_empty-via-then-is_empty w ↦ sym (parsed_bad _ (empty_bad _ (eqb-true _ _ (sym c.is_empty.ensures ∙ w.if-is_empty.true))))
      | then-is_empty-via-else-is_empty+then-m-gt-MAX_MAP w ↦ sym (parsed_bad _ (long_bad _ w.if-m-gt-MAX_MAP.true))
    ]

pub loop-at-init : goal.loop-at-init
loop-at-init c = none_read _ _ c.no_map-map.ensures

pub returns-in_default : goal.returns-in_default
returns-in_default c = sym (parsed_bad _ (is_broken _ _ _ c.loop-at.invariant c.loop-at-test.true c.in_default.ensures))

pub returns-then-map-eq-MAX_PAIRS : goal.returns-then-map-eq-MAX_PAIRS
returns-then-map-eq-MAX_PAIRS c = sym (parsed_bad _ (too_many _ _ _ c.loop-at.invariant c.loop-at-test.true c.if-map-eq-MAX_PAIRS.true))

pub loop-at-smaller : goal.loop-at-smaller
unfolding next_offset
loop-at-smaller c = omega (arith, c.in-Some.ensures.1, c.loop-at-test.true)

pub loop-at-preserved : goal.loop-at-preserved
loop-at-preserved c = one_more _ _ _ c.loop-at.invariant c.if-map-eq-MAX_PAIRS.false c.in-Some.ensures.0 _ c.read_pair.ensures _ c.in-Some.ensures.1

pub returns : goal.returns
returns c = all_read _ _ _ c.loop-at.invariant (eqb-false _ _ (sym c.is_empty.ensures ∙ c.if-is_empty.false)) c.if-m-gt-MAX_MAP.false c.loop-at-test.false
