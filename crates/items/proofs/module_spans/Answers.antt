-- `items::module_spans` meets its contract.
use Rattle.std.proofs.Common.{◌≡◌, ◌+◌, ◌-◌, ◌<◌, ◌∙◌, ap, arith, List, ℕ, replicate, take, drop, get_or}
use Rattle.std.proofs.lemmas.List.{get_or-take, get_or-drop}
use Rattle.laws.proofs.TableLaws.{table_none, table_more}
use Rattle.address.specs.Span.{no_span, span_no}
use Rattle.submission.specs.Format.{max_modules}
use Rattle.items.specs.LoadItems.{module_spans}
use Rattle.items.proofs.module_spans.Goals as goal

pub loop-i-init : goal.loop-i-init
loop-i-init c = ap (replicate max_modules) c.none-list.ensures ∙ table_none _ max_modules no_span

-- what stands at an index of a part stands that far into the whole
part_at : {A : Type 0} (xs : List A) (a n i : ℕ) (z : A) → i < a + n - a → get_or (take (a + n - a) (drop a xs)) i z ≡ get_or xs (a + i) z
part_at xs a n i z l = get_or-take (a + n - a) (drop a xs) i z l ∙ get_or-drop a xs i z

pub loop-i-preserved : goal.loop-i-preserved
loop-i-preserved c =
    let room : c.loop-i.i < max_modules = omega arith in
    cc (part_at c.args.spans.now.list c.args.from c.args.count c.loop-i.i no_span (omega arith), table_more (λ j. span_no c.args.spans.now.list (c.args.from + j)) max_modules no_span c.loop-i.i room)

pub returns : goal.returns
unfolding module_spans
returns c = let e : c.loop-i.i ≡ c.args.count = omega arith in cc
