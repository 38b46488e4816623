-- `submission::rules::strings_hold` meets its contract: the modules that the iterator gives are those of the submission.
use Rattle.std.proofs.Common.{◌≡◌, ◌∙◌, not, Bool, List, ℕ, take, arith, rules, tests}
use Rattle.std.specs.List.{list_all}
use Rattle.std.proofs.lemmas.List.{take_at}
use Rattle.laws.specs.Table.{listed}
use Rattle.laws.proofs.TableLaws.{length_listed}
use Rattle.std.proofs.lemmas.Iterator.{YieldsList-from_slice}
use Rattle.std.proofs.lemmas.Iterator.Search.{all_from_yields_List}
use Rattle.laws.specs.Tests.{all_from}
use Rattle.submission.specs.Scan.{has_zero}
use Rattle.submission.specs.Format.{module_count}
use Rattle.submission.specs.Layout.{module_of, module_table, layout_of, bytes_of}
use Rattle.submission.specs.Rules.{string_holds}
use Rattle.submission.specs.declared.Module.{Module}
use Rattle.submission.specs.declared.Layout.{Layout}
use Rattle.submission.proofs.ParseLaws.{count_is}
use Rattle.submission.proofs.TurnLaws.{all_listed}
use Rattle.submission.proofs.rules.strings_hold.Goals as goal

-- no zero byte in a module's string
abbrev test : List ℕ → Module → Bool
test s m = not (has_zero (bytes_of s m.string))

tested : (s : List ℕ) (l : Layout) → l ≡ layout_of s → list_all (test s) (take l.count l.modules) ≡ all_from (string_holds s) 0 (module_count s)
unfolding layout_of string_holds
tested s l q =
    let e : take (module_count s) (module_table s (module_count s)) ≡ listed (module_of s) (module_count s) = take_at (listed (module_of s) (module_count s)) _ _ (length_listed (module_of s) (module_count s)) in
    rw (q, e) (all_listed (test s) (module_of s) (module_count s))

pub shared_ref_as_front-iter : goal.shared_ref_as_front-iter
shared_ref_as_front-iter c = omega (arith, count_is c.args.s.now c.args.l.now c.requires.0)

pub returns : goal.returns
returns c =
    let s = c.args.s.now in
    all_from_yields_List (test s) _ _ _ c.all.ensures.ran (YieldsList-from_slice _ c.iter.ensures.rest) (λ x b q k. search (rules, tests))
    ∙ tested s c.args.l.now c.requires.0
