-- `loader::write::write_modules` meets its contract.
use Rattle.std.proofs.Common.{rules, ◌≡◌, length, take, length-append, arith}
use Rattle.std.proofs.lemmas.Slice.Zip.{zip_turn, zip_end}
use Rattle.loader.proofs.TurnLaws.{none_written, module_written}
use Rattle.loader.proofs.write.write_modules.Goals as goal

pub loop-module-init : goal.loop-module-init
loop-module-init c = none_written _ _

pub loop-module-preserved : goal.loop-module-preserved
loop-module-preserved c =
    let t = zip_turn (take c.args.layout.now.count c.args.layout.now.modules) c.args.spans.now _ _ _ c.next.new.self _ (search rules) (search rules) c.loop-module.yielded_by _ c.in-Some.is c.next.ensures.steps in
    rw length-append
    (module_written c.args.base.0 c.args.submission.now c.args.layout.now c.args.spans.now c.args.layout.now.count _ _ _ _ _ _ _ _ (omega arith) (t.2 _) (t.3 _) c.loop-module.invariant c.bytes_of-data.ensures c.offset_from.ensures c.write_bytes.ensures)

pub returns : goal.returns
returns c =
    let e : length c.loop-module.yielded ≡ c.args.layout.now.count = omega (arith, zip_end (take c.args.layout.now.count c.args.layout.now.modules) c.args.spans.now _ _ _ c.next.new.self _ (search rules) (search rules) c.loop-module.yielded_by c.in-None.is c.next.ensures.steps) in
    rw e at c.loop-module.invariant
