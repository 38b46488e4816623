-- `loader::write::write_load` meets its contract: the three writers together make the writes of a load.
-- Assumes nothing.
use Rattle.std.proofs.Common.{refl, ap, sym, ◌∙◌, length}
use Rattle.buffer.specs.WritesLaws.{length_written}
use Rattle.submission.specs.RuleLaws.{parsed_layout}
use Rattle.decision.specs.Lent.{lent}
use Rattle.loader.specs.LoadLaws.{loads}
use Rattle.loader.specs.WriteLaws.{layout_read, few_segments, few_modules, block_ready, all_written}
use Rattle.loader.proofs.write.write_load.Goals as goal

pub unwrap-layout-requires : goal.unwrap-layout-requires
unwrap-layout-requires c =
    let x = lent c.args.submission.now c.args.operator.now c.args.map.now c.args.first (length c.args.window.now) in
    rw (c.parse.ensures, layout_read x (loads x c.requires.load)) refl

pub write_kernel-requires : goal.write_kernel-requires
write_kernel-requires c =
    let x = lent c.args.submission.now c.args.operator.now c.args.map.now c.args.first (length c.args.window.now) in
    let l = parsed_layout _ _ (sym c.parse.ensures ∙ c.unwrap-layout.ensures) in
    few_segments x (loads x c.requires.load) _ _ c.requires.plan l.1

pub write_modules-requires : goal.write_modules-requires
write_modules-requires c =
    let x = lent c.args.submission.now c.args.operator.now c.args.map.now c.args.first (length c.args.window.now) in
    let l = parsed_layout _ _ (sym c.parse.ensures ∙ c.unwrap-layout.ensures) in
    few_modules x (loads x c.requires.load) _ _ c.requires.plan l.1

pub write_block-requires : goal.write_block-requires
write_block-requires c =
    let x = lent c.args.submission.now c.args.operator.now c.args.map.now c.args.first (length c.args.window.now) in
    let load = loads x c.requires.load in
    let l = parsed_layout _ _ (sym c.parse.ensures ∙ c.unwrap-layout.ensures) in
    let n = ap length c.write_modules.ensures ∙ length_written _ _ ∙ ap length c.write_kernel.ensures ∙ length_written _ _ in
    let b = block_ready x load _ _ c.requires.plan l.1 _ n in
    (load.passed.map, b.0, b.1, b.2)

pub returns : goal.returns
returns c =
    let x = lent c.args.submission.now c.args.operator.now c.args.map.now c.args.first (length c.args.window.now) in
    let l = parsed_layout _ _ (sym c.parse.ensures ∙ c.unwrap-layout.ensures) in
    all_written x (loads x c.requires.load) _ _ c.requires.plan l.1 _ _ _ _ _ c.bytes_of-image.ensures c.write_kernel.ensures c.write_modules.ensures c.write_block.ensures
