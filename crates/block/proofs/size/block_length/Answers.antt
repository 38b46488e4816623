-- `block::size::block_length` meets its contract.
use Rattle.std.proofs.Common.{rules, ◌≡◌, ℕ, ap, arith}
use Rattle.laws.specs.Table.{listed}
use Rattle.block.specs.Block.{texts_size, string_lengths}
use Rattle.block.specs.TextLaws.{block_length_lem, strings_turn}
use Rattle.block.proofs.size.block_length.Goals as goal

pub part_offsets-o-requires : goal.part_offsets-o-requires
part_offsets-o-requires c = omega (arith, block_length_lem c.args.layout.now c.args.layout.now.count c.args.map_length c.args.line_length)

pub loop-m-init : goal.loop-m-init
unfolding string_lengths listed texts_size
loop-m-init c = search rules

pub text_size-size-requires : goal.text_size-size-requires
text_size-size-requires c =
    omega (arith, block_length_lem c.args.layout.now c.args.layout.now.count c.args.map_length c.args.line_length, strings_turn c.args.layout.now c.args.layout.now.count c.loop-m.m-index (omega arith))

pub overflow_add-size : goal.overflow_add-size
overflow_add-size c =
    omega (arith, c.text_size-size.ensures, block_length_lem c.args.layout.now c.args.layout.now.count c.args.map_length c.args.line_length, strings_turn c.args.layout.now c.args.layout.now.count c.loop-m.m-index (omega arith))

pub loop-m-preserved : goal.loop-m-preserved
loop-m-preserved c = omega (arith, c.text_size-size.ensures, strings_turn c.args.layout.now c.args.layout.now.count c.loop-m.m-index (omega arith))

pub returns : goal.returns
returns c =
    let e : c.loop-m.m-index ≡ c.args.layout.now.count = omega arith in
    omega (arith, block_length_lem c.args.layout.now c.args.layout.now.count c.args.map_length c.args.line_length, ap (λ (k : ℕ). texts_size (string_lengths c.args.layout.now k)) e)
