-- `block::write::Block::structure` meets its contract: each field is that of `structure_for`.
use Rattle.std.proofs.Common.{refl, length, arith}
use Rattle.block.specs.Block.{structure_for}
use Rattle.block.specs.TextLaws.{size_low}
use Rattle.block.proofs.write.Block.structure.Goals as goal

pub text_address-requires : goal.text_address-requires
text_address-requires c = omega (arith, size_low (length c.args.self.now.line.now))

pub returns : goal.returns
unfolding structure_for
returns c =
    let o = c.part_offsets-o.ensures in
    rw (c.flags.ensures, c.text_address.ensures, c.address_at.ensures, c.address_at-2.ensures, c.address_at-3.ensures, o.line, o.map, o.name) refl
