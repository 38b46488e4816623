-- `block::write::Block::write` meets its contract: the parts stand one behind the other.
use Rattle.std.proofs.Common.{refl, length, arith}
use Rattle.block.specs.TextLaws.{size_low}
use Rattle.block.specs.WritingLaws.{room_low, room_inside}
use Rattle.block.proofs.TurnLaws.{block_written}
use Rattle.block.proofs.write.Block.write.Goals as goal

pub part_offsets-o-requires : goal.part_offsets-o-requires
part_offsets-o-requires c = omega (arith, room_low c.args.self.now.layout.now _ _ _ _ _ c.requires.room)

pub structure-requires : goal.structure-requires
structure-requires c = omega (arith, room_low c.args.self.now.layout.now _ _ _ _ _ c.requires.room)

pub overflow_add-self : goal.overflow_add-self
overflow_add-self c = omega (arith, c.part_offsets-o.ensures, room_low c.args.self.now.layout.now _ _ _ _ _ c.requires.room)

pub write_entries-requires : goal.write_entries-requires
write_entries-requires c = (
  c.requires.spans,
  omega (arith, room_inside c.args.self.now.layout.now _ _ _ _ _ c.requires.room),
  omega (arith, c.part_offsets-o.ensures, room_low c.args.self.now.layout.now _ _ _ _ _ c.requires.room),
)

pub overflow_add-at-3 : goal.overflow_add-at-3
overflow_add-at-3 c = omega (arith, c.part_offsets-o.ensures, room_inside c.args.self.now.layout.now _ _ _ _ _ c.requires.room)

pub overflow_add-at-4 : goal.overflow_add-at-4
overflow_add-at-4 c = omega (arith, c.part_offsets-o.ensures, room_inside c.args.self.now.layout.now _ _ _ _ _ c.requires.room)

pub write_text-requires : goal.write_text-requires
write_text-requires c = omega (arith, c.part_offsets-o.ensures, size_low (length c.args.self.now.line.now), room_inside c.args.self.now.layout.now _ _ _ _ _ c.requires.room)

pub overflow_add-at-5 : goal.overflow_add-at-5
overflow_add-at-5 c = omega (arith, c.part_offsets-o.ensures, room_inside c.args.self.now.layout.now _ _ _ _ _ c.requires.room)

pub write_strings-requires : goal.write_strings-requires
write_strings-requires c = (c.requires.strings, omega (arith, c.part_offsets-o.ensures, room_inside c.args.self.now.layout.now _ _ _ _ _ c.requires.room))

pub returns : goal.returns
returns c =
    block_written c.args.self.now c.args.at _ c.part_offsets-o.result c.structure.result _ _ _ _ _ _ _ _ c.requires.strings c.part_offsets-o.ensures c.structure.ensures c.structure_words-words.ensures refl c.write_words.ensures c.write_entries.ensures c.write_bytes.ensures c.write_bytes-2.ensures c.write_text.ensures c.write_strings.ensures
