-- `loader::write::write_block` meets its contract: the map that passes its check is read.
-- Assumes nothing.
use Rattle.std.proofs.Common.{refl}
use Rattle.memory_map.specs.PairsLaws.{parsed_good}
use Rattle.loader.proofs.write.write_block.Goals as goal

pub unwrap-pairs-requires : goal.unwrap-pairs-requires
unwrap-pairs-requires c = rw (c.parse.ensures, parsed_good c.args.map.now c.requires.0) refl
