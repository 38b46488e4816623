-- `block::size::block_length` meets its contract. The loop's invariant: the size has the strings passed.
use Rattle.std.proofs.Common.{◌≡◌, ◌+◌}
use Rattle.block.specs.Block.{strings_offset, texts_size, string_lengths}
use Rattle.block.proofs.size.block_length.Given as goal

abbrev pub invariant-loop-m : goal.invariant-loop-m
invariant-loop-m l = l.size ≡ strings_offset l.fn.layout.count l.map_length l.line_length + texts_size (string_lengths l.fn.layout l.m-index)
