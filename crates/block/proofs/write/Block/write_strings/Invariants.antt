-- `block::write::Block::write_strings` meets its contract. The loop's invariant: the strings passed are written, and nothing else.
use Rattle.std.proofs.Common.{◌≡◌, ◌+◌}
use Rattle.buffer.specs.Patched.{patched}
use Rattle.block.specs.Block.{texts_size, texts, string_lengths}
use Rattle.block.specs.Writing.{strings_of}
use Rattle.block.proofs.write.Block.write_strings.Given as goal

abbrev pub invariant-loop-m : goal.invariant-loop-m
invariant-loop-m l = record {
  next : l.next ≡ l.at + texts_size (string_lengths l.fn.self.layout.now l.m-index);
  written : l.window ≡ patched l.initial.window l.at (texts (strings_of l.fn.self.submission.now l.fn.self.layout.now l.m-index));
}
