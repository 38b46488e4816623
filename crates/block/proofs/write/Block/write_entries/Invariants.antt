-- `block::write::Block::write_entries` meets its contract. The loop's invariant: the entries passed are written, and nothing else.
use Rattle.std.proofs.Common.{◌≡◌, ◌+◌}
use Rattle.buffer.specs.Patched.{patched}
use Rattle.number.specs.Number.{word_bytes}
use Rattle.block.specs.Block.{texts_size, entries, string_lengths}
use Rattle.block.specs.Writing.{entries_of}
use Rattle.block.proofs.write.Block.write_entries.Given as goal

abbrev pub invariant-loop-i : goal.invariant-loop-i
invariant-loop-i l = record {
  next : l.next ≡ l.strings + texts_size (string_lengths l.fn.self.layout.now l.i);
  written : l.window ≡ patched l.initial.window l.at (word_bytes (entries l.strings (entries_of l.fn.self.layout.now l.fn.self.spans.now l.i)));
}
