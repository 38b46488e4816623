-- `number::write_words` meets its contract. The loop's invariant: the words passed are written, and nothing else.
use Rattle.std.proofs.Common.{◌≡◌, take}
use Rattle.buffer.specs.Patched.{patched}
use Rattle.number.specs.Number.{word_bytes}
use Rattle.number.proofs.write_words.Given as goal

abbrev pub invariant-loop-i : goal.invariant-loop-i
invariant-loop-i l = l.dst ≡ patched l.initial.dst l.at (word_bytes (take l.i l.words))
