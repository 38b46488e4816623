-- The loop's invariant: the words of the segments passed are written, and nothing else.
use Rattle.std.proofs.Common.{◌≡◌}
use Rattle.buffer.specs.Patched.{patched}
use Rattle.viertompu.specs.Joined.{joined}
use Rattle.viertompu.specs.Words.{first_segment, segment_words}
use Rattle.viertompu.proofs.write_segments.Given as goal

abbrev pub invariant-loop-i : goal.invariant-loop-i
invariant-loop-i l = l.plan ≡ patched l.fn.plan first_segment (joined (segment_words l.kernel) l.i)
