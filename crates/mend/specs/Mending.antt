-- What a mend answers.                                                                  rule: MENDING
--     Mending    the change, none where the image has a header, or the refusal
-- Assumes nothing.
use Rattle.std.specs.Prelude.{Option, Result}
use Rattle.mend.specs.declared.Change.{Change}
use Rattle.mend.specs.declared.NoMagic.{NoMagic}

abbrev pub Mending : Type 0
Mending = Result (Option Change) NoMagic
