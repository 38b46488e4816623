-- `block::write::write_text` meets its contract: the text, and its zero behind it.
use Rattle.std.proofs.Common.{sym, eqb-true}
use Rattle.std.proofs.lemmas.Bool.{eqb-false}
use Rattle.buffer.specs.PatchedLaws.{patched-nil}
use Rattle.block.specs.TextLaws.{text_none}
use Rattle.block.proofs.TurnLaws.{text_written}
use Rattle.block.proofs.write.write_text.Goals as goal

pub returns-then-not-is_empty : goal.returns-then-not-is_empty
returns-then-not-is_empty c = text_written _ _ _ _ _ (eqb-false _ _ (sym c.if-not-is_empty.ensures)) c.write_bytes.ensures c.write_bytes-then-not-is_empty.ensures

pub returns-else-not-is_empty : goal.returns-else-not-is_empty
returns-else-not-is_empty c = rw (text_none _ (eqb-true _ _ (sym c.if-not-is_empty.ensures))) (sym (patched-nil _ _))
