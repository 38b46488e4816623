-- `block::write::Block::write_entries` meets its contract.
use Rattle.std.proofs.Common.{rules, ◌≡◌, sym, arith}
use Rattle.laws.specs.Table.{listed}
use Rattle.buffer.specs.PatchedLaws.{patched-nil}
use Rattle.number.specs.Number.{word_bytes}
use Rattle.block.specs.Block.{texts_size, entries, string_lengths}
use Rattle.block.specs.TextLaws.{strings_turn}
use Rattle.block.proofs.TurnLaws.{entry_written}
use Rattle.block.proofs.write.Block.write_entries.Goals as goal

pub loop-i-init : goal.loop-i-init
unfolding string_lengths listed entries texts_size word_bytes
loop-i-init c = record {
  next = search rules;
  written = sym (patched-nil _ _);
}

pub text_address-requires : goal.text_address-requires
text_address-requires c = omega (arith, strings_turn c.args.self.now.layout.now c.args.self.now.layout.now.count c.loop-i.i (omega arith))

pub text_size-requires : goal.text_size-requires
text_size-requires c = omega (arith, strings_turn c.args.self.now.layout.now c.args.self.now.layout.now.count c.loop-i.i (omega arith))

pub overflow_add-next : goal.overflow_add-next
overflow_add-next c = omega (arith, c.text_size.ensures, strings_turn c.args.self.now.layout.now c.args.self.now.layout.now.count c.loop-i.i (omega arith))

pub loop-i-preserved : goal.loop-i-preserved
loop-i-preserved c = record {
  next = omega (arith, c.text_size.ensures, strings_turn c.args.self.now.layout.now c.args.self.now.layout.now.count c.loop-i.i (omega arith));
  written = entry_written c.args.window.now c.args.at c.args.self.now.layout.now c.args.self.now.spans.now c.args.self.now.layout.now.count c.args.strings c.loop-i.i c.loop-i.next _ _ _ (omega arith) c.loop-i.invariant.next c.text_address.ensures c.loop-i.invariant.written c.write_words.ensures;
}

pub returns : goal.returns
returns c = let e : c.loop-i.i ≡ c.args.self.now.layout.now.count = omega arith in rw e at c.loop-i.invariant.written
