-- `block::write::Block::write_strings` meets its contract.
use Rattle.std.proofs.Common.{rules, ◌≡◌, sym, arith}
use Rattle.laws.specs.Table.{listed}
use Rattle.buffer.specs.PatchedLaws.{patched-nil}
use Rattle.block.specs.Block.{texts_size, texts, string_lengths}
use Rattle.block.specs.TextLaws.{strings_turn}
use Rattle.block.proofs.TurnLaws.{string_room, string_written}
use Rattle.block.proofs.write.Block.write_strings.Goals as goal

pub loop-m-init : goal.loop-m-init
unfolding string_lengths listed texts texts_size
loop-m-init c = record {
  next = search rules;
  written = sym (patched-nil _ _);
}

pub write_text-requires : goal.write_text-requires
write_text-requires c =
    omega (arith, string_room c.args.self.now.submission.now c.args.self.now.layout.now c.args.self.now.layout.now.count c.loop-m.m-index _ c.requires.0.within (omega arith) c.bytes_of-text.ensures)

pub text_size-next-requires : goal.text_size-next-requires
text_size-next-requires c = omega (arith, strings_turn c.args.self.now.layout.now c.args.self.now.layout.now.count c.loop-m.m-index (omega arith))

pub overflow_add-next : goal.overflow_add-next
overflow_add-next c = omega (arith, c.text_size-next.ensures, strings_turn c.args.self.now.layout.now c.args.self.now.layout.now.count c.loop-m.m-index (omega arith))

pub loop-m-preserved : goal.loop-m-preserved
loop-m-preserved c =
    record {
      next = omega (arith, c.text_size-next.ensures, strings_turn c.args.self.now.layout.now c.args.self.now.layout.now.count c.loop-m.m-index (omega arith));
      written = string_written c.args.window.now c.args.at c.args.self.now.submission.now c.args.self.now.layout.now c.args.self.now.layout.now.count c.loop-m.m-index c.loop-m.next _ _ _ c.requires.0.within (omega arith) c.loop-m.invariant.next c.bytes_of-text.ensures c.loop-m.invariant.written c.write_text.ensures;
    }

pub returns : goal.returns
returns c = let e : c.loop-m.m-index ≡ c.args.self.now.layout.now.count = omega arith in rw e at c.loop-m.invariant.written
