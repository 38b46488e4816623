-- `loader::write::write_modules` meets its contract. The loop's invariant: the modules passed are written, and nothing else.
use Rattle.std.proofs.Common.{◌≡◌, length}
use Rattle.laws.specs.Table.{listed}
use Rattle.buffer.specs.Writes.{written}
use Rattle.loader.specs.Memory.{module_write}
use Rattle.loader.proofs.write.write_modules.Given as goal

abbrev pub invariant-loop-module : goal.invariant-loop-module
invariant-loop-module l = l.window ≡ written l.initial.window (listed (module_write l.base.0 l.submission l.fn.layout l.fn.spans) (length l.yielded))
