-- What the rules read in what is lent.
--     layout_in, image_in, kernel_in    the submission's parts, its image, and the kernel in that
--     line_in                           the command line in force
--     board_in                          the memory map and the window
--     block_length_in                   the length of the information block
-- Assumes nothing.
use Rattle.std.specs.Prelude.{List, ℕ, length}
use Rattle.submission.specs.declared.Layout.{Layout}
use Rattle.submission.specs.Layout.{layout_of, bytes_of}
use Rattle.command_line.specs.CommandLine.{command_line}
use Rattle.kernel.specs.declared.Kernel.{Kernel}
use Rattle.image.specs.Judged.{kernel_of}
use Rattle.memory_map.specs.Map.{map_of}
use Rattle.board.specs.declared.Board.{Board}
use Rattle.board.specs.Window.{window_span}
use Rattle.block.specs.Block.{string_lengths, block_length}
use Rattle.decision.specs.Lent.{Lent}

abbrev pub layout_in : Lent → Layout
layout_in x = layout_of x.submission

abbrev pub image_in : Lent → List ℕ
image_in x = bytes_of x.submission (layout_in x).image

abbrev pub kernel_in : Lent → Kernel
kernel_in x = kernel_of (image_in x)

abbrev pub line_in : Lent → List ℕ
line_in x = command_line x.operator x.submission

abbrev pub board_in : Lent → Board
board_in x = record { map = map_of x.map; window = window_span x.first x.size }

abbrev pub block_length_in : Lent → ℕ
block_length_in x = block_length (string_lengths (layout_in x) (layout_in x).count) (length x.map) (length (line_in x))
