-- What is lent, and what the rules read in it.
--     Lent, lent                        submission, operator's line, map, and the window's first address and length
--     layout_in, image_in, kernel_in    the submission's parts, its image, and the kernel in that
--     line_in                           the command line in force
--     board_in                          the memory map and the window
--     block_length_in                   the length of the information block
-- Assumes nothing.
use Rattle.std.specs.Prelude.{List, ℕ}

-- what is lent for reading, and of the window its place alone
pub record Lent : Type 0 where
  pub submission : List ℕ
  pub operator : List ℕ
  pub map : List ℕ
  pub first : ℕ
  pub size : ℕ

abbrev pub lent : List ℕ → List ℕ → List ℕ → ℕ → ℕ → Lent
lent submission operator map first size = record { submission = submission; operator = operator; map = map; first = first; size = size }
