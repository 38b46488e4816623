-- Which addresses are open.                                                              rule: OPEN
--     bios_data_end    below it lie the interrupt vectors and the BIOS data area
--     is_open          the address is open
-- Assumes nothing.
use Rattle.std.specs.Prelude.{Bool, ◌&&◌, ℕ, leb}
use Rattle.address.specs.Address.{inside}
use Rattle.usable.specs.Usable.{is_usable}
use Rattle.board.specs.declared.Board.{Board}

abbrev pub bios_data_end : ℕ
bios_data_end = 0x500

-- an address is open if it is usable, inside the window and not below 0x500
unfoldable pub is_open : Board → ℕ → Bool
is_open b a = is_usable b.map a && inside b.window.start.0 b.window.end.0 a && leb bios_data_end a
