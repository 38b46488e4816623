-- The header's fields and the load calculation.                                          rule: LOAD
--     flags_at, on_pages, fields_at, full_header    what a header says
--     load_offset, load_length                      which of the image's bytes are loaded
--     load_end, extent_end                          where the load and the kernel end
-- Sums are exact whole numbers. h are the address fields of a header, o is its offset, n the length of its image.
-- Assumes nothing.
use Rattle.std.specs.Prelude.{Bool, cond, not, List, ℕ, ◌+◌, ◌-◌, ◌%◌, max, eqb}
use Rattle.number.specs.Number.{number_at}
use Rattle.image.specs.declared.load.AddressFields.{AddressFields}

-- the flags of the header at o
abbrev pub flags_at : List ℕ → ℕ → ℕ
flags_at image o = number_at 4 image (o + 4)

-- bit 0 asks for page-aligned modules
abbrev pub on_pages : ℕ → Bool
on_pages flags = not (eqb (flags % 2) 0)

-- a header with its address fields
abbrev pub full_header : ℕ
full_header = 32

-- header_addr, load_addr, load_end_addr, bss_end_addr and entry_addr of the header at o
unfoldable pub fields_at : List ℕ → ℕ → AddressFields
fields_at image o =
    record {
      header_addr = record { 0 = number_at 4 image (o + 12) };
      load_addr = record { 0 = number_at 4 image (o + 16) };
      load_end_addr = record { 0 = number_at 4 image (o + 20) };
      bss_end_addr = record { 0 = number_at 4 image (o + 24) };
      entry_addr = record { 0 = number_at 4 image (o + 28) };
    }

-- header offset − (header_addr − load_addr)
abbrev pub load_offset : AddressFields → ℕ → ℕ
load_offset h o = o - (h.header_addr.0 - h.load_addr.0)

-- load_end_addr − load_addr, or, if load_end_addr is 0, all the image from the load offset, which is never nothing: LoadLaws
unfoldable pub load_length : AddressFields → ℕ → ℕ → ℕ
load_length h offset n = cond (eqb h.load_end_addr.0 0) (n - offset) (h.load_end_addr.0 - h.load_addr.0)

-- load_addr + load length
abbrev pub load_end : AddressFields → ℕ → ℕ
load_end h len = h.load_addr.0 + len

-- the greater of the load end and bss_end_addr, where 0 means no bss
abbrev pub extent_end : AddressFields → ℕ → ℕ
extent_end h len = max (load_end h len) h.bss_end_addr.0
